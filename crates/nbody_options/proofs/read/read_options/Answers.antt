use Rattle.std.proofs.Common.{◌≡◌, ◌∙◌, map, string_bytes, is_some, sym, true}
use Rattle.nbody_options.specs.Plain.{given_by}
use Rattle.nbody_options.proofs.Choosing.{refuses_for_memory, values_found}
use Rattle.nbody_options.proofs.read.read_options.Goals as goal

pub unreachable-requires : goal.unreachable-requires
unreachable-requires c =
    let plain : is_some (given_by (map string_bytes c.args.words.now)) ≡ true = sym c.in-Ok-true.ensures ∙ c.in-Ok-true.field-0-test in
    c.in_default.not-OutOfMemory
    (c.kind.ensures ∙ refuses_for_memory _ _ c.in-Err-try_get_matches_from.error c.in-Ok.ensures plain c.in-Err-try_get_matches_from.ensures.kinds)

pub returns-in-Some : goal.returns-in-Some
returns-in-Some c =
    let plain : is_some (given_by (map string_bytes c.args.words.now)) ≡ true = sym c.in-Ok-true.ensures ∙ c.in-Ok-true.field-0-test in
    values_found _ _ c.in-Ok-try_get_matches_from.matches c.in-Ok.ensures plain c.in-Ok-try_get_matches_from.ensures.matches
    ∙ sym c.choices_of.ensures ∙ c.in-Some.is

pub returns : goal.returns
returns c =
    let plain : is_some (given_by (map string_bytes c.args.words.now)) ≡ true = sym c.in-Ok-true.ensures ∙ c.in-Ok-true.field-0-test in
    values_found _ _ c.in-Ok-try_get_matches_from.matches c.in-Ok.ensures plain c.in-Ok-try_get_matches_from.ensures.matches
    ∙ sym c.choices_of.ensures ∙ c.in-None.is
