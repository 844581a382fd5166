use Rattle.std.proofs.Common.{◌≡◌, ◌∙◌, ◌+◌, ◌<◌, ◌∷◌, [], ℕ, List, Option, Bool, Bor, Some, ap, arith, cond, drop, false, get_or, length, map, sym, true}
use Rattle.std.specs.Str.{bytes_eq}
use Rattle.std.proofs.lemmas.List.{at_drop_all, at_drop_more}
use Rattle.nbody_options.specs.Plain.{Text, name_of}
use Rattle.nbody_options.proofs.plain.name_of.Goals as goal

-- what a name at a place says of those from there on
named_here : (word : Text) (names : List (Bor Text)) (i : ℕ) (name : Text) (test : Bool) → i < length names
    → name ≡ (get_or names i (record { ref_ptr = (0, 0); now = [] })).now → test ≡ bytes_eq word (45 ∷ 45 ∷ name)
    → name_of word (map (λ s. s.now) (drop i names)) ≡ cond test (Some name) (name_of word (map (λ s. s.now) (drop (i + 1) names)))
named_here word names i name test within is tested =
    let rest : Option Text = name_of word (map (λ s. s.now) (drop (i + 1) names)) in
    at_drop_more (λ ns. name_of word (map (λ s. s.now) ns)) names i (record { ref_ptr = (0, 0); now = [] }) within
    ∙ ap (λ n. cond (bytes_eq word (45 ∷ 45 ∷ n)) (Some n) rest) (sym is) ∙ ap (λ b. cond b (Some name) rest) (sym tested)

pub returns-then-has_name : goal.returns-then-has_name
returns-then-has_name c =
    ap (λ n. Some n) (c.as_bytes-then-has_name.ensures.value ∙ sym c.as_bytes.ensures.value)
    ∙ sym (named_here c.args.word.now c.args.names.now c.loop-name.name-index c.as_bytes.result.now true c.loop-name-test.true c.as_bytes.ensures.value
    (sym c.if-has_name.true ∙ c.has_name.ensures))
    ∙ c.loop-name.invariant

pub loop-name-preserved : goal.loop-name-preserved
loop-name-preserved c =
    sym (named_here c.args.word.now c.args.names.now c.loop-name.name-index c.as_bytes.result.now false c.loop-name-test.true c.as_bytes.ensures.value
    (sym c.if-has_name.false ∙ c.has_name.ensures))
    ∙ c.loop-name.invariant

pub returns : goal.returns
returns c =
    sym (at_drop_all (λ ns. name_of c.args.word.now (map (λ s. s.now) ns)) c.args.names.now c.loop-name.name-index (omega arith)) ∙ c.loop-name.invariant
