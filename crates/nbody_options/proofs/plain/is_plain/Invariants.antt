use Rattle.std.proofs.Common.{◌≡◌, drop, map, option_map, string_bytes, is_some}
use Rattle.nbody_options.specs.Plain.{Given, given_after, given_by}
use Rattle.nbody_options.proofs.plain.is_plain.Given as goal

abbrev pub invariant-loop-word : goal.invariant-loop-word
invariant-loop-word l =
    (given : Given) × (map (λ p. p.0) given ≡ map (λ s. s.now) l.given.items)
    × (is_some (given_after (map string_bytes (drop l.word-index l.words)) (record { given = given; waits = option_map (λ s. s.now) l.waits }))
    ≡ is_some (given_by (map string_bytes l.words)))
