use Rattle.std.proofs.Common.{◌≡◌, ◌∙◌, ◌<◌, ◌≤◌, ◌+◌, ◌&&◌, true, false, not, List, Option, [], ◌∷◌, ◌++◌, drop, map, option_map, string_bytes, length}
use Rattle.std.proofs.Common.{get_or, is_some, arith, rules, sym, ap, ap₂, Some, codes}
use Rattle.std.specs.List.{list_any}
use Rattle.std.specs.Str.{bytes_eq}
use Rattle.std.proofs.lemmas.List.{at_drop_more, at_drop_all, map-append}
use Rattle.nbody_options.specs.Plain.{Text, given_after, given_by, is_given, is_value, meant}
use Rattle.nbody_options.proofs.PlainWords.{gives_next, names_given, plain_end, refused_next, waits_next}
use Rattle.nbody_options.proofs.plain.is_plain.Goals as goal
use Rattle.nbody_options.proofs.plain.is_plain.Goals.{then-not-is_value-via-then-not-is_value, then-not-is_value-via-else-not-is_value+then-contains, in-None}
use Rattle.nbody_options.proofs.plain.is_plain.Goals.{in-Some+else-not-is_value+else-contains+else-is_err, then-is_none, else-is_none}

pub returns-then-not-is_value : goal.returns-then-not-is_value
returns-then-not-is_value c =
    let within : c.loop-word.word-index < length c.args.words.now = omega arith in
    let inv = c.loop-word.invariant in
    let waits : Option Text = option_map (λ s. s.now) c.loop-word.waits in
    let word : Text = string_bytes (get_or c.args.words.now c.loop-word.word-index c.word-item.result) in
    let rest : List Text = map string_bytes (drop (c.loop-word.word-index + 1) c.args.words.now) in
    let name : Text = c.meant.result.0.now in
    let step = at_drop_more (λ ws. is_some (given_after (map string_bytes ws) (record { given = inv.0; waits = waits }))) c.args.words.now
    c.loop-word.word-index c.word-item.result within in
    let about : meant waits word ≡ (name, Some c.in-Some.value.now) =
    ap (λ i. meant waits (string_bytes i)) (sym c.word-item.is) ∙ ap (meant waits) (sym c.as_bytes.ensures.value) ∙ sym c.meant.ensures
    ∙ ap (λ o. (name, option_map (λ s. s.now) o)) c.in-Some.is in
    let refused : (is_value c.in-Some.value.now && not (is_given name inv.0)) ≡ false → false ≡ is_some (given_by (map string_bytes c.args.words.now)) =
    λ bad. sym (refused_next inv.0 waits word rest name c.in-Some.value.now about bad) ∙ (sym step ∙ inv.2) in
    elim c.then-not-is_value.branch [
      | then-not-is_value-via-then-not-is_value w ↦ refused (ap (λ b. b && not (is_given name inv.0)) (sym c.is_value.ensures ∙ w.if-not-is_value.true))
      | then-not-is_value-via-else-not-is_value+then-contains w ↦
          let known = sym (names_given inv.0 c.loop-word.given.items name inv.1) ∙ ap (list_any (λ s. bytes_eq s.now name)) (sym w.deref.ensures.value)
          ∙ sym w.contains.ensures.value ∙ w.if-contains.true in
          refused (ap₂ (λ a b. a && not b) (sym c.is_value.ensures ∙ w.if-not-is_value.false) known)
    ]

pub loop-word-preserved : goal.loop-word-preserved
loop-word-preserved c =
    let within : c.loop-word.word-index < length c.args.words.now = omega arith in
    let inv = c.loop-word.invariant in
    let waits : Option Text = option_map (λ s. s.now) c.loop-word.waits in
    let word : Text = string_bytes (get_or c.args.words.now c.loop-word.word-index c.word-item.result) in
    let rest : List Text = map string_bytes (drop (c.loop-word.word-index + 1) c.args.words.now) in
    let name : Text = c.meant.result.0.now in
    let step = at_drop_more (λ ws. is_some (given_after (map string_bytes ws) (record { given = inv.0; waits = waits }))) c.args.words.now
    c.loop-word.word-index c.word-item.result within in
    let about : meant waits word ≡ (name, option_map (λ s. s.now) c.meant.result.1) =
    ap (λ i. meant waits (string_bytes i)) (sym c.word-item.is) ∙ ap (meant waits) (sym c.as_bytes.ensures.value) ∙ sym c.meant.ensures in
    elim c.match-value.branch [
      | in-None w ↦
          let use_is = about ∙ ap (λ o. (name, option_map (λ s. s.now) o)) w.in-None.is in (
            inv.0,
            inv.1 ∙ ap (λ v. map (λ s. s.now) v.items) (sym w.given-is),
            ap (λ o. is_some (given_after rest (record { given = inv.0; waits = option_map (λ s. s.now) o }))) w.waits-is
                ∙ ap is_some (sym (waits_next inv.0 waits word rest name use_is)) ∙ (sym step ∙ inv.2),
          )
      | in-Some+else-not-is_value+else-contains+else-is_err w ↦
          let value : Text = w.in-Some.value.now in
          let use_is = about ∙ ap (λ o. (name, option_map (λ s. s.now) o)) w.in-Some.is in
          let proper : is_value value ≡ true = sym w.is_value.ensures ∙ w.if-not-is_value.false in
          let new : is_given name inv.0 ≡ false =
          sym (names_given inv.0 c.loop-word.given.items name inv.1) ∙ ap (list_any (λ s. bytes_eq s.now name)) (sym w.deref.ensures.value)
          ∙ sym w.contains.ensures.value ∙ w.if-contains.false in
          let items : c.match-value.given.items ≡ c.loop-word.given.items ++ c.meant.result.0 ∷ [] = search rules in (
            inv.0 ++ (name, value) ∷ [],
            map-append (λ p. p.0) inv.0 ((name, value) ∷ []) ∙ ap (λ ns. ns ++ name ∷ []) inv.1
                ∙ sym (ap (map (λ s. s.now)) items ∙ map-append (λ s. s.now) c.loop-word.given.items (c.meant.result.0 ∷ [])),
            ap (λ o. is_some (given_after rest (record { given = inv.0 ++ (name, value) ∷ []; waits = option_map (λ s. s.now) o }))) w.waits-is
                ∙ ap is_some (sym (gives_next inv.0 waits word rest name value use_is proper new)) ∙ (sym step ∙ inv.2),
          )
    ]

pub returns : goal.returns
returns c =
    let past : length c.args.words.now ≤ c.loop-word.word-index = omega arith in
    let inv = c.loop-word.invariant in
    let end = sym (at_drop_all
    (λ ws. is_some (given_after (map string_bytes ws) (record { given = inv.0; waits = option_map (λ s. s.now) c.loop-word.waits }))) c.args.words.now
    c.loop-word.word-index past) ∙ inv.2 in
    elim c.if-is_none.branch [
      | then-is_none w ↦
          let known = sym (names_given inv.0 c.loop-word.given.items (codes "command") inv.1)
          ∙ ap (list_any (λ s. bytes_eq s.now (codes "command"))) (sym w.deref-then-is_none.ensures.value)
          ∙ ap (λ t. list_any (λ s. bytes_eq s.now t) w.deref-then-is_none.result.now) (sym w.as_bytes-then-is_none.ensures.value)
          ∙ sym w.contains-then-is_none.ensures.value in
          w.result-is ∙ (sym (ap₂ (λ a b. a && b) (ap not (c.is_none.ensures ∙ ap not w.if-is_none.true)) known)
          ∙ (sym (plain_end inv.0 c.loop-word.waits) ∙ end))
      | else-is_none w ↦
          w.result-is ∙ w.if-is_none.false
          ∙ (sym (ap (λ a. a && is_given (codes "command") inv.0) (ap not (c.is_none.ensures ∙ ap not w.if-is_none.false)))
          ∙ (sym (plain_end inv.0 c.loop-word.waits) ∙ end))
    ]
