use Rattle.std.proofs.Common.{◌≡◌, ◌∙◌, ◌<◌, ◌∷◌, [], List, Vec, Global, map, Ok, length, ap, arith, nat_eq, refl, sym}
use Rattle.std.specs.HashMap as hash
use Rattle.std.proofs.lemmas.List.{length-map, map-append}
use Rattle.scene_file.specs.Bodies.{AreBodies}
use Rattle.scene_file.specs.Moves.{shifted}
use Rattle.scene_file.specs.Scene.{SoFar, with_pass}
use Rattle.scene_file.specs.declared.moves.Move.{Move}
use Rattle.scene_file.proofs.Finding.{found_apart}
use Rattle.scene_file.proofs.PassingRule.{here_long, here_rule, pass_more, pass_ok, passing_closed, unmoved}
use Rattle.scene_file.proofs.Shifts.{shifted-length, shifted_inside}
use Rattle.scene_file.proofs.passing.Passing.close.Goals as goal
use Rattle.scene_file.proofs.passing.Passing.close.Goals.{After-moved_list-present}

pub moved_list-present-requires : goal.moved_list-present-requires
moved_list-present-requires c =
    let rule = c.self.invariant in
    rw (c.deref.ensures.value, here_long _ _ _ _ _ rule) rule.known

-- the bodies after the pass
after : (c : After-moved_list-present) → c.moved_list-present.result.items ≡ shifted c.self.inside.moves.items c.self.inside.present.items
after c = c.moved_list-present.ensures ∙ ap (λ (m : List Move). shifted m c.self.inside.present.items) c.deref.ensures.value

pub settle-requires-clause-known : goal.settle-requires-clause-known
settle-requires-clause-known c =
    let rule = c.self.invariant in
    let is = after (goal.at.settle-requires-clause-known c).After-moved_list-present in
    rw (
      c.deref-3.ensures.value,
      c.deref-2.ensures.value,
      is,
      shifted-length c.self.inside.moves.items c.self.inside.present.items,
      here_long _ _ _ _ _ rule,
    ) rule.known

pub settle-requires-clause-inside : goal.settle-requires-clause-inside
settle-requires-clause-inside c =
    let rule = c.self.invariant in
    let is = after (goal.at.settle-requires-clause-inside c).After-moved_list-present in
    let here : AreBodies c.self.inside.present.items = here_rule _ _ _ _ _ rule in
    rw (c.deref-2.ensures.value, is) (shifted_inside c.self.inside.moves.items c.self.inside.present.items rule.in_cube here.in_cube)

pub settle-requires-clause-found : goal.settle-requires-clause-found
settle-requires-clause-found c = λ j less none.
    let rule = c.self.invariant in
    let moves = c.self.inside.moves.items in
    let here = c.self.inside.present.items in
    let is = after (goal.at.settle-requires-clause-found c).After-moved_list-present in
    let unnamed = rw c.deref-3.ensures.value at none in
    let within : j < length here = rw (c.deref-2.ensures.value, is, shifted-length moves here) at less in
    rw (c.deref-2.ensures.value, is, unmoved moves here j unnamed) (rule.found j within)

pub meeting-requires-clause-few : goal.meeting-requires-clause-few
meeting-requires-clause-few c =
    let rule = c.self.invariant in
    let is = after (goal.at.meeting-requires-clause-few c).After-moved_list-present in
    let here : AreBodies c.self.inside.present.items = here_rule _ _ _ _ _ rule in
    rw (c.deref-then-not-settled.ensures.value, is, shifted-length c.self.inside.moves.items c.self.inside.present.items) here.few

pub meeting-requires-clause-meet : goal.meeting-requires-clause-meet
meeting-requires-clause-meet c = λ apart.
    let told = rw c.if-not-settled.true at c.in_ok-settled.ensures in
    told (rw (c.deref-then-not-settled.ensures.value, ← c.deref-2.ensures.value) at apart)

pub invariant_of-result : goal.invariant_of-result
invariant_of-result c =
    let rule = c.self.invariant in
    let fields = c.self.inside in
    let passes : List (List Move) = map (λ (v : Vec Move Global). v.items) fields.passes.items in
    let is = after (goal.at.invariant_of-result c).After-moved_list-present in
    let told = rw c.if-not-settled.false at c.in_ok-settled.ensures in
    let found = rw c.deref-2.ensures.value at told in
    let mapped = length-map fields.passes.items (λ (v : Vec Move Global). v.items) in
    let own = fields.passes.ok.0 in
    let many = c.len.ensures in
    let below = c.if-len.false in
    let room : length passes < 1024 = omega arith in
    rw (c.in-Ok.ensures.items, map-append (λ (v : Vec Move Global). v.items) fields.passes.items (fields.moves ∷ []), c.new.ensures.items)
    (passing_closed (record { bodies = fields.bodies.items; passes = passes; moves = fields.moves.items }) fields.present.items
    c.moved_list-present.result.items _ _ fields.named.items fields.count rule is room found)

pub returns : goal.returns
returns c =
    let rule = c.self.invariant in
    let fields = c.self.inside in
    let passes : List (List Move) = map (λ (v : Vec Move Global). v.items) fields.passes.items in
    let so_far : SoFar = record { bodies = fields.bodies.items; passes = passes; moves = fields.moves.items } in
    let is = after (goal.at.returns c).After-moved_list-present in
    let told = rw c.if-not-settled.false at c.in_ok-settled.ensures in
    let found = rw c.deref-2.ensures.value at told in
    let mapped = length-map fields.passes.items (λ (v : Vec Move Global). v.items) in
    let own = fields.passes.ok.0 in
    let many = c.len.ensures in
    let below = c.if-len.false in
    let room : length passes < 1024 = omega arith in
    let same : pass_more so_far ≡ record {
      bodies = fields.bodies.items;
      passes = map (λ (v : Vec Move Global). v.items) c.push.new.self.items;
      moves = c.new.result.items;
    } =
    rw (c.in-Ok.ensures.items, map-append (λ (v : Vec Move Global). v.items) fields.passes.items (fields.moves ∷ []), c.new.ensures.items) refl in
    ap (λ (s : SoFar). with_pass c.args.number s) (sym c.self.view_is)
    ∙ pass_ok c.args.number so_far fields.present.items c.moved_list-present.result.items (λ q. hash.get nat_eq fields.numbers q) fields.named.items
    fields.count
    rule is room (found_apart c.moved_list-present.result.items (λ q. hash.get nat_eq c.settle.new.numbers q) found)
    ∙ ap Ok same
