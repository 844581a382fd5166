use Rattle.std.proofs.Common.{◌≡◌, ◌+◌, ◌==◌, ◌<◌, List, Vec, Global, map, false, length, get_or, arith}
use Rattle.std.proofs.lemmas.Bool.Decides.{nat_tests}
use Rattle.std.proofs.lemmas.List.{get_or_read, length-map}
use Rattle.scene_file.specs.declared.moves.Move.{Move}
use Rattle.scene_file.proofs.PassingRule.{passing_step}
use Rattle.scene_file.proofs.passing.Passing.add.Goals as goal

pub invariant_of-self-2 : goal.invariant_of-self-2
invariant_of-self-2 c =
    let fields = c.self.inside in
    let move = c.args.step.now in
    let passes : List (List Move) = map (λ (v : Vec Move Global). v.items) fields.passes.items in
    let pass = c.len-2.result + 1 in
    let many = c.len-2.ensures in
    let own = fields.passes.ok.0 in
    let mapped = length-map fields.passes.items (λ (v : Vec Move Global). v.items) in
    let is : pass ≡ length passes + 1 = omega arith in
    let few = c.if-self-ge-MOST_MOVES.false in
    let room = c.if-n-len.false in
    let bound = c.len.ensures in
    let named_own = fields.named.ok.0 in
    let within : move.body < length fields.named.items = omega arith in
    let read = get_or_read fields.named.items move.body c.index.result.now within c.index.ensures 0 in
    let differ = c.if-index-pass.false in
    let other : (get_or fields.named.items move.body 0 == pass) ≡ false = grind (arith, nat_tests) in
    passing_step (record { bodies = fields.bodies.items; passes = passes; moves = fields.moves.items }) fields.present.items _ fields.named.items
    fields.count move
    c.push.new.self.items pass c.self.invariant c.in-Ok.ensures.items is (omega arith) within other c.requires
