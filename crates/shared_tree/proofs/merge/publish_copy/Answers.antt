use Rattle.std.proofs.Common.{◌∙◌, ◌≤◌, ℕ, length, sym, take}
use Rattle.tree_passes.specs.Counting.{times}
use Rattle.tree_passes.specs.Turns.{IsStill}
use Rattle.tree_passes.proofs.Laws.{place_still, ready_on, some_held, still_written}
use Rattle.shared_tree.specs.Copying.{bodies_under}
use Rattle.shared_tree.specs.Merging.{IsPartIn}
use Rattle.shared_tree.proofs.PartPuts.{few_taken, part_on, put_from, put_whole, ready_copy, room_below}
use Rattle.shared_tree.proofs.Puts.{written_free}
use Rattle.shared_tree.proofs.merge.publish_copy.Given.{Over}
use Rattle.shared_tree.proofs.merge.publish_copy.Goals.{After-copy_part-copied}
use Rattle.shared_tree.proofs.merge.publish_copy.Goals as goal

pub copy_part-copied-requires-clause-room : goal.copy_part-copied-requires-clause-room
copy_part-copied-requires-clause-room g c =
    room_below c.args.spot.level (length (bodies_under c.args.part.now)) (length c.args.spare.now) c.requires.at.part.low c.requires.stock

-- the pass only wrote into its cells before it published
still : (g : Over) (c : After-copy_part-copied g) → IsStill c.args.pass.now.me.0 c.copy_part-copied.new.pass.me.0
still g c = still_written _ _ _ c.copy_part-copied.ensures.wrote

-- and is at the word
at : (g : Over) (c : After-copy_part-copied g)
    → IsPartIn c.copy_part-copied.new.pass.me.0 c.args.table.now.table_id.words c.args.points.now c.args.part.now c.args.key c.args.spot
at g c =
    part_on _ _ _ _ _ _ _ (still g c)
    (written_free c.args.pass.now.me.0 c.copy_part-copied.new.pass.me.0 _ c.copy_part-copied.ensures.wrote (c.requires.at.no_lock, c.requires.at.none_under))
    c.requires.at

-- with the cells of the copy
among : (g : Over) (c : After-copy_part-copied g) (d : ℕ)
    → times d (take c.copy_part-copied.result.used c.args.spare.now) ≤ times d c.copy_part-copied.new.pass.me.0.held
among g c d = some_held _ _ _ c.copy_part-copied.result.used (ready_on _ _ _ _ _ c.copy_part-copied.ensures.wrote c.requires.ready) d

pub publish-found-requires-clause-long : goal.publish-found-requires-clause-long
publish-found-requires-clause-long g c = (at g (goal.at.publish-found-requires-clause-long g c).After-copy_part-copied).long

pub publish-found-requires-clause-no_lock : goal.publish-found-requires-clause-no_lock
publish-found-requires-clause-no_lock g c =
    let a = at g (goal.at.publish-found-requires-clause-no_lock g c).After-copy_part-copied in
    (a.no_lock, a.none_under)

pub publish-found-requires-clause-ready : goal.publish-found-requires-clause-ready
publish-found-requires-clause-ready g c =
    let d = (goal.at.publish-found-requires-clause-ready g c).After-copy_part-copied in
    let a = at g d in
    let e = c.copy_part-copied.ensures in (
      c.args.key,
      a.known,
      ready_copy c.copy_part-copied.new.pass.me.0 c.args.points.now c.args.key _ _ (take c.copy_part-copied.result.used c.args.spare.now)
          (bodies_under c.args.part.now) c.args.other a.points (among g d) a.todo c.word_of_other-old.ensures (λ y is. e.grows y is c.requires.some) e.stands,
    )

pub returns-then-found-old-clause-tried : goal.returns-then-found-old-clause-tried
returns-then-found-old-clause-tried g c =
    let d = (goal.at.returns-then-found-old-clause-tried g c).After-copy_part-copied in
    let e = c.copy_part-copied.ensures in
    put_from c.args.pass.now.me.0 c.copy_part-copied.new.pass.me.0 _ (bodies_under c.args.part.now) c.args.spare.now c.copy_part-copied.result (still g d)
    (record {
      within = e.within;
      whole = put_whole _ _ _ _ (among g d) (at g d).todo
          (few_taken c.args.spot.level (length (bodies_under c.args.part.now)) _ c.args.spare.now c.requires.at.part.low e.within e.few)
          (c.publish-found.ensures.hit c.if-found-old.true);
      count = e.bodies;
    })

pub returns-else-found-old-clause-tried : goal.returns-else-found-old-clause-tried
returns-else-found-old-clause-tried g c =
    let s = still g (goal.at.returns-else-found-old-clause-tried g c).After-copy_part-copied in
    record {
      copied = c.copy_part-copied.new.pass.me.0;
      still = s;
      apart = λ e. c.if-found-old.false (e ∙ sym c.word_of_other-old.ensures);
      other = c.publish-found.ensures.miss c.if-found-old.false _ (place_still _ _ _ _ s c.requires.at.known);
    }
