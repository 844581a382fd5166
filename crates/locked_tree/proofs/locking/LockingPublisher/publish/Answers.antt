use Rattle.std.proofs.Common.{◌∙◌, ℕ, [], ◌∷◌, ap, subst}
use Rattle.tree_passes.specs.Counting.{Has}
use Rattle.tree_passes.specs.Plays.{LookedUnder}
use Rattle.tree_passes.proofs.Laws.{place_still}
use Rattle.locked_tree.proofs.Publishes.{has_found, has_published, loaded_under, lock_held, lock_of, lock_still, long_still, place_locked}
use Rattle.locked_tree.proofs.Publishes.{put_parts, ready_under, still_under, unlocked_parts}
use Rattle.locked_tree.proofs.locking.LockingPublisher.publish.Given.{Over}
use Rattle.locked_tree.proofs.locking.LockingPublisher.publish.Goals.{After-load_locked-found}
use Rattle.locked_tree.proofs.locking.LockingPublisher.publish.Goals as goal

pub take_lock-requires-clause-lock : goal.take_lock-requires-clause-lock
take_lock-requires-clause-lock g c = lock_of _ _ c.requires.spot.lock_is

pub load_locked-found-requires-clause-known : goal.load_locked-found-requires-clause-known
load_locked-found-requires-clause-known g c =
    let r = c.requires.ready in
    (r.0, place_locked c.args.pass.now.me.0 c.take_lock.new.pass.me.0 (c.args.spot.lock ∷ []) _ _ c.take_lock.ensures.taken r.1)

pub load_locked-found-requires-clause-held : goal.load_locked-found-requires-clause-held
load_locked-found-requires-clause-held g c =
    lock_held c.take_lock.new.pass.me.0 _ _ c.requires.spot.lock_is (ap (λ z. z.locks) c.take_lock.ensures.taken)

-- what the load told, with the key of the word
looked : (g : Over) (c : After-load_locked-found g) → LookedUnder c.take_lock.new.pass.me.0 c.args.spot.word c.requires.ready.0 c.load_locked-found.result
    c.load_locked-found.new.pass.me.0
looked g c =
    let r = c.requires.ready in
    c.load_locked-found.ensures.looked _ (place_locked c.args.pass.now.me.0 c.take_lock.new.pass.me.0 (c.args.spot.lock ∷ []) _ _ c.take_lock.ensures.taken r.1)

pub unlock-requires-clause-long : goal.unlock-requires-clause-long
unlock-requires-clause-long g c =
    long_still c.args.pass.now.me.0 _ _ (c.args.spot.lock ∷ []) _ _ _ _ c.take_lock.ensures.taken
    (looked g (goal.at.unlock-requires-clause-long g c).After-load_locked-found) c.requires.long

pub unlock-requires-clause-held : goal.unlock-requires-clause-held
unlock-requires-clause-held g c =
    lock_still c.args.pass.now.me.0 _ _ c.args.spot.lock _ _ _ c.take_lock.ensures.taken
    (looked g (goal.at.unlock-requires-clause-held g c).After-load_locked-found)

pub returns-then-found-old-clause-no_lock : goal.returns-then-found-old-clause-no_lock
returns-then-found-old-clause-no_lock g c = unlocked_parts c.load_locked-found.new.pass.me.0 c.unlock.new.pass.me.0 c.unlock.ensures.free

pub returns-then-found-old-clause-miss : goal.returns-then-found-old-clause-miss
returns-then-found-old-clause-miss g c = λ apart key known.
    has_found c.args.pass.now.me.0 c.take_lock.new.pass.me.0 c.load_locked-found.new.pass.me.0 c.args.spot.lock c.args.spot.word key
    c.load_locked-found.result c.take_lock.ensures.taken c.requires.no_lock
    (c.load_locked-found.ensures.looked key (place_locked c.args.pass.now.me.0 c.take_lock.new.pass.me.0 (c.args.spot.lock ∷ []) _ _
    c.take_lock.ensures.taken known))
    c.unlock.new.pass.me.0 c.unlock.ensures.free

pub store_locked-requires-clause-ready : goal.store_locked-requires-clause-ready
store_locked-requires-clause-ready g c =
    let r = c.requires.ready in
    let l = looked g (goal.at.store_locked-requires-clause-ready g c).After-load_locked-found in (
      r.0,
      place_still _ _ _ _ (still_under _ _ _ _ _ l)
          (place_locked c.args.pass.now.me.0 c.take_lock.new.pass.me.0 (c.args.spot.lock ∷ []) _ _ c.take_lock.ensures.taken r.1),
      ready_under c.args.pass.now.me.0 _ _ (c.args.spot.lock ∷ []) _ _ _ _ _ _ _ _ c.take_lock.ensures.taken l r.2,
    )

pub store_locked-requires-clause-held : goal.store_locked-requires-clause-held
store_locked-requires-clause-held g c =
    lock_held c.load_locked-found.new.pass.me.0 _ _ c.requires.spot.lock_is
    (lock_still c.args.pass.now.me.0 _ _ c.args.spot.lock _ _ _ c.take_lock.ensures.taken
    (looked g (goal.at.store_locked-requires-clause-held g c).After-load_locked-found))

pub store_locked-requires-clause-loaded : goal.store_locked-requires-clause-loaded
store_locked-requires-clause-loaded g c =
    subst (λ (z : ℕ). Has c.load_locked-found.new.pass.me.0.under (c.args.spot.word, z)) c.if-found-old.false
    (loaded_under _ _ _ _ _ (looked g (goal.at.store_locked-requires-clause-loaded g c).After-load_locked-found))

pub unlock-requires-2-clause-long : goal.unlock-requires-2-clause-long
unlock-requires-2-clause-long g c =
    (put_parts c.load_locked-found.new.pass.me.0 c.store_locked.new.pass.me.0 g.B.Batch.cells g.B.Batch.bodies _ c.store_locked.ensures.put).1
    ∙ long_still c.args.pass.now.me.0 _ _ (c.args.spot.lock ∷ []) _ _ _ _ c.take_lock.ensures.taken
    (looked g (goal.at.unlock-requires-2-clause-long g c).After-load_locked-found) c.requires.long

pub unlock-requires-2-clause-held : goal.unlock-requires-2-clause-held
unlock-requires-2-clause-held g c =
    (put_parts c.load_locked-found.new.pass.me.0 c.store_locked.new.pass.me.0 g.B.Batch.cells g.B.Batch.bodies _ c.store_locked.ensures.put).0
    ∙ lock_still c.args.pass.now.me.0 _ _ c.args.spot.lock _ _ _ c.take_lock.ensures.taken
    (looked g (goal.at.unlock-requires-2-clause-held g c).After-load_locked-found)

pub returns-clause-no_lock : goal.returns-clause-no_lock
returns-clause-no_lock g c = unlocked_parts c.store_locked.new.pass.me.0 c.unlock-2.new.pass.me.0 c.unlock-2.ensures.free

pub returns-clause-hit : goal.returns-clause-hit
returns-clause-hit g c = λ e.
    has_published c.args.pass.now.me.0 c.take_lock.new.pass.me.0 c.load_locked-found.new.pass.me.0 c.args.spot.lock c.args.spot.word c.requires.ready.0
    c.load_locked-found.result c.take_lock.ensures.taken c.requires.no_lock
    (looked g (goal.at.returns-clause-hit g c).After-load_locked-found) c.store_locked.new.pass.me.0 c.unlock-2.new.pass.me.0 g.B.Batch.cells
    g.B.Batch.bodies _ c.store_locked.ensures.put c.unlock-2.ensures.free
