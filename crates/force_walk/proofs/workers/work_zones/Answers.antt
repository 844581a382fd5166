use Rattle.std.proofs.Common.{ℕ, ◌≡◌, ◌∙◌, Global, Vec, length, map, subst, sym}
use Rattle.std.proofs.lemmas.List.{with_items_is}
use Rattle.bh_model.specs.declared.pull.Pull.{Pull}
use Rattle.mass_moments.specs.Kept.{matter_of}
use Rattle.force_walk.specs.Placed.{ByPlace, walk_of}
use Rattle.force_walk.proofs.workers.work_zones.Goals as goal

pub work_all-requires-clause-room : goal.work_all-requires-clause-room
work_all-requires-clause-room g c = λ κs within.
    subst (ByPlace (λ (z : Vec ℕ Global) (l : Vec Pull Global). length l.items ≡ length z.items) c.args.zones.now)
    (sym c.as_mut_slice.ensures.value) c.in_ok-lists.ensures

pub returns : goal.returns
returns g c =
    subst
    (ByPlace (λ (z : Vec ℕ Global) (l : Vec Pull Global). l.items ≡ map (walk_of c.args.law.now (matter_of c.args.bodies.now) c.args.table.now) z.items)
    c.args.zones.now)
    (sym (with_items_is c.in_ok-lists.lists c.work_all.new.lists (c.work_all.auto.lists ∙ c.as_mut_slice.ensures.len))) c.work_all.ensures
