-- What was placed in the list's slice stands in the list.
use Rattle.std.proofs.Common.{◌≡◌, ◌∙◌, List, ap, arith, get_or, length, subst, sym}
use Rattle.std.proofs.lemmas.List.{with_items_is}
use Rattle.std.specs.Vec.{with_items}
use Rattle.bh_model.specs.Pulls.{no_pull}
use Rattle.bh_model.specs.declared.pull.Pull.{Pull}
use Rattle.force_walk.proofs.all_bodies.place_all.Goals.{After-place_zones}
use Rattle.force_walk.proofs.all_bodies.place_all.Goals as goal

back : (c : After-place_zones) → (with_items c.in_ok-all.all c.place_zones.new.all).items ≡ c.place_zones.new.all
back c = with_items_is c.in_ok-all.all c.place_zones.new.all (c.place_zones.auto.all ∙ c.as_mut_slice.ensures.len)

pub place_zones-requires-clause-inside : goal.place_zones-requires-clause-inside
place_zones-requires-clause-inside c = λ j d l k e m. omega (arith, c.requires.inside j d l k e m, c.as_mut_slice.ensures.len, c.in_ok-all.ensures.len)

pub returns-clause-long : goal.returns-clause-long
returns-clause-long c =
    ap length (back (goal.at.returns-clause-long c).After-place_zones) ∙ c.place_zones.auto.all ∙ c.as_mut_slice.ensures.len ∙ c.in_ok-all.ensures.len

pub returns-clause-placed : goal.returns-clause-placed
returns-clause-placed c = λ f n same found.
    subst (λ (l : List Pull). get_or l n no_pull ≡ f n) (sym (back (goal.at.returns-clause-placed c).After-place_zones))
    (c.place_zones.ensures f n same found)
