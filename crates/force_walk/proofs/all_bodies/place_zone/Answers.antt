-- One more pull of a zone stands, and no other is lost.
use Rattle.std.proofs.Common.{◌≡◌, ◌<◌, ◌∙◌, ap, arith, get_or, length}
use Rattle.std.proofs.lemmas.List.{get_or-map}
use Rattle.bh_model.specs.Pulls.{no_pull}
use Rattle.force_walk.proofs.Placements.{put_more}
use Rattle.force_walk.proofs.all_bodies.place_zone.Goals as goal

pub loop-k-preserved : goal.loop-k-preserved
loop-k-preserved c =
    let zone = c.args.zone.now in
    let k = c.loop-k.k in
    let within = c.requires.inside k 0 c.loop-k-test.true in
    let inside : get_or zone k 0 < length c.loop-k.all = omega (arith, within, c.loop-k.auto.all) in
    λ f same.
    let right : get_or c.args.pulls.now k no_pull ≡ f (get_or zone k 0) =
    ap (λ l. get_or l k no_pull) same ∙ get_or-map f zone k 0 no_pull c.loop-k-test.true in
    put_more f c.args.all.now c.loop-k.all zone k (get_or c.args.pulls.now k no_pull) (c.loop-k.invariant f same) inside right
