use Rattle.std.proofs.Common.{◌≡◌, ◌∙◌, length, map, sym, arith}
use Rattle.bh_model.specs.Bodies.{numbers}
use Rattle.scene_file.specs.declared.bodies.Body.{Body}
use Rattle.library_rows.proofs.Masses.{all_once, all_within, masses_count, masses_light, points_count}
use Rattle.library_rows.proofs.plain.plain_on.Goals as goal

pub plain_pull-requires : goal.plain_pull-requires
plain_pull-requires c =
    let bodies = c.args.bodies.now in
    let count = c.len-count.result in
    let masses : c.deref.result.now ≡ map (λ (b : Body). b.mass) bodies = c.deref.ensures.value ∙ c.in_ok-masses.ensures in
    let all : c.deref-2.result.now ≡ numbers count = c.deref-2.ensures.value ∙ c.in_ok-all.ensures in
    let long = c.len-count.ensures.value in
    let sites = points_count bodies c.in_ok-points.points c.in_ok-points.ensures in
    record {
      distinct = all_once c.deref-2.result.now count all;
      within = all_within c.deref-2.result.now count (length c.in_ok-points.points) all (long ∙ sym sites);
      weighed = all_within c.deref-2.result.now count (length c.deref.result.now) all (long ∙ sym (masses_count bodies c.deref.result.now masses));
      light = masses_light bodies c.deref.result.now c.deref-2.result.now count c.len-count.ensures.rule long masses all;
      own = omega (arith, c.requires, sites);
    }
