use Rattle.std.proofs.Common.{◌≡◌, ◌∙◌, length, sym}
use Rattle.bh_model.specs.Bodies.{numbers}
use Rattle.library_rows.proofs.Masses.{all_within, points_count}
use Rattle.library_rows.proofs.plain.plain_share.Goals as goal

pub plain_zone-requires : goal.plain_zone-requires
plain_zone-requires c =
    let count = c.len-count.result in
    let all : c.deref.result.now ≡ numbers count = c.deref.ensures.value ∙ c.in_ok-all.ensures in
    let long = c.len-count.ensures.value in
    let sites = points_count c.args.bodies.now c.in_ok-points.points c.in_ok-points.ensures in
    record {
      within = all_within c.deref.result.now count (length c.in_ok-points.points) all (long ∙ sym sites);
      costed = all_within c.deref.result.now count (length c.args.costs.now) all (long ∙ sym c.requires.one_each);
    }
