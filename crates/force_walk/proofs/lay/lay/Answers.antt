use Rattle.std.proofs.Common.{arith}
use Rattle.bh_model.proofs.Splits.{on_ok_map}
use Rattle.mass_moments.specs.Kept.{matter_of}
use Rattle.force_walk.proofs.Cubes.{cube_body}
use Rattle.force_walk.proofs.Layings.{added_none, added_one}
use Rattle.force_walk.proofs.lay.lay.Goals as goal

pub node_of_body-requires : goal.node_of_body-requires
node_of_body-requires c = cube_body c.in-Body.ensures c.requires.cube

pub returns-in-Nothing : goal.returns-in-Nothing
returns-in-Nothing c = added_none (matter_of c.args.bodies.now) c.args.least.now c.args.down c.args.laid.now c.in-Nothing.ensures

pub returns-in-Body : goal.returns-in-Body
returns-in-Body c =
    on_ok_map c.push.result _ _
    (λ added. added_one (matter_of c.args.bodies.now) c.args.least.now c.args.down c.in-Body.ensures c.node_of_body.ensures (omega arith) added)
    c.push.ensures
