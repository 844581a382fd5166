-- What one body sees of a scene.
use Rattle.std.specs.Prelude.{◌<◌, ◌≡◌, length}
use Rattle.octant_code.specs.declared.limits.TheConstants.{LEVELS}
use Rattle.octant_code.specs.Space.{key_of}
use Rattle.bh_model.specs.Moments.{Matter}
use Rattle.bh_model.specs.Pulls.{IsPullLaw}
use Rattle.mass_moments.specs.Kept.{matter_of}
use Rattle.scene_file.specs.Bodies.{AreBodies}
use Rattle.force_walk.specs.Least.{AreLeast}
use Rattle.force_walk.specs.declared.view.View.{View}

-- the masses and the points of the bodies
abbrev pub seen : View → Matter
seen v = matter_of v.bodies.now

-- the body is one of a scene's
pub record IsView (v : View) : Type 0 where
  pub bodies : AreBodies v.bodies.now
  pub rule : IsPullLaw v.law.now
  pub least : AreLeast v.law.now v.least.now
  pub within : v.n < length v.bodies.now
  pub from_is : v.from ≡ (seen v).site v.n
  pub own_is : v.own ≡ key_of v.from LEVELS
