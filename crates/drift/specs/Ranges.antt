-- How far exact positions and velocities range.
use Rattle.std.specs.Prelude.{◌<◌, ◌^◌}
use Rattle.bh_model.specs.Motions.{Exact, Velocity}
use Rattle.bh_model.specs.Pulls.{IsWithin}

-- an exact position lies in the cube: its side is 2 ^ 21 positions, each of 2 ^ 32 units
pub record IsExact (e : Exact) : Type 0 where
  pub x_fits : e.x < 2 ^ 53
  pub y_fits : e.y < 2 ^ 53
  pub z_fits : e.z < 2 ^ 53

-- a velocity is at most 2 ^ 50 units in a step, along each axis and in either direction
pub record IsVelocity (v : Velocity) : Type 0 where
  pub x_fits : IsWithin (2 ^ 50) v.x
  pub y_fits : IsWithin (2 ^ 50) v.y
  pub z_fits : IsWithin (2 ^ 50) v.z
