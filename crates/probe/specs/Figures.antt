-- What is told of a frame.
use Rattle.std.specs.Prelude.{ℕ, ℤ, ◌-◌, ◌^◌}
use Rattle.bh_model.specs.Pulls.{IsWithin}

-- the frame's number, its bodies and cells, the cost of all bodies and the greatest of a zone, the terms of all pulls, and the sums of mass times acceleration
pub record FrameFigures : Type 0 where
  pub step : ℕ
  pub bodies : ℕ
  pub cells : ℕ
  pub cost : ℕ
  pub greatest : ℕ
  pub met : ℕ
  pub push_x : ℤ
  pub push_y : ℤ
  pub push_z : ℤ

-- each sum of mass times acceleration is below 2 ^ 120 in size
pub record HasSmallPush (f : FrameFigures) : Type 0 where
  pub x : IsWithin (2 ^ 120 - 1) f.push_x
  pub y : IsWithin (2 ^ 120 - 1) f.push_y
  pub z : IsWithin (2 ^ 120 - 1) f.push_z
