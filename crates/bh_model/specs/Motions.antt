-- Where bodies are exactly, and how fast they move.
use Rattle.std.specs.Prelude.{ℕ, ℤ}

-- an exact position, in units of 2 ^ -32 of a position unit
pub record Exact : Type 0 where
  pub x : ℕ
  pub y : ℕ
  pub z : ℕ

-- a velocity: how much an exact position changes in a step
pub record Velocity : Type 0 where
  pub x : ℤ
  pub y : ℤ
  pub z : ℤ
