-- What contracts see of a region.
use Rattle.std.specs.Prelude.{ℕ, ◌≡◌, ◌+◌, ◌-◌, ◌≤◌, ◌++◌, List, drop, length, take}
use Rattle.bh_model.specs.Bodies.{NoneTwice}

-- free cells by their numbers, and how many there is room for
pub record Free : Type 0 where
  pub cells : List ℕ
  pub room : ℕ

-- no number stands twice, and all have room
pub record IsRegion (r : Free) : Type 0 where
  pub once : NoneTwice r.cells
  pub fits : length r.cells ≤ r.room

-- the last `n` cells stand in a region of their own, which has room for just these
pub record Splits (before after : Free) (n : ℕ) (tail : Free) : Type 0 where
  pub cells : before.cells ≡ after.cells ++ tail.cells
  pub count : length tail.cells ≡ n
  pub room : tail.room ≡ n
  pub room_stays : after.room ≡ before.room

-- the first `front` members of a list, and after them the last `back`
abbrev pub ends_of : ℕ → ℕ → List ℕ → List ℕ
ends_of front back l = take front l ++ drop (length l - back) l

-- and those between them
abbrev pub between : ℕ → ℕ → List ℕ → List ℕ
between front back l = drop front (take (length l - back) l)

-- the first `front` cells, and after them the last `back`, stand in a region of their own, which has room for them and for `more` others, and took that room
pub record SplitsEnds (before after : Free) (front back more : ℕ) (ends : Free) : Type 0 where
  pub parted : ends.cells ≡ ends_of front back before.cells
  pub stays : after.cells ≡ between front back before.cells
  pub room : ends.room ≡ front + back + more
  pub room_left : after.room ≡ before.room - (front + back + more)
