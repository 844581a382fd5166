-- The shares in which the workers build a tree.
use Rattle.std.specs.Prelude.{ℕ, ◌*◌, ◌/◌, List, map}
use Rattle.bh_model.specs.Bodies.{numbers}
use Rattle.build_workers.specs.Shares.{owned}

-- the share of a worker before the first frame, of the first of so many bodies: body n is in share n * workers / count, rounded down
abbrev pub share_below : (below workers count w : ℕ) → List ℕ
share_below below workers count w = owned (λ n. n * workers / count) (numbers below) w

-- the shares before the first frame: each body is in one
abbrev pub first_shares : (workers count : ℕ) → List (List ℕ)
first_shares workers count = map (share_below count workers count) (numbers workers)
