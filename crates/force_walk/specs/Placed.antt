-- The table that workers walk, and what a walk gives.
use Rattle.std.specs.Prelude.{ℕ, ◌≡◌, ◌-◌, ◌<◌, ◌^◌, All, List, length, slice_index, slice_index_or}
use Rattle.bh_model.specs.Moments.{Matter}
use Rattle.bh_model.specs.Pulls.{IsPullLaw, PullLaw}
use Rattle.bh_model.specs.declared.pull.Pull.{Pull}
use Rattle.force_walk.specs.Flat.{IsLaid, walked}
use Rattle.force_walk.specs.declared.node.FlatTable.{FlatTable}

-- so many bodies may walk over the table by a law
pub record IsTable (law : PullLaw) (count : ℕ) (table : FlatTable) : Type 0 where
  pub rule : IsPullLaw law
  pub laid : All IsLaid table.nodes.items
  pub few : length table.nodes.items < 2 ^ 32 - 1
  pub places : length table.places.items ≡ count

-- the sum of a body's walk
abbrev pub walk_of : PullLaw → Matter → FlatTable → ℕ → Pull
walk_of law m table n = walked law (m.site n) (slice_index table.places.items n) 0 table.nodes.items 0

-- two lists are equally long, and a fact holds of the items at each place
abbrev pub ByPlace : {X Y : Type 0} → (X → Y → Type 0) → List X → List Y → Type 0
ByPlace {X = X} {Y = Y} holds xs ys =
    (length ys ≡ length xs) × ((i : ℕ) (d : X) (e : Y) → i < length xs → holds (slice_index_or xs i d) (slice_index_or ys i e))
