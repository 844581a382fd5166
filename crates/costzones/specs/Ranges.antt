-- Ranges of cost: where the bodies of a zone begin, and which cells of a tree a descent to them opens.
use Rattle.std.specs.Prelude.{ℕ, ◌+◌, ◌-◌, ◌*◌, ◌/◌, ◌&&◌, Bool, List, [], ◌∷◌, length, max, min, nat_le, nat_lt, if◌then◌else◌}
use Rattle.bh_model.specs.Moments.{total}
use Rattle.bh_model.specs.Trees.{Tree, Empty, Body, Cell, order}
use Rattle.bh_model.specs.Zones.{cost_of}

-- where the range of zone w begins: the whole cost times w, divided by the number of workers and rounded up
abbrev pub range_start : ℕ → ℕ → ℕ → ℕ
range_start workers whole w = (w * whole + (workers - 1)) / workers

-- the bodies of a list that begin in a range: those before which bodies of a cost from `low` up to but without `high` stand
unfoldable pub between : (ℕ → ℕ) → ℕ → ℕ → ℕ → List ℕ → List ℕ
between cost low high before [] = []
between cost low high before (n ∷ rest) =
    if nat_le low before && nat_lt before high then n ∷ between cost low high (before + cost n) rest else between cost low high (before + cost n) rest

-- a whole number from `low` up to but without `high` is also one from `from` up to but without `to`
abbrev pub meets : ℕ → ℕ → ℕ → ℕ → Bool
meets low high from to = nat_lt (max low from) (min high to)

-- how many cells of a tree are opened, before whose bodies others of some cost stand: each cell whose span of cost meets the range, and those below it
unfoldable pub opened_from : (ℕ → ℕ) → ℕ → ℕ → ℕ → Tree → ℕ
opened_from cost low high before Empty = 0
opened_from cost low high before (Body n) = 0
opened_from cost low high before (Cell a b c d e f g h) =
    (let at1 = before + total cost a in
    let at2 = at1 + total cost b in
    let at3 = at2 + total cost c in
    let at4 = at3 + total cost d in
    let at5 = at4 + total cost e in
    let at6 = at5 + total cost f in
    let at7 = at6 + total cost g in
    if meets low high before (at7 + total cost h) then 1 + opened_from cost low high before a + opened_from cost low high at1 b + opened_from cost low high
    at2 c + opened_from cost low high at3 d
    + opened_from cost low high at4 e + opened_from cost low high at5 f + opened_from cost low high at6 g + opened_from cost low high at7 h
    else 0)

-- how many cells of a tree have bodies: those that are opened where all its bodies begin in the range
unfoldable pub busy : Tree → ℕ
busy Empty = 0
busy (Body n) = 0
busy (Cell a b c d e f g h) =
    if nat_lt 0 (length (order (Cell a b c d e f g h))) then 1 + busy a + busy b + busy c + busy d + busy e + busy f + busy g + busy h else 0

-- how many cells of a tree are opened for zone w: those whose span of cost meets the zone's range
abbrev pub opened : (ℕ → ℕ) → ℕ → ℕ → Tree → ℕ
opened cost workers w tree =
    let whole : ℕ = cost_of cost (order tree) in opened_from cost (range_start workers whole w) (range_start workers whole (w + 1)) 0 tree
