-- Blocks: the greatest cubes that hold a body and whose bodies are all of one list.
use Rattle.std.specs.Prelude.{ℕ, ◌+◌, zero, suc, List, [], ◌∷◌, sum_by}
use Rattle.octant_code.specs.declared.limits.TheConstants.{LEVELS}
use Rattle.octant_code.specs.Space.{Site}
use Rattle.bh_model.specs.Bodies.{numbers, without}
use Rattle.bh_model.specs.Trees.{in_octant}

-- the sum over the eight octants
abbrev pub sum_of_eight : (ℕ → ℕ) → ℕ
sum_of_eight f = f 0 + f 1 + f 2 + f 3 + f 4 + f 5 + f 6 + f 7

-- The greatest cubes that hold a body of a list and none of the others, for bodies of one cube of a level, with as many levels below it.
unfoldable pub blocks_from : (ℕ → Site) → ℕ → ℕ → List ℕ → List ℕ → ℕ
blocks_from site below level [] others = 0
blocks_from site below level (n ∷ rest) [] = 1
blocks_from site zero level (n ∷ rest) (m ∷ more) = 0
blocks_from site (suc below) level (n ∷ rest) (m ∷ more) =
    sum_of_eight (λ k. blocks_from site below (suc level) (in_octant site level k (n ∷ rest)) (in_octant site level k (m ∷ more)))

-- the blocks of a list of bodies against others
abbrev pub blocks : (ℕ → Site) → List ℕ → List ℕ → ℕ
blocks site bodies others = blocks_from site LEVELS 0 bodies others

-- the numbers below a count that a list doesn't have
abbrev pub others_than : ℕ → List ℕ → List ℕ
others_than count list = without (numbers count) list

-- the blocks of shares of the bodies below a count: those of each share against all other bodies
abbrev pub blocks_of_shares : (ℕ → Site) → ℕ → List (List ℕ) → ℕ
blocks_of_shares site count shares = sum_by (λ share. blocks site share (others_than count share)) shares
