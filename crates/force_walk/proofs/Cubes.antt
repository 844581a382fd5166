-- The tree of a cube, where it is a cell, and those of the cubes in it.
use Rattle.std.proofs.Common.{ℕ, suc, ◌+◌, ◌-◌, ◌*◌, ◌^◌, ◌<◌, ◌≤◌, ◌≡◌, List, length, All, sym, ap, subst, arith}
use Rattle.std.proofs.Math.Nat.{mul-le-mul_left, mul-le-mul_right, pow-suc}
use Rattle.octant_code.proofs.Keys.{pow8-mono}
use Rattle.bh_model.proofs.Totals.{child_total}
use Rattle.bh_model.specs.Moments.{Matter, mass_of, total}
use Rattle.bh_model.specs.Pulls.{PullLaw}
use Rattle.bh_model.specs.Standing.{Stands}
use Rattle.bh_model.specs.Trees.{Body, Tree, cell_of}
use Rattle.octree.specs.Spot.{Spot, child_under, tree_under}
use Rattle.octree.specs.Subtree.{IsBodyAt, IsCellAt, IsChildOf}
use Rattle.force_walk.specs.Cubes.{HasRoom, IsTreeOfCube}
use Rattle.force_walk.specs.Flat.{IsLaid, flat}
use Rattle.force_walk.specs.Least.{AreLeast}
use Rattle.force_walk.proofs.Flats.{child_stands, flat_laid, flat_short, heavy_tree}

-- the key of a cube in a cube has room
key_room : (key k down most : ℕ) → 1 ≤ down → k < 8 → (key + 1) * 8 ^ down ≤ most → (8 * key + k + 1) * 8 ^ (down - 1) ≤ most
key_room key k down most deep small room =
    let up : down ≡ suc (down - 1) = omega arith in
    let more : (8 * key + k + 1) * 8 ^ (down - 1) ≤ (8 * key + 8) * 8 ^ (down - 1) = mul-le-mul_right (8 ^ (down - 1)) (omega arith) in
    omega (arith, more, ap (λ d. (key + 1) * 8 ^ d) up, ap (λ p. (key + 1) * p) (pow-suc 8 (down - 1)))

-- each node of the table can be walked, and there are not too many
pub cube_laid : {m : Matter} {most down : ℕ} {tree : Tree} (law : PullLaw) (least : List ℕ) → AreLeast law least → IsTreeOfCube m most down tree
    → All IsLaid (flat m least down tree)
cube_laid {m} {most} {down} {tree} law least is cube = flat_laid law m least is down tree cube.light cube.shallow

pub cube_few : {m : Matter} {most down : ℕ} {tree : Tree} (least : List ℕ) → IsTreeOfCube m most down tree → length (flat m least down tree) < 2 ^ 32 - 1
cube_few {m} {most} {down} {tree} least cube =
    let rows = mul-le-mul_right (total (λ n. 1) tree) (let d : down + 1 ≤ 22 = omega (arith, cube.shallow) in d) in
    omega (arith, flat_short m least most down tree cube.stands, rows, cube.few)

-- a body is one of so many
pub cube_body : {m : Matter} {most down : ℕ} {s : Spot} {n : ℕ} → IsBodyAt s n → IsTreeOfCube m most down (tree_under s) → n < most
unfolding Stands
cube_body {m} {most} {down} {s} {n} at cube = let stands : Stands most down (Body n) = subst (Stands most down) at.tree cube.stands in stands

module _ {m : Matter} {most down : ℕ} {s cell : Spot} (at : IsCellAt s cell) (cube : IsTreeOfCube m most down (tree_under s)) where
  child : ℕ → Tree
  child = child_under cell

  stands : Stands most down (cell_of (child_under cell))
  stands = subst (Stands most down) at.tree cube.stands

  -- a cell has a cube to divide
  pub cube_deep : 1 ≤ down
  unfolding Stands
  cube_deep = stands.0

  -- it has bodies, and so it has mass
  pub cube_many : 2 ≤ total (λ n. 1) (tree_under s)
  unfolding Stands
  cube_many = subst (λ (t : Tree). 2 ≤ total (λ n. 1) t) (sym at.tree) stands.1

  pub cube_massive : 0 < mass_of m (tree_under s)
  cube_massive = omega (arith, heavy_tree m most cube.heavy down (tree_under s) cube.stands, cube_many)

  -- there is room for the keys of the cubes in it
  pub cube_key : (key : ℕ) → HasRoom down key → 8 * key + 7 < 2 ^ 64
  cube_key key room =
      let one : 1 ≤ 8 ^ (down - 1) = pow8-mono 0 (down - 1) (omega arith) in
      omega (arith, key_room key 7 down (2 ^ 64) cube_deep (omega arith) room, mul-le-mul_left (8 * key + 7 + 1) one)

  pub cube_room : (key k : ℕ) → k < 8 → HasRoom down key → HasRoom (down - 1) (8 * key + k)
  cube_room key k small room = key_room key k down (2 ^ 64) cube_deep small room

  -- and the trees of these cubes are of that kind
  pub cube_child : {k : ℕ} {t : Spot} → IsChildOf cell k t → k < 8 → IsTreeOfCube m most (down - 1) (tree_under t)
  unfolding Stands
  cube_child {k} {t} is small =
      let less : (q : ℕ → ℕ) → total q (child_under cell k) ≤ total q (tree_under s) =
      λ q. subst (λ (y : Tree). total q (child_under cell k) ≤ total q y) (sym at.tree) (child_total q (child_under cell) k small) in
      subst (IsTreeOfCube m most (down - 1)) (sym is.tree)
      (record {
        stands = child_stands most down (child_under cell) stands k small;
        shallow = omega (arith, cube.shallow);
        heavy = cube.heavy;
        light = omega (arith, less m.mass, cube.light);
        few = omega (arith, less (λ n. 1), cube.few);
      })
