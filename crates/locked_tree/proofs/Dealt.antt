-- Cells that are dealt out.
use Rattle.std.proofs.Common.{ℕ, ◌+◌, ◌*◌, ◌≤◌, List, length, sym, subst, arith}
use Rattle.bh_model.specs.Trees.{cell_count}
use Rattle.bh_model.specs.Bodies.{IsIn, NoneTwice}
use Rattle.tree_rule.specs.declared.words.TheConstants.{CELLS_OF_ONE, MOST_CELLS}
use Rattle.octree.specs.Stored.{IsStored, Stored, tree_of}
use Rattle.shared_tree.specs.Ends.{Serves}
use Rattle.shared_tree.proofs.Laws.{region_enough, serves_region}
use Rattle.locked_tree.specs.declared.yard.Pool.{Pool}
use Rattle.locked_tree.specs.declared.yard.Pool.TheVariants as pool
use Rattle.locked_tree.specs.Pools.{AreDealtOut, HasRoom}

-- what the cells that are dealt out are good for
pub serves : (from : Pool) (o : Stored) (bodies : ℕ) (region : List ℕ) (cells first quota : ℕ) → IsStored o → HasRoom from o.held bodies
    → cell_count (tree_of o) + CELLS_OF_ONE * bodies ≤ MOST_CELLS → AreDealtOut from o bodies region cells first quota
    → Serves o region cells first quota
serves pool.Shared o bodies region cells first quota rule room regions d = record {
  more = let a = d.1 in let b = d.2 in omega arith;
  few = let a = d.1 in let b = d.2 in let e = d.3 in omega arith;
  once = subst NoneTwice (sym d.0) tt;
  bare = λ c i r. subst (λ (z : List ℕ). IsIn z c) d.0 i;
  given = λ c i. absurd (subst (λ (z : List ℕ). IsIn z c) d.0 i);
  sum = d.1;
  start_given = let b = d.2 in omega arith;
}
serves pool.Regions o bodies region cells first quota rule room regions d =
    serves_region o (CELLS_OF_ONE * bodies) region cells first quota rule regions d.0 d.1 d.2

-- and there are enough for the bodies
pub dealt_enough : (from : Pool) (o : Stored) (bodies : ℕ) (region : List ℕ) (cells first quota : ℕ) → AreDealtOut from o bodies region cells first quota
    → CELLS_OF_ONE * bodies ≤ length region + quota
dealt_enough pool.Shared o bodies region cells first quota d = let e = d.3 in omega arith
dealt_enough pool.Regions o bodies region cells first quota d = let e = region_enough o (CELLS_OF_ONE * bodies) region cells d.0 in omega arith
