use Rattle.std.proofs.Common.{◌≡◌, ◌++◌, List, length}
use Rattle.std.specs.Vec.Iter.{into_iter_items, into_iter_len}
use Rattle.octree.specs.Stored.{Stored}
use Rattle.space_split.specs.Parts.{AreJoined}
use Rattle.space_split.proofs.shares.all_parts.Given as goal

abbrev pub invariant-loop-parts : goal.invariant-loop-parts
invariant-loop-parts l =
    (into_iter_len l.parts-iterator ≡ length (into_iter_items l.parts-iterator))
    × ((rest : List Stored) → AreJoined (λ v. v.items) (into_iter_items l.parts-iterator) rest
    → AreJoined (λ v. v.items) (into_iter_items l.initial.parts-iterator) (l.all.items ++ rest))
