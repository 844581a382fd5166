use Rattle.std.proofs.Common.{◌≡◌, ◌<◌, ◌≤◌, flat_map, get_or, length, take}
use Rattle.bh_model.specs.declared.piece.Piece.{Piece}
use Rattle.space_split.proofs.shares.deal_shares.Given as goal

abbrev pub invariant-loop-worker : goal.invariant-loop-worker
invariant-loop-worker l =
    (l.start ≤ length l.pieces) × (flat_map (λ s. s.now) l.shares.items ≡ take l.start l.cubes)
    × ((d : Piece) → l.start < length l.pieces → l.worker ≤ (get_or l.pieces l.start d).worker)
    × (length l.shares.items ≡ l.worker)
