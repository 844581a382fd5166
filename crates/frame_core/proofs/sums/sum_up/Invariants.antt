use Rattle.std.proofs.Common.{◌≡◌, ◌*◌, ◌≤◌}
use Rattle.frame_core.specs.Pushes.{met_by, push_by}
use Rattle.frame_core.proofs.sums.sum_up.Given as goal

abbrev pub invariant-loop-n : goal.invariant-loop-n
invariant-loop-n l = record {
  met : l.sums.met ≡ met_by l.pulls l.n;
  met_small : l.sums.met ≤ 65536 * l.n;
  x : l.sums.push_x ≡ push_by (λ p. p.ax) l.bodies l.pulls l.n;
  y : l.sums.push_y ≡ push_by (λ p. p.ay) l.bodies l.pulls l.n;
  z : l.sums.push_z ≡ push_by (λ p. p.az) l.bodies l.pulls l.n;
}
