use Rattle.std.proofs.Common.{◌≡◌, ◌++◌, ◌<◌, ◌^◌, ℕ, take}
use Rattle.std.specs.Prelude.{flat_map}
use Rattle.scene_file.specs.Bodies.{body_at}
use Rattle.scene_file.specs.Text.{body_text}
use Rattle.scene_file.proofs.text.push_bodies.Given as goal

abbrev pub invariant-loop-n : goal.invariant-loop-n
invariant-loop-n l = (l.text.items ≡ l.fn.text.items ++ flat_map body_text (take l.n l.bodies)) × ((i : ℕ) → i < l.n → (body_at l.bodies i).mass < 2 ^ 32)
