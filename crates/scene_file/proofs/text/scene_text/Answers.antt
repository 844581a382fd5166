use Rattle.std.proofs.Common.{refl}
use Rattle.scene_file.specs.Moves.{SceneParts}
use Rattle.scene_file.proofs.ReadBack.{scene_back}
use Rattle.scene_file.proofs.text.scene_text.Goals as goal

pub returns-clause-value : goal.returns-clause-value
returns-clause-value c =
    rw (c.in_ok-push_passes.ensures, c.in_ok-push_bodies.ensures.text, c.new-text.ensures.items, ← c.scene.view_is) refl

pub returns-clause-read_back : goal.returns-clause-read_back
returns-clause-read_back c =
    let seen : SceneParts = record { bodies = c.scene.inside.bodies; passes = c.scene.inside.passes } in
    let back = scene_back seen c.scene.invariant c.in_ok-push_bodies.ensures.masses in
    rw (c.in_ok-push_passes.ensures, c.in_ok-push_bodies.ensures.text, c.new-text.ensures.items, ← c.scene.view_is) back
