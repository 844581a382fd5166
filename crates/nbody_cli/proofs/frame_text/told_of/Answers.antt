use Rattle.std.proofs.Common.{◌≡◌, ◌∙◌, ℕ, Option, ap, refl}
use Rattle.bh_model.specs.declared.update.UpdateCounts.{UpdateCounts}
use Rattle.frame_core.specs.Engines.{EngineStage, HasTree, WithFrame, WithTree, WithoutTree, Spent, builder_pieces, last_update, where_built}
use Rattle.nbody_cli.specs.declared.frame_text.Told.{Told}
use Rattle.nbody_cli.proofs.frame_text.told_of.Goals as goal

-- what is told where there is a tree
told_is : {T : Type 0} (stage : EngineStage) (told : Option T) → HasTree stage → where_built stage told ≡ told
told_is WithoutTree told tree = absurd tree
told_is WithTree told tree = refl
told_is WithFrame told tree = refl
told_is Spent told tree = absurd tree

pub returns : goal.returns
returns c =
    let e = c.args.engine.now in
    let made : Option ℕ → Option UpdateCounts → Told = λ p u. record { pieces = p; update = u } in
    let pieces : c.pieces.result ≡ builder_pieces e = c.pieces.ensures ∙ told_is e.stage (builder_pieces e) c.requires in
    let update : c.update_counts.result ≡ last_update e = c.update_counts.ensures ∙ told_is e.stage (last_update e) c.requires in
    ap (λ p. made p c.update_counts.result) pieces ∙ ap (made (builder_pieces e)) update
