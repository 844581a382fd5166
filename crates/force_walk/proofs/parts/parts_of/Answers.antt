use Rattle.std.proofs.Common.{All, ◌∙◌, ap, length, subst, sym}
use Rattle.std.proofs.lemmas.List.Elements.{All-nil}
use Rattle.bh_model.specs.Trees.{Tree}
use Rattle.mass_moments.specs.Kept.{matter_of}
use Rattle.octree.specs.Spot.{Spot, tree_under}
use Rattle.octree.specs.Stored.{Stored}
use Rattle.force_walk.specs.Cubes.{IsTreeOfCube}
use Rattle.force_walk.specs.Parts.{IsPart}
use Rattle.force_walk.specs.declared.parts.Part.{Part}
use Rattle.force_walk.proofs.Scenes.{scene_cube}
use Rattle.force_walk.proofs.parts.parts_of.Goals.{then-threads-gt1+then-len-ge-FEW+in-Cell+in_ok-collect}
use Rattle.force_walk.proofs.parts.parts_of.Goals.{then-threads-gt1+then-len-ge-FEW+in_default, else-threads-gt1}
use Rattle.force_walk.proofs.parts.parts_of.Goals as goal

pub collect-requires-clause-cube : goal.collect-requires-clause-cube
collect-requires-clause-cube c =
    let T : Tree → Type 0 = IsTreeOfCube (matter_of c.args.bodies.now) (length c.args.bodies.now) 21 in
    subst T (sym c.whole.ensures.tree ∙ ap tree_under (sym c.in-Cell.ensures.same))
    (scene_cube c.args.bodies.now c.args.tree.now (record { rule = c.len.ensures.rule; octree = c.requires.octree }))

pub returns : goal.returns
returns c =
    let P : Stored → Part → Type 0 = IsPart (matter_of c.args.bodies.now) (length c.args.bodies.now) c.args.least.now in
    elim c.if-threads-gt1.branch [
      | then-threads-gt1+then-len-ge-FEW+in-Cell+in_ok-collect w ↦
          rw w.parts-is
          (subst (λ (o : Stored). All (P o) w.collect.new.parts.items) (ap (λ (s : Spot). s.octree) w.in-Cell.ensures.same ∙ w.whole.ensures.octree)
          w.in_ok-collect.ensures)
      | then-threads-gt1+then-len-ge-FEW+in_default w ↦ rw (w.parts-is, c.new-parts.ensures.items) (All-nil (P c.args.tree.now))
      | else-threads-gt1 w ↦ rw (w.parts-is, c.new-parts.ensures.items) (All-nil (P c.args.tree.now))
    ]
