use Rattle.std.proofs.Common.{◌<◌, ◌∙◌, All, List, ℕ, length, arith, subst, sym}
use Rattle.std.proofs.lemmas.List.Elements.{All-push}
use Rattle.library_rows.proofs.private_trees.blocks_of.Goals as goal

pub plain_blocks-requires-clause-within : goal.plain_blocks-requires-clause-within
plain_blocks-requires-clause-within c =
    subst (λ (xs : List ℕ). All (λ m. m < length c.args.points.now) xs) (sym c.deref.ensures.value) c.loop-n.invariant.0

pub plain_blocks-requires-clause-others_within : goal.plain_blocks-requires-clause-others_within
plain_blocks-requires-clause-others_within c =
    subst (λ (xs : List ℕ). All (λ m. m < length c.args.points.now) xs) (sym c.deref-2.ensures.value) c.loop-n.invariant.1
