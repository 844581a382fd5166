use Rattle.std.proofs.Common.{sym, ◌∙◌, inl, inr, arith}
use Rattle.octant_code.proofs.Keys.{key-zero}
use Rattle.octant_code.specs.Points.{site_at}
use Rattle.octree.proofs.Laws.{empty_canonical, reached_blank}
use Rattle.tree_rule.specs.Words.{at_of, body_word}
use Rattle.locked_tree.proofs.tests.pair.Goals as goal

pub insert-requires-clause-under : goal.insert-requires-clause-under
insert-requires-clause-under c = (0, omega arith, c.in_ok-tree.ensures.base ∙ sym (key-zero (site_at c.args.points.now c.args.x)))

pub insert-requires-clause-canonical : goal.insert-requires-clause-canonical
insert-requires-clause-canonical c = empty_canonical c.args.points.now c.in_ok-tree.tree c.in_ok-tree.ensures.empty

pub insert-requires-2-clause-under : goal.insert-requires-2-clause-under
insert-requires-2-clause-under c =
    let base = c.insert.ensures.inserted.base_stays ∙ c.in_ok-tree.ensures.base in
    (0, omega arith, base ∙ sym (key-zero (site_at c.args.points.now c.args.n)))

pub returns-clause-bodies : goal.returns-clause-bodies
returns-clause-bodies c = λ m b.
    let at = at_of c.in_ok-tree.tree.words in
    elim ((c.insert-2.ensures.inserted.bodies m).0 b) [
      | inl p ↦ elim ((c.insert.ensures.inserted.bodies m).0 p) [
        | inl r ↦ absurd (omega (arith, reached_blank at (at 0) (body_word m) c.in_ok-tree.ensures.empty r))
        | inr e ↦ inl e
      ]
      | inr e ↦ inr e
    ]
