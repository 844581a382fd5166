use Rattle.std.proofs.Common.{◌≡◌, ◌≢◌, ℕ, subst}
use Rattle.octree.proofs.KeyWords.{names_no_cell, no_number, no_number_in, number_is}
use Rattle.octree.proofs.ReadWords.{word_small}
use Rattle.octree.specs.ByKeys.{key_of_cell}
use Rattle.octree.specs.Spot.{IsReachable}
use Rattle.octree.specs.Stored.{Stored}
use Rattle.tree_rule.proofs.Laws.{forget}
use Rattle.octree.proofs.octree.Octree.number_of.Goals as goal

pub word_of_key-requires-clause-small : goal.word_of_key-requires-clause-small
word_of_key-requires-clause-small c w r = word_small _ w c.self.invariant.0 r

pub named_by-requires : goal.named_by-requires
named_by-requires c = word_small _ c.in-Some.word c.self.invariant.0 (forget _ _ c.self.inside.base c.args.key c.in-Some.word c.in-Some.ensures)

pub returns-in_default : goal.returns-in_default
returns-in_default c =
    subst (λ (o : Stored). (d : ℕ) → IsReachable o d → key_of_cell o d ≢ c.args.key) c.self.view_is
    (no_number _ c.self.invariant.0 c.args.key c.in_default.ensures)

pub returns-in_default-named_by : goal.returns-in_default-named_by
returns-in_default-named_by c =
    subst (λ (o : Stored). (d : ℕ) → IsReachable o d → key_of_cell o d ≢ c.args.key) c.self.view_is
    (no_number_in _ c.self.invariant.0 c.args.key c.in-Some.word c.in-Some.ensures
    (names_no_cell c.in-Some.word c.named_by.result c.named_by.ensures c.in_default-named_by.not-Cell))

pub returns : goal.returns
returns c =
    subst (λ (o : Stored). IsReachable o c.in-Cell.cell × (key_of_cell o c.in-Cell.cell ≡ c.args.key)) c.self.view_is
    (number_is _ c.self.invariant.0 c.args.key c.in-Some.word c.in-Cell.cell c.in-Some.ensures c.in-Cell.ensures)
