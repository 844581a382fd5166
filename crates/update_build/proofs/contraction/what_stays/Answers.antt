use Rattle.std.proofs.Common.{subst, sym}
use Rattle.octree.specs.Stored.{Stored}
use Rattle.update_build.specs.Contracting.{IsWhatStays}
use Rattle.update_build.proofs.Staying.{octree_of_contracted, stays_as}
use Rattle.update_build.proofs.contraction.what_stays.Goals as goal

pub of_words-requires : goal.of_words-requires
of_words-requires g c =
    octree_of_contracted c.args.old.now c.args.words.items c.contract.new.words.items c.len-rule.ensures.rule c.in_ok-contract.ensures

pub returns : goal.returns
returns g c =
    subst (λ (o : Stored). IsWhatStays c.args.new.now c.args.words.items o) (sym c.of_words.ensures.tree)
    (stays_as c.args.old.now c.args.new.now c.args.words.items c.contract.new.words.items c.in_ok-contract.ensures c.requires.thinned.stands c.requires.under
    c.requires.many)
