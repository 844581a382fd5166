use Rattle.std.proofs.Common.{rules, ◌≡◌, arith}
use Rattle.scene_file.proofs.Making.{made-more, made-none, made_octants, made_rule}
use Rattle.scene_file.proofs.PassingRule.{scene_none}
use Rattle.scene_file.proofs.made.made_scene.Goals as goal

pub loop-i-init : goal.loop-i-init
loop-i-init c = search (rules, made-none)

pub loop-i-preserved : goal.loop-i-preserved
loop-i-preserved c = search (rules, made-more)

pub of-requires : goal.of-requires
of-requires c =
    let i : c.loop-i.i ≡ c.args.count = omega arith in
    rw (c.loop-i.invariant, i) (made_rule c.args.count c.args.seed c.args.shape c.requires)

pub returns-clause-octants : goal.returns-clause-octants
returns-clause-octants c i level less deep =
    let all : c.loop-i.i ≡ c.args.count = omega arith in
    rw (c.of.ensures, c.loop-i.invariant, all) (made_octants c.args.count c.args.seed c.args.shape i level less deep)

pub invariant_of-result : goal.invariant_of-result
invariant_of-result c =
    let all : c.loop-i.i ≡ c.args.count = omega arith in
    rw (c.none.ensures, c.of.ensures, c.loop-i.invariant, all) (scene_none _ (made_rule c.args.count c.args.seed c.args.shape c.requires))
