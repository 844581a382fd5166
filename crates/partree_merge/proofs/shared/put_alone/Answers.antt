use Rattle.std.proofs.Common.{ap, arith}
use Rattle.tree_passes.specs.Counting.{times}
use Rattle.tree_passes.proofs.Laws.{in_times}
use Rattle.partree_merge.proofs.Done.{merged_done}
use Rattle.partree_merge.proofs.shared.put_alone.Goals as goal

pub work_at-requires-clause-todo : goal.work_at-requires-clause-todo
work_at-requires-clause-todo g c = λ x i.
    let a = in_times x c.args.share.now i in
    let b = ap (times x) c.requires.ready.todo in
    omega arith

pub returns : goal.returns
returns g c =
    let e = c.work_at.ensures in
    merged_done c.args.points.now c.args.tree.now c.args.share.now c.args.pass.now c.work_at.new.pass c.requires.prepared.serves c.requires.ready
    e.pass e.todo e.done e.most e.some
