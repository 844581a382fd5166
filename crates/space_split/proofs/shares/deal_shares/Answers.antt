use Rattle.std.proofs.Common.{◌∙◌, ap, arith, length, inl, inr, refl}
use Rattle.std.proofs.lemmas.Bool.{cases_lt}
use Rattle.std.proofs.lemmas.List.{length-append, take_all}
use Rattle.bh_model.specs.declared.piece.Piece.{Piece}
use Rattle.space_split.proofs.Joining.{shares_more}
use Rattle.space_split.proofs.shares.deal_shares.Goals as goal

pub loop-worker-preserved : goal.loop-worker-preserved
loop-worker-preserved c =
    let at = c.loop-worker in
    let end = c.end_of-end.ensures in (
      end.within,
      shares_more (λ s. s.now) at.shares.items c.push.new.self.items _ at.start c.end_of-end.result c.args.cubes.now end.from at.invariant.1 refl
          c.in_ok-push.ensures.items,
      (λ d l. let past = end.others d l in omega (arith, past)),
      (let many = ap length c.in_ok-push.ensures.items ∙ length-append at.shares.items _ in omega (arith, many, at.invariant.3)),
    )

pub returns-clause-count : goal.returns-clause-count
returns-clause-count c = omega (arith, c.loop-worker.invariant.3, c.loop-worker.auto.worker-end, c.loop-worker-test.false)

pub returns-clause-whole : goal.returns-clause-whole
returns-clause-whole c =
    let at = c.loop-worker in
    at.invariant.1 ∙ take_all at.start c.args.cubes.now (elim (cases_lt at.start (length c.args.pieces.now)) [
      | inl less ↦
          let none : Piece = record { key = 0; count = 0; worker = 0 } in
          let low = at.invariant.2 none less in
          let high = c.requires.workers at.start none less in
          absurd (omega (arith, low, high, at.auto.worker-end, c.loop-worker-test.false))
      | inr all ↦ omega (arith, all, c.requires.alike)
    ])
