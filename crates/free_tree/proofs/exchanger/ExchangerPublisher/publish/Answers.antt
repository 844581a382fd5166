use Rattle.std.proofs.Common.{arith, ◌∙◌, ap, refl}
use mathlib.Core.Logic.{dite}
use native.Mathlib.Decide.{ℕ_discrete}
use Rattle.tree_passes.specs.declared.view.View.{View}
use Rattle.free_tree.proofs.exchanger.ExchangerPublisher.publish.Goals as goal

pub returns-clause-no_lock : goal.returns-clause-no_lock
returns-clause-no_lock g c =
    let none = c.requires.no_lock in
    dite (ℕ_discrete c.exchange.result c.args.old)
    (λ same. let e = c.exchange.ensures.hit same in (ap (λ (v : View). v.locks) e ∙ none.0, ap (λ (v : View). v.under) e ∙ none.1))
    (λ other.
    let e = (c.exchange.ensures.miss other c.requires.ready.0 c.requires.ready.1).view in
    (ap (λ (v : View). v.locks) e ∙ none.0, ap (λ (v : View). v.under) e ∙ none.1))

pub returns-clause-miss : goal.returns-clause-miss
returns-clause-miss g c = λ other key place. record {
  before = c.args.pass.now.me.0;
  learnt = record {
    loads = _;
    last = _;
    cell_notes = _;
    body_notes = _;
    view = refl;
    more_loads = omega arith;
    cells_stay = λ n h. h;
    bodies_stay = λ n h. h;
  };
  learns = c.exchange.ensures.miss other key place;
}
