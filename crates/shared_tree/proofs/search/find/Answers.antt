use Rattle.std.proofs.Common.{arith, ◌≡◌, ◌<◌, ◌∙◌, ℕ, ◌+◌, ◌*◌, add-one, ap, length, refl, subst, sym, inl}
use Rattle.octant_code.specs.declared.limits.TheConstants.{LEVELS}
use Rattle.octant_code.specs.Space.{key_of, same_coordinates}
use Rattle.octant_code.specs.Points.{site_at, ArePoints}
use Rattle.octant_code.proofs.Keys.{key-suc, key-zero}
use Rattle.octant_code.proofs.SeenPoints.{same_coordinates_refl, same_coordinates_true}
use Rattle.tree_rule.specs.Words.{child_place}
use Rattle.tree_passes.specs.Looks.{Sought}
use Rattle.tree_passes.specs.Passes.{KnowsPlace}
use Rattle.tree_passes.specs.Turns.{Descends}
use Rattle.tree_passes.proofs.Laws.{body_inside, cell_below, found_body, none_empty, none_other, place_below, still_refl}
use Rattle.shared_tree.proofs.Puts.{word_small}
use Rattle.shared_tree.proofs.Sought.{true_not_false, under_sought}
use Rattle.shared_tree.proofs.search.find.Goals.{After-load, In-Body, In-Cell}
use Rattle.shared_tree.proofs.search.find.Given.{Over}
use Rattle.shared_tree.proofs.search.find.Goals as goal

-- what the load told
sought : (g : Over) (c : After-load g) → Sought c.loop-level.pass.me.0 c.loop-level.word (key_of c.args.p c.loop-level.level) c.load.result c.args.p
    c.load.new.pass.me.0
sought g c = c.load.ensures.sought _ c.loop-level.invariant.4

-- the body is one of the points
named : (g : Over) (c : In-Body g) → c.in-Body.body < length c.args.points.now
named g c =
    let i = c.loop-level.invariant in
    subst (λ z. c.in-Body.body < length z) c.requires.points (body_inside _ _ _ _ _ _ _ i.5 i.3 (c.load.ensures.sought _ i.4) _ c.in-Body.ensures)

-- the way goes on below the cell
below : (g : Over) (c : In-Cell g) → Descends c.args.pass.now.me.0 c.load.new.pass.me.0 (key_of c.args.p c.loop-level.level) c.in-Cell.cell
below g c = let i = c.loop-level.invariant in cell_below _ _ _ _ _ _ _ i.5 i.3 (c.load.ensures.sought _ i.4) _ c.in-Cell.ensures

pub loop-level-init : goal.loop-level-init
loop-level-init g c = (refl, refl, c.requires.some, omega arith, inl (refl, key-zero _), still_refl _, refl, omega arith)

pub named_by-requires : goal.named_by-requires
named_by-requires g c =
    let s = c.loop-level.invariant.5 in
    let rule = subst ArePoints (sym (s.points ∙ c.requires.points)) c.len-rule.ensures.rule in
    omega (arith, word_small _ _ _ (sought g c).looked.tells rule (omega (arith, s.long, c.requires.long, c.requires.few)))

pub returns-in-Nothing-clause-none : goal.returns-in-Nothing-clause-none
returns-in-Nothing-clause-none g c =
    let i = c.loop-level.invariant in
    none_empty _ _ _ _ _ _ _ i.5 i.3 (sought g (goal.at.returns-in-Nothing-clause-none g c).After-load) c.in-Nothing.ensures

pub returns-in-Nothing-clause-under : goal.returns-in-Nothing-clause-under
returns-in-Nothing-clause-under g c = let i = c.loop-level.invariant in under_sought _ _ _ _ _ _ (c.load.ensures.sought _ i.4) ∙ i.6

pub returns-then-eq-clause-under : goal.returns-then-eq-clause-under
returns-then-eq-clause-under g c = let i = c.loop-level.invariant in under_sought _ _ _ _ _ _ (c.load.ensures.sought _ i.4) ∙ i.6

pub returns-in-Body-clause-under : goal.returns-in-Body-clause-under
returns-in-Body-clause-under g c = let i = c.loop-level.invariant in under_sought _ _ _ _ _ _ (c.load.ensures.sought _ i.4) ∙ i.6

pub at-requires : goal.at-requires
at-requires g c = named g c

pub returns-then-eq-clause-some : goal.returns-then-eq-clause-some
returns-then-eq-clause-some g c =
    let i = c.loop-level.invariant in
    found_body _ _ _ _ _ _ _ i.5 i.3 (sought g (goal.at.returns-then-eq-clause-some g c).After-load) _ c.in-Body.ensures
    (ap (λ z. site_at z c.in-Body.body) c.requires.points ∙ sym c.at.ensures.value
    ∙ same_coordinates_true c.at.result c.args.p (sym c.eq.ensures ∙ c.if-eq.true))

pub returns-in-Body-clause-none : goal.returns-in-Body-clause-none
returns-in-Body-clause-none g c =
    let i = c.loop-level.invariant in
    none_other _ _ _ _ _ _ _ i.5 i.3 (sought g (goal.at.returns-in-Body-clause-none g c).After-load) _ c.in-Body.ensures
    (λ e. let is : c.at.result ≡ c.args.p = c.at.ensures.value ∙ sym (ap (λ z. site_at z c.in-Body.body) c.requires.points) ∙ e in
    true_not_false (sym (same_coordinates_refl c.at.result) ∙ ap (same_coordinates c.at.result) is ∙ sym c.eq.ensures ∙ c.if-eq.false))

pub octant-requires : goal.octant-requires
octant-requires g c = (below g c).below.cell.shallow c.args.p c.loop-level.level refl

pub loop-level-preserved : goal.loop-level-preserved
loop-level-preserved g c =
    let i = c.loop-level.invariant in
    let d = below g (goal.at.loop-level-preserved g c).In-Cell in
    let low : c.loop-level.level < LEVELS = d.below.cell.shallow c.args.p c.loop-level.level refl in
    let small = c.octant.ensures.small in
    let key : 8 * key_of c.args.p c.loop-level.level + c.octant.result ≡ key_of c.args.p (c.loop-level.level + 1) =
    rw add-one (omega (arith, key-suc c.args.p c.loop-level.level, c.octant.ensures.value)) in (
      c.load.ensures.pass.0 ∙ i.0,
      c.load.ensures.pass.1 ∙ i.1,
      omega (arith, d.below.cell.inside, small, d.still.long, c.requires.long, c.place_of_child-word.ensures),
      omega arith,
      subst (λ (z : ℕ). KnowsPlace c.load.new.pass.me.0 z (key_of c.args.p (c.loop-level.level + 1))) (sym c.place_of_child-word.ensures)
          (subst (KnowsPlace c.load.new.pass.me.0 (child_place c.in-Cell.cell c.octant.result)) key
          (place_below _ _ c.in-Cell.cell c.octant.result d.below small)),
      d.still,
      under_sought _ _ _ _ _ _ (c.load.ensures.sought _ i.4) ∙ i.6,
      omega (arith, c.load.ensures.steps, i.7),
    )
