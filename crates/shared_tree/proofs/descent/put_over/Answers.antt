use Rattle.std.proofs.Common.{◌≡◌, ◌∙◌, ◌-◌, ◌≤◌, ℕ, length, take, get_or, ap, sym, subst, arith}
use Rattle.octant_code.specs.declared.limits.TheConstants.{LEVELS}
use Rattle.octant_code.specs.Space.{key_of}
use Rattle.octant_code.specs.Points.{site_at}
use Rattle.bh_model.specs.Bodies.{IsIn}
use Rattle.tree_rule.specs.Words.{at_of, body_word, cell_word}
use Rattle.tree_rule.specs.Flat.{StandsFor}
use Rattle.octree.specs.Chain.{ArePair, IsOneOf}
use Rattle.tree_passes.specs.Turns.{IsStill}
use Rattle.tree_passes.proofs.Laws.{few_between, meets, place_still, ready_on, ready_over, some_held, still_written, there_still, todo_still}
use Rattle.shared_tree.specs.declared.descent.Turn.TheVariants as turn
use Rattle.shared_tree.specs.Publishing.{HasFoundOther}
use Rattle.shared_tree.proofs.Puts.{at_on, inserted_put, leads_still, names_cell, other_below, other_cell, other_small, put_taken, written_free}
use Rattle.shared_tree.proofs.descent.put_over.Given.{Over}
use Rattle.shared_tree.proofs.descent.put_over.Goals.{After-part_two-used, After-publish-found}
use Rattle.shared_tree.proofs.descent.put_over.Goals as goal

pub part_two-used-requires-clause-pair : goal.part_two-used-requires-clause-pair
part_two-used-requires-clause-pair g c =
    let at = c.requires.at in
    let key : c.key_at.result ≡ key_of (site_at c.args.points.now c.args.n) c.args.spot.level =
    c.key_at.ensures ∙ ap (λ s. key_of s c.args.spot.level) c.at.ensures.value in
    subst (λ (z : ℕ). ArePair c.args.points.now c.args.x c.args.n z c.args.spot.level) (sym key)
    (meets _ c.args.points.now c.args.x c.args.n c.args.spot.level at.rule at.points at.todo at.n_in at.low c.requires.there.body)

pub part_two-used-requires-clause-room : goal.part_two-used-requires-clause-room
part_two-used-requires-clause-room g c =
    let few = few_between (site_at c.args.points.now c.args.x) (site_at c.args.points.now c.args.n) c.args.spot.level (LEVELS - c.args.spot.level) in
    omega (arith, few, c.requires.stock)

-- the key of the cube
key : (g : Over) (c : After-part_two-used g) → c.key_at.result ≡ key_of (site_at c.args.points.now c.args.n) c.args.spot.level
key g c = c.key_at.ensures ∙ ap (λ s. key_of s c.args.spot.level) c.at.ensures.value

-- the pass only wrote into its cells before it published
still : (g : Over) (c : After-part_two-used g) → IsStill c.args.pass.now.me.0 c.part_two-used.new.pass.me.0
still g c = still_written _ _ _ c.part_two-used.ensures.wrote

pub publish-found-requires-clause-long : goal.publish-found-requires-clause-long
publish-found-requires-clause-long g c = c.part_two-used.ensures.wrote.long ∙ c.requires.at.long

pub publish-found-requires-clause-no_lock : goal.publish-found-requires-clause-no_lock
publish-found-requires-clause-no_lock g c =
    written_free c.args.pass.now.me.0 c.part_two-used.new.pass.me.0 _ c.part_two-used.ensures.wrote (c.requires.at.no_lock, c.requires.at.none_under)

pub publish-found-requires-clause-ready : goal.publish-found-requires-clause-ready
publish-found-requires-clause-ready g c =
    let d = (goal.at.publish-found-requires-clause-ready g c).After-part_two-used in
    let r = c.requires in
    let e = c.part_two-used.ensures in
    let s = still g d in
    let v = c.part_two-used.new.pass.me.0 in
    let cells = take c.part_two-used.result c.args.spare.now in (
      key_of (site_at c.args.points.now c.args.n) c.args.spot.level,
      place_still _ _ _ _ s r.at.known,
      ready_over v c.args.points.now c.args.x c.args.n _ _ _ (get_or c.args.spare.now 0 0) cells (s.points ∙ r.at.points)
          (some_held _ _ _ c.part_two-used.result (ready_on _ _ _ _ _ e.wrote r.ready)) (todo_still _ _ _ s r.at.todo)
          c.word_of_body-old.ensures c.word_of_cell-top.ensures
          (subst (λ (z : ℕ). StandsFor (site_at c.args.points.now) (at_of v.memory) (cell_word (get_or c.args.spare.now 0 0)) z (IsIn cells)
          (IsOneOf c.args.x c.args.n)) (key g d) e.stands),
    )

pub returns-then-found-old-clause-turn : goal.returns-then-found-old-clause-turn
returns-then-found-old-clause-turn g c =
    let d = (goal.at.returns-then-found-old-clause-turn g c).After-part_two-used in
    let e = c.part_two-used.ensures in
    let few = few_between (site_at c.args.points.now c.args.x) (site_at c.args.points.now c.args.n) c.args.spot.level (LEVELS - c.args.spot.level) in
    let enough : c.part_two-used.result ≤ length c.args.spare.now = omega (arith, few, e.count, c.requires.stock) in
    leads_still c.args.pass.now.me.0 c.part_two-used.new.pass.me.0 _ c.args.n c.args.spare.now
    (key_of (site_at c.args.points.now c.args.n) c.args.spot.level) (turn.Done c.part_two-used.result) (still g d) (
      enough,
      put_taken _ _ c.args.n c.part_two-used.result c.args.spare.now (omega (arith, few, e.count)) enough
          (inserted_put _ _ c.args.n _ (some_held _ _ _ c.part_two-used.result (ready_on _ _ _ _ _ e.wrote c.requires.ready))
          (c.publish-found.ensures.hit (omega arith))),
    )

-- another word was found
other : (g : Over) (c : After-publish-found g) → (c.publish-found.result ≡ c.word_of_body-old.result → ⊥)
    → HasFoundOther c.part_two-used.new.pass.me.0 c.args.spot.word (key_of (site_at c.args.points.now c.args.n) c.args.spot.level) c.publish-found.result
    c.publish-found.new.pass.me.0
other g c apart = c.publish-found.ensures.miss apart _ (place_still _ _ _ _ (still_written _ _ _ c.part_two-used.ensures.wrote) c.requires.at.known)

pub named_by-requires : goal.named_by-requires
named_by-requires g c =
    let d = goal.at.named_by-requires g c in
    other_small _ _ _ _ _ (other g d.After-publish-found c.if-found-old.false) _ _ _ _
    (at_on _ _ _ _ _ _ (still g d.After-part_two-used)
    (written_free c.args.pass.now.me.0 c.part_two-used.new.pass.me.0 _ c.part_two-used.ensures.wrote (c.requires.at.no_lock, c.requires.at.none_under))
    c.requires.at)

pub returns-clause-turn : goal.returns-clause-turn
returns-clause-turn g c =
    let d = goal.at.returns-clause-turn g c in
    leads_still c.args.pass.now.me.0 c.part_two-used.new.pass.me.0 c.publish-found.new.pass.me.0 c.args.n c.args.spare.now
    (key_of (site_at c.args.points.now c.args.n) c.args.spot.level) (turn.Below c.in-Cell.cell) (still g d.After-part_two-used)
    (other_below _ _ _ _ _ (other g d.After-publish-found c.if-found-old.false) c.in-Cell.cell c.in-Cell.ensures)

pub unreachable-requires : goal.unreachable-requires
unreachable-requires g c =
    let d = goal.at.unreachable-requires g c in
    let s = still g d.After-part_two-used in
    let apart : c.publish-found.result ≡ body_word c.args.x → ⊥ = λ e. c.if-found-old.false (e ∙ sym c.word_of_body-old.ensures) in
    let cell = other_cell _ _ _ _ _ (other g d.After-publish-found c.if-found-old.false) c.args.x (there_still _ _ _ _ _ s c.requires.there) apart in
    names_cell _ _ cell.0 c.named_by.ensures cell.1 c.in_default.not-Cell
