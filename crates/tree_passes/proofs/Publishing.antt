-- A publication: one published word takes a body, or the top of cells that the pass holds.
use Rattle.std.proofs.Common.{◌≡◌, ℕ, ◌+◌, ◌<◌, ◌≤◌, ◌⊎◌, ◌↔◌, List, set, sym, ap, ◌∙◌, subst, inl, inr, arith, length-set}
use mathlib.Core.Option.{some}
use mathlib.Core.Logic.{dite}
use native.Mathlib.Decide.{ℕ_discrete}
use lib.ListN.{get_elem?}
use Rattle.atomic_table.specs.Table.{State}
use Rattle.octant_code.specs.Space.{Site}
use Rattle.octant_code.specs.Points.{site_at}
use Rattle.bh_model.specs.Bodies.{IsIn}
use Rattle.tree_rule.specs.Words.{at_of, cell_word, child_place, key_place}
use Rattle.tree_rule.specs.Flat.{ChangedAt, Either, IsPlaceOf, StandsFor}
use Rattle.tree_rule.proofs.Laws.{ACell, NoBody, OneBody, WordIs, changed_at, graft, key_apart, stands_moved, stands_same, word_is}
use Rattle.tree_passes.specs.declared.view.TheConstants.{ROW_WORDS}
use Rattle.tree_passes.specs.declared.view.View.{View}
use Rattle.tree_passes.specs.Counting.{times, without_all}
use Rattle.tree_passes.specs.Opening.{Opening}
use Rattle.tree_passes.specs.Passes.{after_publication, IsBody, IsCell, Knows, KnowsPlace}
use Rattle.tree_passes.specs.Rule.{Kept}
use Rattle.tree_passes.specs.Plays.{IsPutOrNamed, IsReadyFor}
use Rattle.tree_passes.proofs.Counts.{in_times, times_in, times-append, times-without_all}
use Rattle.tree_passes.proofs.After.{body_on, cell_on, Grows, kept_after, knows_less, knows_on, Moves, moves_same, parted_after, place_inside, SameLists}
use Rattle.tree_passes.proofs.Looking.{named_body, there}
use Rattle.tree_passes.proofs.Storing.{place_not_held}

module _ (o : Opening) (s : State (Unit {0}) View) (h : Kept o s) (id : ℕ) (v : View) (at : get_elem? s.views id ≡ some v) (i key old new : ℕ)
    (cells bodies : List ℕ) (place : KnowsPlace v i key) (hit : at_of s.words i ≡ old) (r : IsReadyFor v key old new cells bodies) where
  abbrev us : List ℕ
  us = set s.words i new

  abbrev more : ℕ → ℕ
  more c = times c cells + h.cells c

  abbrev others : ℕ → ℕ
  others x = times x bodies + h.bodies x

  abbrev w : View
  w = after_publication v cells bodies

  k : Knows o s.words h.cells h.bodies v
  k = h.knows id v at

  spot : IsPlaceOf (at_of s.words) 0 1 (IsCell o h.cells) key i
  spot = there o s h id v at i key place

  change : ChangedAt (at_of s.words) (at_of us) i new
  change = changed_at s.words i new (place_inside o s h key i spot)

  -- the words of a cell that some pass holds stay
  held_stays : (j : ℕ) (u : View) → get_elem? s.views j ≡ some u → (c l : ℕ) → 1 ≤ times c u.held → l < ROW_WORDS
      → at_of us (child_place c l) ≡ at_of s.words (child_place c l)
  held_stays j u e c l p q = change.others (child_place c l) (place_not_held o s h j u e key i c l spot p q)

  key_stays : (c : ℕ) → at_of us (key_place c) ≡ at_of s.words (key_place c)
  key_stays c = change.others (key_place c) (key_apart (at_of s.words) 0 1 (IsCell o h.cells) key i c (omega arith) spot)

  mine : (c : ℕ) → IsIn cells c → 1 ≤ times c v.held
  mine c p = let a = in_times c cells p in let b = r.held c in omega arith

  -- the new part stands in the words of the table
  below : StandsFor (site_at o.sites) (at_of us) new key (IsIn cells) (IsPutOrNamed bodies old)
  below =
      let word : (c l : ℕ) → IsIn cells c → l < ROW_WORDS → at_of us (child_place c l) ≡ at_of v.memory (child_place c l) =
      λ c l p q. held_stays id v at c l (mine c p) q ∙ k.memory c l (mine c p) q in
      stands_moved (site_at o.sites) (at_of v.memory) (at_of us) new key (IsIn cells) (IsPutOrNamed bodies old)
      (λ c p. let e : key_place c ≡ child_place c 8 = omega arith in ap (at_of us) e ∙ word c 8 p (omega arith) ∙ ap (at_of v.memory) (sym e))
      (λ c l p q. word c l p (omega arith))
      (subst (λ (z : List Site). StandsFor (site_at z) (at_of v.memory) new key (IsIn cells) (IsPutOrNamed bodies old)) k.points r.stands)

  same_cells : (c : ℕ) → Either (IsCell o h.cells) (IsIn cells) c ↔ IsCell o more c
  same_cells c = (
    (λ p. elim p [
      | inl q ↦ cell_on o h.cells more (λ d. omega arith) c q
      | inr q ↦ inr (let a = in_times c cells q in omega arith)
    ]),
    (λ p. elim p [
      | inl q ↦ inl (inl q)
      | inr q ↦ dite (ℕ_discrete (times c cells) 0) (λ z. inl (inr (omega arith))) (λ z. inr (times_in c cells (omega arith)))
    ]),
  )

  more_body : (x : ℕ) → IsBody o h.bodies x → IsBody o others x
  more_body = body_on o h.bodies others (λ d. omega arith)

  same_bodies : (x : ℕ) → Either (IsBody o h.bodies) (IsPutOrNamed bodies old) x ↔ IsBody o others x
  same_bodies x = (
    (λ p. elim p [
      | inl q ↦ more_body x q
      | inr q ↦ elim q [
        | inl m ↦ inr (let a = in_times x bodies m in omega arith)
        | inr e ↦ more_body x (named_body o s h id v at i key (there o s h id v at i key place) x (hit ∙ e)).0
      ]
    ]),
    (λ p. elim p [
      | inl q ↦ inl (inl q)
      | inr q ↦ dite (ℕ_discrete (times x bodies) 0) (λ z. inl (inr (omega arith))) (λ z. inr (inl (times_in x bodies (omega arith))))
    ]),
  )

  stand : StandsFor (site_at o.sites) (at_of us) (at_of us 0) 1 (IsCell o more) (IsBody o others)
  stand =
      stands_same (site_at o.sites) (at_of us) (at_of us 0) 1 (Either (IsCell o h.cells) (IsIn cells)) (IsCell o more)
      (Either (IsBody o h.bodies) (IsPutOrNamed bodies old)) (IsBody o others) same_cells same_bodies
      (graft (site_at o.sites) (at_of s.words) (at_of us) 0 1 (IsCell o h.cells) (IsIn cells) (IsBody o h.bodies) (IsPutOrNamed bodies old)
      (IsBody o h.bodies) (IsPutOrNamed bodies old) key i new (record {
        before = h.stand;
        below = below;
        there = spot;
        no_cell = λ c e. r.no_cell c (sym hit ∙ e);
        body_joins = λ n e. inr (sym hit ∙ e);
        changed = change;
      }))

  becomes : WordIs old → (at_of us i ≡ at_of s.words i) ⊎ ((at_of s.words i ≡ 0) ⊎ ((d : ℕ) × (at_of us i ≡ cell_word d)))
  becomes (NoBody e) = inr (inl (hit ∙ e))
  becomes (OneBody x e) = let g = r.grows x e in inr (inr (g.0, change.now ∙ g.1))
  becomes (ACell d e) = absurd (r.no_cell d e)

  grows : Grows o s.words us h.cells more h.bodies others
  grows = record {
    long = length-set s.words i new;
    later = record {
      cells_stay = cell_on o h.cells more (λ c. omega arith);
      keys_stay = λ c p. key_stays c;
      words_go_on = λ q j p. dite (ℕ_discrete j i)
          (λ e. subst (λ (z : ℕ). (at_of us z ≡ at_of s.words z) ⊎ ((at_of s.words z ≡ 0) ⊎ ((d : ℕ) × (at_of us z ≡ cell_word d)))) (sym e)
          (becomes (word_is old)))
          (λ n. inl (change.others j n));
    };
    bodies_stay = more_body;
  }

  held_less : (c : ℕ) → times c (without_all cells v.held) + times c cells ≡ times c v.held
  held_less = times-without_all cells v.held r.held

  moves : Moves v w h.cells more h.bodies others
  moves = record {
    published = λ c. let a = times-append c cells v.published in omega arith;
    held = λ c. let a = times-append c cells v.published in let b = held_less c in omega arith;
    done = λ x. let a = times-append x bodies v.done in omega arith;
    todo = λ x. let a = times-append x bodies v.done in let b = times-without_all bodies v.todo r.todo x in omega arith;
  }

  knows : Knows o us more others w
  knows = knows_on o s.words us h.cells more h.bodies others grows w (λ c l p q. held_stays id v at c l (let b = held_less c in omega arith) q)
      (knows_less (λ c. let b = held_less c in omega arith) k.under k)

  -- the rule stays, also where the view changes besides in what this rule does not see
  pub kept_published : (x : View) → SameLists w x → ((us : List ℕ) (cells bodies : ℕ → ℕ) → Knows o us cells bodies w → Knows o us cells bodies x)
      → Kept o record { words = us; homes = s.homes; views = set s.views id x }
  kept_published x l f = kept_after o s h id v x us more others at (record {
    grows = grows;
    parted = parted_after o h.cells more h.bodies others s.views id v x at (moves_same v w x h.cells more h.bodies others moves l) h.parted;
    stand = stand;
    inside = λ c p. elim ((same_cells c).1 p) [ inl q ↦ h.inside c q | inr q ↦ k.inside c (mine c q) ];
    apart = λ j u n e c l p q. held_stays j u e c l p q;
    knows = f us more others knows;
  })
