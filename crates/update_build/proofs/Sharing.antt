-- Edits that workers give, each those of its own parts.
use Rattle.std.proofs.Common.{ℕ, ◌+◌, ◌*◌, ◌^◌, ◌<◌, ◌≤◌, ◌≡◌, ◌⊎◌, ◌%◌, suc, refl, sym, ◌∙◌, subst, inl, inr, arith, List, [], ◌∷◌, ◌++◌, slice_set}
use Rattle.std.proofs.Math.Nat.{pow-suc, pow-zero}
use Rattle.std.proofs.lemmas.Bool.{cases_lt}
use Rattle.std.proofs.lemmas.Nat.{mod_below}
use Rattle.octant_code.specs.Space.{Site}
use Rattle.tree_rule.proofs.Laws.{word_at_place}
use Rattle.tree_rule.specs.Flat.{IsPlaceOf}
use Rattle.tree_rule.specs.Words.{HasCell, at_of, cell_word}
use Rattle.update_build.specs.declared.edits.Edit.{Edit}
use Rattle.update_build.specs.Contracting.{AreContracted, AreThinned, Further, InChild, IsBelowBy, IsDoneIn}
use Rattle.update_build.specs.Contracting.{IsInCubeOf, ItsOwn, LeaveAt, NoFurther, applied, key_in_words}
use Rattle.update_build.specs.Dealing.{IsDealt, IsDealtBelow, IsOfFirst, IsOfWorker, LeaveChildren, LeaveDealt}
use Rattle.update_build.proofs.Contracting.{all_done, below_grows, done_then, fewer_none, fewer_then, key_stays, none_in_cube, place_positive}
use Rattle.update_build.proofs.Editing.{below_low, children_apart, in_cube_in, nested, none_deep, seen_then, whole_left}

-- ---- keys so many levels below another

below_in : (depth key q : ℕ) → IsBelowBy depth key q → IsInCubeOf key q
below_in _ _ _ (NoFurther depth key q e f) = ItsOwn q f
below_in _ _ _ (Further depth key q k d small deeper g) =
    in_cube_in key (8 * key + k) q (InChild key k (8 * key + k) (ItsOwn key refl) small refl) (below_in d (8 * key + k) q g)

-- they are of no deeper level
below_high : (level depth key q : ℕ) → key < 2 * 8 ^ level → IsBelowBy depth key q → q < 2 * 8 ^ (level + depth)
below_high level _ _ _ high (NoFurther depth key q e f) =
    let same : level ≡ level + depth = omega arith in
    subst (λ (y : ℕ). q < 2 * 8 ^ y) same (omega (arith, high, f))
below_high level _ _ _ high (Further depth key q k d small deeper g) =
    let same : suc level + d ≡ level + depth = omega arith in
    subst (λ (y : ℕ). q < 2 * 8 ^ y) same (below_high (suc level) d (8 * key + k) q (omega (arith, pow-suc 8 level, high)) g)

-- so one isn't in the cube of another
one_of_level : (depth p q : ℕ) → IsBelowBy depth 1 p → IsBelowBy depth 1 q → IsInCubeOf p q → p ≡ q
one_of_level depth p _ f g (ItsOwn q e) = sym e
one_of_level depth p _ f g (InChild parent k q b l e) =
    absurd (omega (arith, e, below_grows p parent b, below_low 0 depth 1 p (omega (arith, pow-zero 8)) f, below_high 0 depth 1 q (omega (arith, pow-zero 8)) g))

apart_at : (depth p q x : ℕ) → IsBelowBy depth 1 p → IsBelowBy depth 1 q → IsInCubeOf p x → IsInCubeOf q x → p ≡ q
apart_at depth p q x f g a b = elim (nested p q x a b) [
  | inl h ↦ one_of_level depth p q f g h
  | inr h ↦ sym (one_of_level depth q p g f h)
]

-- ---- what was done

done_as : (sites : List Site) (a b : List ℕ) (P Q : ℕ → Type 0) → ((q : ℕ) → P q → Q q) → ((q : ℕ) → Q q → P q) → IsDoneIn sites a b P
    → IsDoneIn sites a b Q
done_as sites a b P Q to from f = record {
  thinned = f.thinned;
  fewer = f.fewer;
  stays = λ d has off. f.stays d has (λ q p. off q (to q p));
  words = λ key place there off. f.words key place there (λ q p. off q (to q p));
  shared = λ q r. f.shared q (from q r);
}

-- nothing, where nothing was to be done
done_nowhere : (sites : List Site) (words : List ℕ) (Done : ℕ → Type 0) → AreThinned sites words → ((q : ℕ) → Done q → ⊥) → IsDoneIn sites words words Done
done_nowhere sites words Done h none = record {
  thinned = h;
  fewer = fewer_none words;
  stays = λ d has off. has;
  words = λ key place there off. refl;
  shared = λ q p. absurd (none q p);
}

-- ---- one worker's walk

none_further : (depth key q : ℕ) → depth ≡ 0 → IsBelowBy depth key q → q ≡ key
none_further _ _ _ deep (NoFurther depth key q e f) = f
none_further _ _ _ deep (Further depth key q k d small deeper g) = absurd (omega arith)

taken_apart : (Mine : ℕ → Type 0) (depth d key k q : ℕ) → depth ≡ d + 1 → k ≡ 8 → IsBelowBy depth key q → Mine q → IsDealtBelow Mine d key k q
taken_apart Mine _ d _ k _ deep whole (NoFurther depth key q e f) m = absurd (omega arith)
taken_apart Mine _ d _ k _ deep whole (Further depth key q j c small e g) m =
    let same : c ≡ d = omega arith in
    record { octant = j; small = omega arith; dealt = record { below = subst (λ (y : ℕ). IsBelowBy y (8 * key + j) q) same g; mine = m } }

module _ (sites : List Site) (before : List ℕ) (Mine : ℕ → Type 0) where
  -- a cube that is another's
  pub dealt_other : (depth key : ℕ) (edits : List Edit) → depth ≡ 0 → (Mine key → ⊥) → LeaveDealt sites before Mine depth key edits edits
  dealt_other depth key edits deep other now thinned fewer seen =
      done_nowhere sites (applied now edits) (IsDealt Mine depth key) thinned (λ q p. other (subst Mine (none_further depth key q deep p.below) p.mine))

  -- one's own
  pub dealt_own : (depth key place w : ℕ) (old new : List Edit) → AreThinned sites before → IsPlaceOf (at_of before) 0 1 (HasCell before) key place
      → depth ≡ 0 → Mine key → LeaveAt sites before 21 key place old new w → LeaveDealt sites before Mine depth key old new
  dealt_own depth key place w old new h there deep mine left now thinned fewer seen =
      done_as sites (applied now old) (applied now new) (λ q. q ≡ key) (IsDealt Mine depth key)
      (λ q e. record { below = NoFurther depth key q deep e; mine = subst Mine (sym e) mine })
      (λ q p. none_further depth key q deep p.below)
      (left now thinned (seen key (record { below = NoFurther depth key key deep refl; mine = mine }))
      (none_deep sites (applied now old) key thinned (place_positive sites before key place h there))).0

  -- no cell
  pub dealt_off : (depth key place w : ℕ) (edits : List Edit) → AreThinned sites before → IsPlaceOf (at_of before) 0 1 (HasCell before) key place
      → w ≡ at_of before place → ((c : ℕ) → w ≡ cell_word c → ⊥) → LeaveDealt sites before Mine depth key edits edits
  dealt_off depth key place w edits h there is off now thinned fewer seen = record {
    thinned = thinned;
    fewer = fewer_none (applied now edits);
    stays = λ d has o. has;
    words = λ q p t o. refl;
    shared = λ q p d has inside.
        let same : key_in_words (applied now edits) d ≡ key_in_words before d = key_stays before (applied now edits) fewer d in
        absurd (none_in_cube sites before key (at_of before place) h (place_positive sites before key place h there)
        (word_at_place (at_of before) 0 1 (HasCell before) key place there) (λ c e. off c (is ∙ e)) (key_in_words before d)
        (in_cube_in key q (key_in_words before d) (below_in depth key q p.below) (subst (λ (y : ℕ). IsInCubeOf q y) same inside)) d
        (h.stands.cell_named d (fewer.cells d has)));
  }

  -- the children of a cell, one after another
  pub dealt_start : (depth key : ℕ) (edits : List Edit) → LeaveChildren sites before Mine depth key 0 edits edits
  dealt_start depth key edits now thinned fewer seen =
      done_nowhere sites (applied now edits) (IsDealtBelow Mine depth key 0) thinned (λ q p. let l = p.small in absurd (omega arith))

  pub dealt_more : (depth key k : ℕ) (old mid new : List Edit) → 1 ≤ key → k < 8 → LeaveChildren sites before Mine depth key k old mid
      → LeaveDealt sites before Mine depth (8 * key + k) mid new → LeaveChildren sites before Mine depth key (k + 1) old new
  dealt_more depth key k old mid new some small all one now thinned fewer seen =
      let a = all now thinned fewer (λ q p. seen q (record { octant = p.octant; small = omega (arith, p.small); dealt = p.dealt })) in
      let next = one now a.thinned (fewer_then before (applied now old) (applied now mid) fewer a.fewer)
      (λ q p. seen_then sites before (applied now old) (applied now mid) q (IsDealtBelow Mine depth key k)
      (seen q (record { octant = k; small = omega arith; dealt = p })) a
      (λ x inside r s b.
      let same = children_apart key s.octant k x some (omega (arith, s.small)) small
      (in_cube_in (8 * key + s.octant) r x (below_in depth (8 * key + s.octant) r s.dealt.below) b)
      (in_cube_in (8 * key + k) q x (below_in depth (8 * key + k) q p.below) inside) in
      let l = s.small in absurd (omega (arith, same)))) in
      done_then sites (applied now old) (applied now mid) (applied now new) (IsDealtBelow Mine depth key k) (IsDealt Mine depth (8 * key + k))
      (IsDealtBelow Mine depth key (k + 1)) a next
      (λ q p. elim (cases_lt p.octant k) [
        | inl less ↦ inl (record { octant = p.octant; small = less; dealt = p.dealt })
        | inr last ↦
            let l = p.small in
            let same : p.octant ≡ k = omega arith in
            inr (subst (λ (y : ℕ). IsDealt Mine depth (8 * key + y) q) same p.dealt)
      ])
      (λ x off q p. off q (record { octant = p.octant; small = omega (arith, p.small); dealt = p.dealt }))
      (λ x off q p. off q (record { octant = k; small = omega arith; dealt = p }))

  pub dealt_all : (depth d key k : ℕ) (old new : List Edit) → depth ≡ d + 1 → k ≡ 8 → LeaveChildren sites before Mine d key k old new
      → LeaveDealt sites before Mine depth key old new
  dealt_all depth d key k old new deeper whole all now thinned fewer seen =
      done_as sites (applied now old) (applied now new) (IsDealtBelow Mine d key k) (IsDealt Mine depth key)
      (λ q p. put_together depth d key k q deeper whole p) (λ q p. taken_apart Mine depth d key k q deeper whole p.below p.mine)
      (all now thinned fewer (λ q p. seen q (put_together depth d key k q deeper whole p)))
    where
      put_together : (depth d key k q : ℕ) → depth ≡ d + 1 → k ≡ 8 → IsDealtBelow Mine d key k q → IsDealt Mine depth key q
      put_together depth d key k q deeper whole p =
          record { below = Further depth key q p.octant d (omega (arith, whole, p.small)) deeper p.dealt.below; mine = p.dealt.mine }

-- ---- several workers

applied_joined : (words : List ℕ) (a b : List Edit) → applied words (a ++ b) ≡ applied (applied words a) b
applied_joined words [] b = refl
applied_joined words (e ∷ es) b = applied_joined (slice_set words e.place e.word) es b

dealt_both : (sites : List Site) (before : List ℕ) (depth : ℕ) (V W U : ℕ → Type 0) (a b : List Edit) → ((q : ℕ) → V q → W q → ⊥)
    → ((q : ℕ) → U q → V q ⊎ W q) → ((q : ℕ) → V q → U q) → ((q : ℕ) → W q → U q) → LeaveDealt sites before V depth 1 [] a
    → LeaveDealt sites before W depth 1 [] b → LeaveDealt sites before U depth 1 [] (a ++ b)
dealt_both sites before depth V W U a b apart cases to_v to_w first second now thinned fewer seen =
    let f = first now thinned fewer (λ q p. seen q (record { below = p.below; mine = to_v q p.mine })) in
    let g = second (applied now a) f.thinned (fewer_then before now (applied now a) fewer f.fewer)
    (λ q p. seen_then sites before now (applied now a) q (IsDealt V depth 1) (seen q (record { below = p.below; mine = to_w q p.mine })) f
    (λ x inside r s i.
    let same : r ≡ q = apart_at depth r q x s.below p.below i inside in apart q (subst V same s.mine) p.mine)) in
    subst (λ (z : List ℕ). IsDoneIn sites now z (IsDealt U depth 1)) (sym (applied_joined now a b))
    (done_then sites now (applied now a) (applied (applied now a) b) (IsDealt V depth 1) (IsDealt W depth 1) (IsDealt U depth 1) f g
    (λ q p. elim (cases q p.mine) [
      | inl v ↦ inl (record { below = p.below; mine = v })
      | inr w ↦ inr (record { below = p.below; mine = w })
    ])
    (λ x off q p. off q (record { below = p.below; mine = to_v q p.mine }))
    (λ x off q p. off q (record { below = p.below; mine = to_w q p.mine })))

-- the first worker alone
pub dealt_first : (sites : List Site) (before : List ℕ) (depth workers count : ℕ) (a : List Edit) → count ≡ 1
    → LeaveDealt sites before (IsOfWorker workers 0) depth 1 [] a → LeaveDealt sites before (IsOfFirst workers count) depth 1 [] a
dealt_first sites before depth workers count a one first now thinned fewer seen =
    done_as sites now (applied now a) (IsDealt (IsOfWorker workers 0) depth 1) (IsDealt (IsOfFirst workers count) depth 1)
    (λ q p. record { below = p.below; mine = omega (arith, p.mine) })
    (λ q p. record { below = p.below; mine = omega (arith, p.mine) })
    (first now thinned fewer (λ q p. seen q (record { below = p.below; mine = omega (arith, p.mine) })))

-- the first workers and one more
pub dealt_next : (sites : List Site) (before : List ℕ) (depth workers worker count : ℕ) (a b : List Edit) → count ≡ worker + 1
    → LeaveDealt sites before (IsOfFirst workers worker) depth 1 [] a → LeaveDealt sites before (IsOfWorker workers worker) depth 1 [] b
    → LeaveDealt sites before (IsOfFirst workers count) depth 1 [] (a ++ b)
dealt_next sites before depth workers worker count a b more first own =
    dealt_both sites before depth (IsOfFirst workers worker) (IsOfWorker workers worker) (IsOfFirst workers count) a b
    (λ q v w. omega (arith, v, w))
    (λ q u. elim (cases_lt (q % workers) worker) [ inl less ↦ inl less | inr last ↦ inr (omega (arith, u)) ])
    (λ q v. omega (arith, v)) (λ q w. omega (arith, w)) first own

-- what all workers leave is done
pub dealt_done : (sites : List Site) (before after : List ℕ) (depth workers : ℕ) (edits : List Edit) → 0 < workers → AreThinned sites before
    → after ≡ applied before edits → LeaveDealt sites before (IsOfFirst workers workers) depth 1 [] edits
    → IsDoneIn sites before after (IsBelowBy depth 1)
dealt_done sites before after depth workers edits some h is left =
    subst (λ (z : List ℕ). IsDoneIn sites before z (IsBelowBy depth 1)) (sym is)
    (done_as sites before (applied before edits) (IsDealt (IsOfFirst workers workers) depth 1) (IsBelowBy depth 1) (λ q p. p.below)
    (λ q b. record { below = b; mine = mod_below q workers some })
    (left before h (fewer_none before) (λ q p x place there inside. (there, refl))))

-- the cells above them come last
pub dealt_whole : (sites : List Site) (before mid after : List ℕ) (depth w : ℕ) (old edits : List Edit) → IsDoneIn sites before mid (IsBelowBy depth 1)
    → old ≡ [] → after ≡ applied mid edits → LeaveAt sites mid depth 1 0 old edits w → AreContracted sites before after
dealt_whole sites before mid after depth w old edits done none is left =
    all_done sites before after (done_then sites before mid after (IsBelowBy depth 1) (λ q. q ≡ 1) (λ q. q ≡ 1) done
    (whole_left sites mid after depth w old edits done.thinned done.shared none is left) (λ q e. inr e)
    (λ x off q p b. off 1 refl (in_cube_in 1 q x (below_in depth 1 q p) b)) (λ x off. off))
