-- Facts between the steps of a search.
use Rattle.std.proofs.Common.{◌≡◌, ◌≢◌, ℕ, ◌+◌, ◌^◌, ◌<◌, ◌≤◌, ◌⊎◌, List, length, sym, ap, ◌∙◌, subst, inl, inr, arith}
use Rattle.octant_code.specs.declared.limits.TheConstants.{LEVELS}
use Rattle.octant_code.specs.Space.{Site, key_of, origin, IsUnder}
use Rattle.octant_code.specs.Points.{site_at, ArePoints}
use Rattle.std.proofs.lemmas.Bool.{cases_lt}
use Rattle.tree_rule.specs.Words.{body_word, cell_word}
use Rattle.tree_passes.specs.declared.view.View.{View}
use Rattle.tree_passes.specs.Counting.{times}
use Rattle.tree_passes.specs.Passes.{loaded, Met}
use Rattle.tree_passes.specs.Looks.{nowhere, FoundBody, Looked, Sought}
use Rattle.tree_passes.specs.Turns.{Descends, HasFound, HasNone, IsStill}
use Rattle.tree_passes.proofs.Turns.{descends_learnt, still_counted, still_looked, still_on}

-- a body that the pass has met stays met
met_on : (u v : View) (x : ℕ) → IsStill u v → Met u x → Met v x
met_on u v x s m = let a = ap (times x) s.done in let b = ap (times x) s.seen in let n : 1 ≤ times x u.done + times x u.seen = m in omega arith

-- a load on the way to a body that the pass is to put in finds no body at its point, so it is a plain look
pub looked_own : (v w : View) (i key value n : ℕ) (point : Site) → ArePoints v.points → n < length v.points → 1 ≤ times n v.todo
    → site_at v.points n ≡ point → Sought v i key value point w → Looked v i key value w
looked_own v w i key value n point rule n_in own is s =
    subst (Looked v i key value) (sym (s.miss (λ y e at. alone y (s.looked.tells.body y e) (at ∙ sym is)))) s.looked
  where
    alone : (y : ℕ) → FoundBody (loaded v key value) key y → site_at v.points y ≢ site_at v.points n
    alone y f at = elim (cases_lt y n) [
      | inl l ↦ rule.apart y n l n_in at
      | inr r ↦ elim (cases_lt n y) [
        | inl l ↦ rule.apart n y l f.x_in (sym at)
        | inr p ↦ let g : times n v.todo ≡ 0 = subst (λ (z : ℕ). times z v.todo ≡ 0) (omega arith) f.not_todo in omega arith
      ]
    ]

-- a load on the way to no point is a plain look
pub looked_nowhere : (v w : View) (i key value : ℕ) → ArePoints v.points → Sought v i key value nowhere w → Looked v i key value w
looked_nowhere v w i key value rule s =
    subst (Looked v i key value) (sym (s.miss (λ y e at. outside y (s.looked.tells.body y e) at))) s.looked
  where
    outside : (y : ℕ) → FoundBody (loaded v key value) key y → site_at v.points y ≢ nowhere
    outside y f at =
        let fits = (rule.in_cube y origin f.x_in).x_fits in
        let far : (site_at v.points y).x ≡ 2 ^ 21 = ap (λ (z : Site). z.x) at in
        omega arith

-- a load that looks for a body at a point, with the key of a cube that holds the point
module _ (u v w : View) (i level value : ℕ) (point : Site) (s : IsStill u v) (low : level ≤ LEVELS) (h : Sought v i (key_of point level) value point w) where
  abbrev key : ℕ
  key = key_of point level

  still_plain : IsStill u h.plain
  still_plain = still_on u v h.plain s (still_looked v i key value h.plain h.looked)

  -- the load was counted, and is the last
  plain_loads : h.plain.loads ≡ v.loads + 1
  plain_loads = ap (λ (z : View). z.loads) h.looked.view

  plain_last : h.plain.last ≡ (key, value)
  plain_last = ap (λ (z : View). z.last) h.looked.view

  -- a body with the point lies under the key
  under_key : (x : ℕ) → site_at u.points x ≡ point → IsUnder key (site_at v.points x)
  under_key x e = (level, low, ap (λ (z : Site). key_of z level) (sym (ap (λ (z : List Site). site_at z x) s.points ∙ e)))

  none_if : ((y : ℕ) → value ≡ body_word y → site_at v.points y ≢ point) → ((x : ℕ) → Met u x → site_at u.points x ≢ point)
      → (value ≡ 0) ⊎ ((y : ℕ) × (value ≡ body_word y) × (site_at u.points y ≢ point)) → HasNone u w point
  none_if miss none_met names = subst (λ (z : View). HasNone u z point) (sym (h.miss miss)) (record {
    still = still_plain;
    none_met = none_met;
    loaded = let a = plain_loads in let b = s.more_loads in omega arith;
    last = (value, (level, low, plain_last), names);
  })

  pub none_empty : value ≡ 0 → HasNone u w point
  none_empty e = none_if (λ y f. absurd (omega arith)) (λ x m f. h.looked.tells.nobody e x (met_on u v x s m) (under_key x f)) (inl e)

  pub none_other : (y : ℕ) → value ≡ body_word y → site_at u.points y ≢ point → HasNone u w point
  none_other y e apart = none_if
      (λ z f g. let one : z ≡ y = omega arith in apart (ap (λ (q : List Site). site_at q y) (sym s.points) ∙ ap (site_at v.points) (sym one) ∙ g))
      (λ x m f. let one = h.looked.tells.other y e x (met_on u v x s m) (under_key x f) in apart (ap (site_at u.points) (sym one) ∙ f))
      (inr (y, e, apart))

  pub body_inside : (y : ℕ) → value ≡ body_word y → y < length u.points
  body_inside y e = let q = (h.looked.tells.body y e).x_in in subst (λ (z : List Site). y < length z) s.points q

  pub found_body : (y : ℕ) → value ≡ body_word y → site_at u.points y ≡ point → HasFound u w point y
  found_body y e is =
      let view = h.hit y e (ap (λ (q : List Site). site_at q y) s.points ∙ is) in
      record {
        has = is;
        b_in = body_inside y e;
        plain = h.plain;
        still = still_plain;
        view = view;
        loaded = let a = plain_loads in let b = s.more_loads in let d = ap (λ (z : View). z.loads) view in omega arith;
        last = (level, low, ap (λ (z : View). z.last) view ∙ plain_last ∙ ap (λ (n : ℕ). (key_of point level, n)) e);
      }

  pub cell_below : (d : ℕ) → value ≡ cell_word d → Descends u w key d
  cell_below d e =
      subst (λ (z : View). Descends u z key d) (sym (h.miss (λ y f g. absurd (omega arith))))
      (descends_learnt u (loaded v key value) h.plain i key value d (still_on u v (loaded v key value) s (still_counted v key value)) h.looked e)
