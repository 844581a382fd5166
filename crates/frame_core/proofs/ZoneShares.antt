-- The zones of a tree are shares: they hold each of its bodies once.
use Rattle.std.proofs.Common.{◌≡◌, ◌+◌, ◌*◌, ◌/◌, ◌<◌, ◌≤◌, ℕ, cond, List, [], ◌∷◌, length, refl, ◌∙◌, ap, sym, arith, inl, inr, eqb, eq-eqb}
use Rattle.std.proofs.lemmas.Bool.{cases_lt, ne_eqb}
use Rattle.std.proofs.lemmas.Bool.Decides.{eqb_tells}
use Rattle.std.proofs.lemmas.List.Sums.{sum_by-cons}
use Rattle.bh_model.proofs.ZoneCuts.{zone_from-none, zone_from-other, zone_from-own}
use Rattle.frame_core.proofs.Sharing.{own_less}
use Rattle.octant_code.specs.Points.{site_at}
use Rattle.bh_model.proofs.Lists.{in_numbers, numbers_once}
use Rattle.bh_model.proofs.Orders.{order_has_none_twice}
use Rattle.bh_model.specs.Bodies.{IsIn, NoneTwice, numbers}
use Rattle.bh_model.specs.Plans.{HasWorkers}
use Rattle.bh_model.specs.Trees.{Tree, order}
use Rattle.bh_model.specs.Zones.{cost_of, zone, zone_from, zones}
use Rattle.tree_passes.specs.Counting.{same, sum_of, times}
use Rattle.tree_passes.proofs.Laws.{in_times, once_times, sum_of-map, times_in}
use Rattle.build_workers.specs.Shares.{AreShares, times_in_all}
use Rattle.scene_file.specs.Bodies.{AreBodies, sites_of}
use Rattle.scene_file.specs.declared.bodies.Body.{Body}
use Rattle.frame_core.specs.Frames.{tree_of_bodies}
use Rattle.frame_core.proofs.Rows.{length-values}
use Rattle.frame_core.proofs.Zones.{from_tree, in_tree}

-- a body's worker among workers
abbrev mine : ℕ → ℕ → ℕ → ℕ
mine own j w = cond (eqb own w) j 0

-- where the worker stands once among workers, it counts once
none_mine : (own j : ℕ) (ws : List ℕ) → times own ws ≡ 0 → sum_of (mine own j) ws ≡ 0
none_mine own j [] none = refl
none_mine own j (w ∷ ws) none =
    elim (eqb_tells w own) [
      | inl e ↦ (let s : same w own ≡ 1 = ap (λ b. cond b 1 0) e.0 in absurd (omega arith))
      | inr d ↦
          (let s : same w own ≡ 0 = ap (λ b. cond b 1 0) d.0 in
          let r : sum_of (mine own j) ws ≡ 0 = none_mine own j ws (omega arith) in
          let m : mine own j w ≡ 0 = ap (λ b. cond b j 0) (ne_eqb own w (λ e. d.1 (sym e))) in
          omega arith)
    ]

once_mine : (own j : ℕ) (ws : List ℕ) → times own ws ≡ 1 → sum_of (mine own j) ws ≡ j
once_mine own j [] once = absurd (omega arith)
once_mine own j (w ∷ ws) once =
    elim (eqb_tells w own) [
      | inl e ↦
          (let s : same w own ≡ 1 = ap (λ b. cond b 1 0) e.0 in
          let r : sum_of (mine own j) ws ≡ 0 = none_mine own j ws (omega arith) in
          let m : mine own j w ≡ j = ap (λ b. cond b j 0) (eq-eqb own w (sym e.1)) in
          omega arith)
      | inr d ↦
          (let s : same w own ≡ 0 = ap (λ b. cond b 1 0) d.0 in
          let r : sum_of (mine own j) ws ≡ j = once_mine own j ws (omega arith) in
          let m : mine own j w ≡ 0 = ap (λ b. cond b j 0) (ne_eqb own w (λ e. d.1 (sym e))) in
          omega arith)
    ]

module _ (cost : ℕ → ℕ) (workers whole n : ℕ) where
  -- how often a number stands in a zone of bodies before which others stand
  abbrev in_zone : ℕ → List ℕ → ℕ → ℕ
  in_zone before xs w = times n (zone_from cost workers whole before xs w)

  -- with one body more in front it stands there once more where the body is that number and the zone its own
  one_more : (before x : ℕ) (xs : List ℕ) (w : ℕ)
      → in_zone before (x ∷ xs) w ≡ mine (before * workers / whole) (same x n) w + in_zone (before + cost x) xs w
  one_more before x xs w =
      elim (eqb_tells (before * workers / whole) w) [
        | inl e ↦
            (let z : in_zone before (x ∷ xs) w ≡ same x n + in_zone (before + cost x) xs w = ap (times n)
            (zone_from-own cost workers whole before x xs w e.1) in
            let m : mine (before * workers / whole) (same x n) w ≡ same x n = ap (λ b. cond b (same x n) 0) e.0 in
            omega arith)
        | inr d ↦
            (let z : in_zone before (x ∷ xs) w ≡ in_zone (before + cost x) xs w = ap (times n)
            (zone_from-other cost workers whole before x xs w d.1) in
            let m : mine (before * workers / whole) (same x n) w ≡ 0 = ap (λ b. cond b (same x n) 0) d.0 in
            omega arith)
      ]

  one_more_in_all : (before x : ℕ) (xs ws : List ℕ)
      → sum_of (in_zone before (x ∷ xs)) ws ≡ sum_of (mine (before * workers / whole) (same x n)) ws + sum_of (in_zone (before + cost x) xs) ws
  one_more_in_all before x xs [] = refl
  one_more_in_all before x xs (w ∷ ws) =
      let m = one_more before x xs w in
      let r = one_more_in_all before x xs ws in
      omega arith

  none_in_all : (before : ℕ) (ws : List ℕ) → sum_of (in_zone before []) ws ≡ 0
  none_in_all before [] = refl
  none_in_all before (w ∷ ws) =
      let m : in_zone before [] w ≡ 0 = ap (times n) (zone_from-none cost workers whole before w) in
      let r = none_in_all before ws in
      omega arith

  -- in the zones of all workers a number stands as often as in the list, where each body costs something
  pub times_in_zones : (before : ℕ) (xs ws : List ℕ) → 1 ≤ workers → ((w : ℕ) → w < workers → times w ws ≡ 1) → ((m : ℕ) → IsIn xs m → 1 ≤ cost m)
      → before + cost_of cost xs ≤ whole
      → sum_of (in_zone before xs) ws ≡ times n xs
  times_in_zones before [] ws some each positive room = none_in_all before ws
  times_in_zones before (x ∷ xs) ws some each positive room =
      let p : 1 ≤ cost x = positive x (inl refl) in
      let c = sum_by-cons cost x xs in
      let own : before * workers / whole < workers = own_less before workers whole some (omega arith) in
      let r : sum_of (in_zone (before + cost x) xs) ws ≡ times n xs =
      times_in_zones (before + cost x) xs ws some each (λ m i. positive m (inr i)) (omega arith) in
      let m : sum_of (mine (before * workers / whole) (same x n)) ws ≡ same x n = once_mine (before * workers / whole) (same x n) ws
      (each (before * workers / whole) own) in
      let all = one_more_in_all before x xs ws in
      omega arith

-- each worker stands once among all
each_worker : (workers w : ℕ) → w < workers → times w (numbers workers) ≡ 1
each_worker workers w l =
    let a = in_times w (numbers workers) ((in_numbers workers w).1 l) in
    let b = once_times (numbers workers) (numbers_once workers) w in
    omega arith

-- the zones of the bodies' tree hold each body once
pub zones_are_shares : (cost : ℕ → ℕ) (workers : ℕ) (bodies : List Body) → AreBodies bodies → HasWorkers workers
    → ((n : ℕ) → n < length bodies → 1 ≤ cost n)
    → AreShares (length bodies) (zones cost workers (tree_of_bodies bodies))
zones_are_shares cost workers bodies rule many positive =
    let tree : Tree = tree_of_bodies bodies in
    let all : List ℕ = order tree in
    let once : NoneTwice all = order_has_none_twice (site_at (sites_of bodies)) (numbers (length bodies)) in
    let size : length (zones cost workers tree) ≡ workers = length-values (λ w. zone cost workers w tree) workers in
    let held : (n : ℕ) → times_in_all n (zones cost workers tree) ≡ times n all = λ n.
    sum_of-map (times n) (λ w. zone cost workers w tree) (numbers workers)
    ∙ times_in_zones cost workers (cost_of cost all) n 0 all (numbers workers) many.0 (each_worker workers)
    (λ m i. positive m (from_tree bodies m rule i)) (omega arith) in
    record {
      some = omega (arith, many.0);
      few = omega (arith, many.1);
      once = λ n l. held n ∙ (let a = in_times n all (in_tree bodies n rule l) in let b = once_times all once n in omega arith);
      no_other = λ n l. held n ∙ elim (cases_lt 0 (times n all)) [
        | inl some ↦ (let m : n < length bodies = from_tree bodies n rule (times_in n all (omega arith)) in absurd (omega arith))
        | inr none ↦ omega arith
      ];
    }
