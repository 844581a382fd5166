-- Pulls are put at their bodies' numbers.
use Rattle.std.proofs.Common.{ℕ, ◌+◌, ◌<◌, ◌≤◌, ◌≡◌, List, All, Any, Contains, length, [], ◌∷◌, ◌++◌, take, get_or, set, map, sym, ap}
use Rattle.std.proofs.Common.{◌∙◌, subst, arith, inl, inr, below_more}
use Rattle.std.proofs.Common.{get_or-set_other, get_or-set_same}
use Rattle.std.proofs.lemmas.Bool.{cases_eq}
use Rattle.std.proofs.lemmas.List.{ext_get_or, get_or-map, length-map, map-append, take_more}
use Rattle.std.proofs.lemmas.List.Elements.{All-map}
use Rattle.octant_code.specs.Space.{origin}
use Rattle.bh_model.specs.Bodies.{numbers}
use Rattle.bh_model.specs.Moments.{Matter}
use Rattle.bh_model.specs.Trees.{Tree}
use Rattle.bh_model.proofs.Standing.{length_numbers, number_at_place, numbers_within}
use Rattle.bh_model.specs.Pulls.{PullLaw, no_pull, pull}
use Rattle.bh_model.specs.declared.pull.Pull.{Pull}
use Rattle.mass_moments.specs.Kept.{matter_of}
use Rattle.scene_file.specs.Bodies.{body_at, nobody}
use Rattle.scene_file.specs.declared.bodies.Body.{Body}
use Rattle.force_walk.specs.Placed.{ByPlace}
use Rattle.force_walk.specs.Walks.{pulls}

-- the point of a body
pub site_of_body : (bodies : List Body) (n : ℕ) → n < length bodies → (matter_of bodies).site n ≡ (body_at bodies n).at
site_of_body bodies n within = get_or-map (λ (b : Body). b.at) bodies n nobody origin within

-- the pulls on the first bodies of a zone stand, and so does each other pull that stood
pub record ArePut (f : ℕ → Pull) (before after : List Pull) (zone : List ℕ) (i : ℕ) : Type 0 where
  pub told : (k : ℕ) → k < i → get_or after (get_or zone k 0) no_pull ≡ f (get_or zone k 0)
  pub kept : (n : ℕ) → get_or before n no_pull ≡ f n → get_or after n no_pull ≡ f n

-- one right pull makes no other wrong
placed_set : (f : ℕ → Pull) (list : List Pull) (n : ℕ) (p : Pull) → n < length list → p ≡ f n
    → (k : ℕ) → get_or list k no_pull ≡ f k → get_or (set list n p) k no_pull ≡ f k
placed_set f list n p within e k h =
    elim (cases_eq k n) [
      | inl same ↦ (subst (λ (j : ℕ). get_or (set list n p) j no_pull ≡ f j) (sym same) (get_or-set_same list n p no_pull within ∙ e))
      | inr other ↦ get_or-set_other list n k p no_pull other ∙ h
    ]

pub put_more : (f : ℕ → Pull) (before after : List Pull) (zone : List ℕ) (i : ℕ) (p : Pull) → ArePut f before after zone i
    → get_or zone i 0 < length after → p ≡ f (get_or zone i 0) → ArePut f before (set after (get_or zone i 0) p) zone (i + 1)
put_more f before after zone i p put within e =
    let n : ℕ = get_or zone i 0 in
    record {
      told = below_more _ _ (λ k l. placed_set f after n p within e (get_or zone k 0) (put.told k l)) (get_or-set_same after n p no_pull within ∙ e);
      kept = λ k h. placed_set f after n p within e k (put.kept k h);
    }

-- one room more is made
pub rooms_more : {X Y R : Type 0} (g : X → R) (h : Y → R) (xs next : List X) (ys : List Y) (w : ℕ) (x : X) (y : Y) → w < length ys
    → y ≡ get_or ys w y → g x ≡ h y → next ≡ xs ++ x ∷ [] → map g xs ≡ map h (take w ys) → map g next ≡ map h (take (w + 1) ys)
rooms_more g h xs next ys w x y within is own more before =
    ap (map g) more ∙ map-append g xs (x ∷ []) ∙ ap (λ l. l ++ (g x ∷ [])) before ∙ ap (λ r. map h (take w ys) ++ (r ∷ [])) (own ∙ ap h is)
    ∙ sym (ap (map h) (take_more ys w y within) ∙ map-append h (take w ys) (get_or ys w y ∷ []))

-- what is said of two lists as wholes is said of each place
pub by_place : {X Y R : Type 0} (g : X → R) (h : Y → R) (xs : List X) (ys : List Y) → map g xs ≡ map h ys → ByPlace (λ y x. g x ≡ h y) ys xs
by_place g h xs ys same =
    let longs : length xs ≡ length ys = sym (length-map xs g) ∙ ap length same ∙ length-map ys h in (
      longs,
      (λ i d e within.
          sym (get_or-map g xs i e (g e) (omega (arith, longs, within))) ∙ ap (λ l. get_or l i (g e)) same ∙ get_or-map h ys i d (g e) within),
    )

-- a list in which each pull stands at its body's number
pub all_placed : (law : PullLaw) (m : Matter) (count : ℕ) (tree : Tree) (f : ℕ → Pull) (list : List Pull) → length list ≡ count
    → ((n : ℕ) → n < count → get_or list n no_pull ≡ f n) → ((n : ℕ) → n < count → f n ≡ pull law m n tree)
    → list ≡ pulls law m count tree
all_placed law m count tree f list long placed right =
    let one : ℕ → Pull = λ n. pull law m n tree in
    let size = length-map (numbers count) one in
    let many = length_numbers count in
    ext_get_or no_pull list (pulls law m count tree) (omega arith)
    (λ n l.
    let within : n < count = omega arith in
    placed n within ∙ right n within ∙ ap one (sym (number_at_place count n 0 within)) ∙ sym (get_or-map one (numbers count) n 0 no_pull (omega arith)))

-- each pull of such a list is small
pub all_small : (P : Pull → Type 0) (law : PullLaw) (m : Matter) (count : ℕ) (tree : Tree) (list : List Pull) → list ≡ pulls law m count tree
    → ((n : ℕ) → n < count → P (pull law m n tree)) → All P list
all_small P law m count tree list e small =
    subst (λ (l : List Pull). All P l) (sym e)
    (All-map P (λ n. pull law m n tree) (numbers count) (λ k d l. small (get_or (numbers count) k d) (numbers_within count k d l)))

-- what is told of each zone is told of each body
pub told_of_all : {X : Type 0} (P : ℕ → Type 0) (items : X → List ℕ) (zones : List X) (n i : ℕ) → Any (λ z. Contains (items z) n) zones → length zones ≤ i
    → ((j : ℕ) (d : X) → j < i → All P (items (get_or zones j d))) → P n
told_of_all P items zones n i found all told =
    let here = rw found.3 at (told found.0 found.1 (omega (arith, found.2))) in
    subst P found.4.2 (here found.4.0 n found.4.1)
