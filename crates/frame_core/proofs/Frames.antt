-- The figures of a frame, from what was made for it.
use Rattle.std.proofs.Common.{◌≡◌, ◌<◌, ℕ, ℤ, pos, ◌*ℤ◌, List, [], ◌∷◌, length, refl, ◌∙◌, ap, arith, inl, inr, sum_by}
use Rattle.std.proofs.lemmas.List.Sums.{sum_by-cons}
use Rattle.bh_model.proofs.Lists.{in_numbers}
use Rattle.bh_model.specs.Bodies.{IsIn, numbers}
use Rattle.bh_model.specs.Pulls.{PullLaw, no_pull, pull}
use Rattle.bh_model.specs.Trees.{Tree}
use Rattle.bh_model.specs.declared.pull.Pull.{Pull}
use Rattle.force_walk.specs.Walks.{pulls}
use Rattle.mass_moments.specs.Kept.{matter_of}
use Rattle.probe.specs.Figures.{FrameFigures}
use Rattle.scene_file.specs.declared.bodies.Body.{Body}
use Rattle.frame_core.specs.Frames.{pull_on, push, tree_of_bodies}
use Rattle.frame_core.specs.Pushes.{met_by, pull_at, push_by}
use Rattle.frame_core.proofs.Pushes.{sum_over-same}
use Rattle.frame_core.proofs.Rows.{length-values, value_at_place}

-- ---- pulls in a list

-- the pulls of the octree are those of the bodies' tree
pub pulls_on : (law : PullLaw) (bodies : List Body) (tree : Tree) (found : List Pull) → tree ≡ tree_of_bodies bodies
    → found ≡ pulls law (matter_of bodies) (length bodies) tree
    → found ≡ pulls law (matter_of bodies) (length bodies) (tree_of_bodies bodies)
pulls_on law bodies tree found t e = e ∙ ap (pulls law (matter_of bodies) (length bodies)) t

-- there is one for each body
pub pulls_count : (law : PullLaw) (bodies : List Body) (tree : Tree) (found : List Pull) → found ≡ pulls law (matter_of bodies) (length bodies) tree
    → length found ≡ length bodies
pulls_count law bodies tree found e = ap length e ∙ length-values (λ n. pull law (matter_of bodies) n tree) (length bodies)

-- which stands at its number
pub pull_is : (law : PullLaw) (bodies : List Body) (found : List Pull) (n : ℕ) → found ≡ pulls law (matter_of bodies) (length bodies) (tree_of_bodies bodies)
    → n < length bodies
    → pull_at found n ≡ pull_on law bodies n
pull_is law bodies found n e l = ap (λ y. pull_at y n) e ∙ value_at_place (pull_on law bodies) (length bodies) n no_pull l

-- sums of equal numbers
sum_by-same : (f g : ℕ → ℕ) (xs : List ℕ) → ((n : ℕ) → IsIn xs n → f n ≡ g n) → sum_by f xs ≡ sum_by g xs
sum_by-same f g [] same = refl
sum_by-same f g (x ∷ xs) same = omega (arith, sum_by-cons f x xs, sum_by-cons g x xs, same x (inl refl), sum_by-same f g xs (λ n i. same n (inr i)))

-- the terms of the pulls
pub met_is : (law : PullLaw) (bodies : List Body) (found : List Pull) → found ≡ pulls law (matter_of bodies) (length bodies) (tree_of_bodies bodies)
    → met_by found (length bodies) ≡ sum_by (λ n. (pull_on law bodies n).met) (numbers (length bodies))
met_is law bodies found e =
    sum_by-same (λ n. (pull_at found n).met) (λ n. (pull_on law bodies n).met) (numbers (length bodies))
    (λ n i. ap (λ p. p.met) (pull_is law bodies found n e ((in_numbers (length bodies) n).0 i)))

-- the sums of mass times acceleration
pub push_is : (part : Pull → ℤ) (law : PullLaw) (bodies : List Body) (found : List Pull)
    → found ≡ pulls law (matter_of bodies) (length bodies) (tree_of_bodies bodies)
    → push_by part bodies found (length bodies) ≡ push part law bodies (numbers (length bodies))
push_is part law bodies found e =
    sum_over-same (λ n. pos ((matter_of bodies).mass n) *ℤ part (pull_at found n)) (λ n. pos ((matter_of bodies).mass n) *ℤ part (pull_on law bodies n))
    (numbers (length bodies))
    (λ n i. ap (λ p. pos ((matter_of bodies).mass n) *ℤ part p) (pull_is law bodies found n e ((in_numbers (length bodies) n).0 i)))

-- ---- equal figures

-- figures by their parts
abbrev pub figures : ℕ → ℕ → ℕ → ℕ → ℕ → ℕ → ℤ → ℤ → ℤ → FrameFigures
figures step bodies cells cost greatest met x y z = record {
  step = step;
  bodies = bodies;
  cells = cells;
  cost = cost;
  greatest = greatest;
  met = met;
  push_x = x;
  push_y = y;
  push_z = z;
}

-- figures with equal parts are equal
pub same_figures : (step b b' c c' o o' g g' m m' : ℕ) (x x' y y' z z' : ℤ) → b ≡ b' → c ≡ c' → o ≡ o' → g ≡ g' → m ≡ m' → x ≡ x' → y ≡ y' → z ≡ z'
    → figures step b c o g m x y z ≡ figures step b' c' o' g' m' x' y' z'
same_figures step b b' c c' o o' g g' m m' x x' y y' z z' eb ec eo eg em ex ey ez =
    ap (λ u. figures step u c o g m x y z) eb ∙ ap (λ u. figures step b' u o g m x y z) ec ∙ ap (λ u. figures step b' c' u g m x y z) eo
    ∙ ap (λ u. figures step b' c' o' u m x y z) eg
    ∙ ap (λ u. figures step b' c' o' g' u x y z) em ∙ ap (λ u. figures step b' c' o' g' m' u y z) ex ∙ ap (λ u. figures step b' c' o' g' m' x' u z) ey
    ∙ ap (λ u. figures step b' c' o' g' m' x' y' u) ez
