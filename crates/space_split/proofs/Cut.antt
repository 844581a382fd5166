-- The pieces of sorted bodies, their cubes, and what is put together from the cubes' octrees.
use Rattle.std.proofs.Common.{ℕ, ◌-◌, ◌<◌, ◌≤◌, ◌≡◌, suc, refl, sym, ◌∙◌, ap, subst, arith, All, List, [], ◌∷◌, length, map, sum_by}
use Rattle.std.proofs.lemmas.List.{length-map}
use Rattle.std.proofs.lemmas.List.Elements.{All-cons, All-nil}
use Rattle.octant_code.specs.Points.{site_at}
use Rattle.octant_code.specs.Space.{Site}
use Rattle.bh_model.specs.Bodies.{IsIn, NoneTwice, numbers}
use Rattle.bh_model.specs.Pieces.{cubes_from, dealt, octants_of, piece_limit, pieces}
use Rattle.bh_model.specs.Plans.{HasWorkers}
use Rattle.bh_model.specs.Trees.{octree_from, order}
use Rattle.bh_model.specs.declared.piece.Piece.{Piece}
use Rattle.bh_model.proofs.PieceKeys.{dealt_keys, keys_of}
use Rattle.bh_model.proofs.Pieces.{cubes_sum}
use Rattle.octree.specs.ByKeys.{AreParts, IsAssembled, StandsByKeys}
use Rattle.octree.specs.Stored.{IsOctreeOf, IsStored, Stored, tree_of}
use Rattle.std.specs.Prelude.{◌↔◌}
use Rattle.space_split.specs.Bodies.{AreCubesIn}
use Rattle.space_split.specs.Parts.{AreBuilt}
use Rattle.space_split.specs.Ranges.{octant_of_code, pair_of}
use Rattle.space_split.specs.Rows.{AreWhole, Follow}
use Rattle.space_split.specs.Sorted.{AreSorted}
use Rattle.space_split.specs.declared.codes.Coded.{Coded}
use Rattle.space_split.specs.declared.cube.Cube.{Cube}
use Rattle.space_split.proofs.Coded.{counts_are_all, cubes_of_codes, pieces_of_codes}
use Rattle.space_split.proofs.Joined.{by_pieces, may_join, whole_octree}
use Rattle.space_split.proofs.Joining.{dealt_long, dealt_small, few_cubes}
use Rattle.space_split.proofs.Members.{cubes_in, sorted_many}
use Rattle.space_split.proofs.Sorting.{codes_moved}

-- the codes of bodies
abbrev pub codes_in : List Coded → List ℕ
codes_in bodies = map (λ (b : Coded). b.code) bodies

-- The bodies are sorted, and the cubes and the pieces are those of a division for so many workers.
pub record AreCut (sites : List Site) (bodies : List Coded) (most workers : ℕ) (cubes : List Cube) (found : List Piece) : Type 0 where
  pub few : length sites ≤ 65536
  pub sorted : AreSorted sites bodies
  pub work : HasWorkers workers
  pub limit : most ≡ piece_limit (length sites) workers
  pub cut : map pair_of cubes ≡ cubes_from octant_of_code most 21 0 1 (codes_in bodies)
  pub whole : AreWhole (codes_in bodies) cubes
  pub given : found ≡ dealt (length sites) workers 0 (map pair_of cubes)

pairs_some : (cubes : List Cube) → All (λ (c : Cube). 1 ≤ c.count) cubes → All (λ (q : ℕ × ℕ). 1 ≤ q.1) (map pair_of cubes)
pairs_some [] some = All-nil (λ (q : ℕ × ℕ). 1 ≤ q.1)
pairs_some (c ∷ cs) some =
    All-cons (λ (q : ℕ × ℕ). 1 ≤ q.1) (pair_of c) (map pair_of cs) (some 0 c (omega arith)) (pairs_some cs (λ k d l. some (suc k) d (omega arith)))

module _ (sites : List Site) (bodies : List Coded) (most workers : ℕ) (cubes : List Cube) (found : List Piece)
    (h : AreCut sites bodies most workers cubes found) where
  many : length (codes_in bodies) ≡ length sites
  many = length-map bodies (λ (b : Coded). b.code) ∙ sorted_many sites bodies h.sorted

  undivided : map pair_of cubes ≡ cubes_from (octants_of (site_at sites)) most 21 0 1 (numbers (length sites))
  undivided =
      h.cut ∙ sym (cubes_of_codes (site_at sites) most (numbers (length sites)) (codes_in bodies) (codes_moved sites bodies h.sorted))

  -- the pieces are those of the definition
  pub found_are : found ≡ pieces (site_at sites) workers (numbers (length sites))
  found_are =
      h.given
      ∙ pieces_of_codes (site_at sites) (length sites) (length sites) most workers (codes_in bodies) (map pair_of cubes)
      (codes_moved sites bodies h.sorted) refl h.limit h.cut

  -- there are as many as cubes
  pub found_long : length cubes ≡ length found
  found_long =
      sym (length-map cubes pair_of) ∙ sym (dealt_long (length sites) workers 0 (map pair_of cubes)) ∙ ap length (sym h.given)

  -- and at most as many as bodies
  pub found_few : length found ≤ 65536
  found_few =
      let sum = counts_are_all most (codes_in bodies) cubes h.cut in
      omega (arith, sum, many, h.few, found_long, few_cubes cubes h.whole.some)

  -- each is one of a worker
  pub found_small : All (λ (p : Piece). p.worker < workers) found
  found_small =
      let sum : sum_by (λ (q : ℕ × ℕ). q.1) (map pair_of cubes) ≡ length (codes_in bodies) =
      ap (sum_by (λ (q : ℕ × ℕ). q.1)) h.cut ∙ cubes_sum octant_of_code most 21 0 1 (codes_in bodies) (λ n l. omega arith) in
      subst (All (λ (p : Piece). p.worker < workers)) (sym h.given)
      (dealt_small (length sites) workers 0 (map pair_of cubes) (pairs_some cubes h.whole.some) (omega (arith, sum, many)) h.work.0)

  -- the cubes are cubes of the bodies
  pub cubes_are : AreCubesIn sites bodies cubes
  cubes_are = cubes_in sites bodies h.sorted cubes h.few h.whole

  module _ (parts : List Stored) (built : AreBuilt sites bodies cubes parts) where
    follow : Follow 0 (length bodies) cubes
    follow = subst (λ n. Follow 0 n cubes) (length-map bodies (λ (b : Coded). b.code)) h.whole.follow

    least : 1 ≤ most
    least = omega (arith, h.limit)

    -- the cubes' octrees may be put together
    pub parts_fit : AreParts sites parts
    parts_fit = may_join sites bodies h.sorted most cubes parts built cubes_are follow undivided least

    module _ (o : Stored) (joined : IsAssembled sites parts o) where
      -- which gives the octree of all points
      pub octree_is : IsStored o
          → ((list : List ℕ) → NoneTwice list → ((m : ℕ) → IsIn (order (tree_of o)) m ↔ IsIn list m)
          → tree_of o ≡ octree_from (site_at sites) (21 - o.level) o.level list) → IsOctreeOf sites o
      octree_is stored tree = whole_octree sites bodies h.sorted most cubes parts built cubes_are follow undivided least o joined stored tree

      -- whose cells stand by the pieces
      pub stands_by : StandsByKeys (map (λ (p : Piece). p.key) (pieces (site_at sites) workers (numbers (length sites)))) o
      stands_by =
          by_pieces sites bodies h.sorted most cubes parts built cubes_are follow undivided least o joined
          (map (λ (p : Piece). p.key) (pieces (site_at sites) workers (numbers (length sites))))
          (ap (map (λ (p : Piece). p.key)) (sym found_are ∙ h.given) ∙ dealt_keys (length sites) workers 0 (map pair_of cubes) ∙ ap keys_of undivided)
