use Rattle.std.proofs.Common.{List, All, Bor, ◌≡◌, ◌<◌, ◌∙◌, ap, arith, length, map, subst, sum_by, sym}
use Rattle.std.specs.List.Sorted.{IsPermutation}
use Rattle.octant_code.specs.Points.{site_at}
use Rattle.bh_model.specs.Bodies.{numbers}
use Rattle.bh_model.specs.Pieces.{cubes_from, dealt, piece_limit}
use Rattle.bh_model.specs.declared.piece.Piece.{Piece}
use Rattle.octree.specs.ByKeys.{AreParts, IsAssembled}
use Rattle.octree.specs.Stored.{Stored}
use Rattle.space_split.specs.Bodies.{AreCubesIn, IsCubeOf, bodies_of}
use Rattle.space_split.specs.Parts.{AreBuilt, IsPartOf}
use Rattle.space_split.specs.Ranges.{AreCodes, octant_of_code, pair_of}
use Rattle.space_split.specs.Rows.{AreWhole}
use Rattle.space_split.specs.declared.codes.Coded.{Coded}
use Rattle.space_split.specs.declared.cube.Cube.{Cube}
use Rattle.space_split.proofs.Coded.{as_many, code_of, counts_are_all}
use Rattle.space_split.proofs.Cut.{AreCut, codes_in, cubes_are, found_are, found_few, found_long, found_small, octree_is, parts_fit, stands_by}
use Rattle.space_split.proofs.Joining.{all_shares, joined_zip}
use Rattle.space_split.proofs.Sorting.{codes_are, codes_moved}
use Rattle.space_split.proofs.builder.build_with_pieces.Given.{Over}
use Rattle.space_split.proofs.builder.build_with_pieces.Goals.{In_ok-codes, In_ok-parts, In_ok-pieces, In_ok-tree}
use Rattle.space_split.proofs.builder.build_with_pieces.Goals as goal

-- the codes are those of the bodies
own : (g : Over) (c : In_ok-codes g) → c.in_ok-codes.codes.items ≡ map (λ (b : Coded). b.code) c.in_ok-bodies.bodies.items
own g c = c.in_ok-codes.ensures ∙ ap (map (λ (b : Coded). b.code)) c.deref.ensures.value

-- and those of all points in another order
moved : (g : Over) (c : In_ok-codes g)
    → IsPermutation (map (λ n. code_of (site_at c.args.points.now n)) (numbers (length c.args.points.now))) c.in_ok-codes.codes.items
moved g c =
    subst (IsPermutation (map (λ n. code_of (site_at c.args.points.now n)) (numbers (length c.args.points.now)))) (sym (own g c))
    (codes_moved c.args.points.now c.in_ok-bodies.bodies.items c.in_ok-bodies.ensures)

pub undivided_cubes-requires-clause-few : goal.undivided_cubes-requires-clause-few
undivided_cubes-requires-clause-few g c κs h =
    let codes = (goal.at.undivided_cubes-requires-clause-few g c).In_ok-codes in
    let many : length c.deref-2.result.now ≡ length c.args.points.now =
    ap length c.deref-2.ensures.value ∙ as_many (site_at c.args.points.now) (length c.args.points.now) c.in_ok-codes.codes.items (moved g codes) in
    omega (arith, many, c.len-count.ensures.rule.few)

pub undivided_cubes-requires-clause-rule : goal.undivided_cubes-requires-clause-rule
undivided_cubes-requires-clause-rule g c κs h =
    let codes = (goal.at.undivided_cubes-requires-clause-rule g c).In_ok-codes in
    subst AreCodes (sym (c.deref-2.ensures.value ∙ own g codes)) (codes_are c.args.points.now c.in_ok-bodies.bodies.items c.in_ok-bodies.ensures)

pub deal-requires-clause-whole : goal.deal-requires-clause-whole
deal-requires-clause-whole g c =
    let codes = (goal.at.deal-requires-clause-whole g c).In_ok-codes in
    ap (sum_by (λ (q : Cube). q.count)) c.deref-3.ensures.value
    ∙ counts_are_all c.piece_limit.result c.deref-2.result.now c.in_ok-cubes.cubes.items c.in_ok-cubes.ensures.cubes ∙ ap length c.deref-2.ensures.value
    ∙ as_many (site_at c.args.points.now) (length c.args.points.now) c.in_ok-codes.codes.items (moved g codes) ∙ sym c.len-count.ensures.value

-- what is known of the pieces
ready : (g : Over) (c : In_ok-pieces g)
    → AreCut c.args.points.now c.in_ok-bodies.bodies.items c.piece_limit.result c.args.workers c.in_ok-cubes.cubes.items c.in_ok-pieces.pieces.items
ready g c =
    let codes : c.deref-2.result.now ≡ codes_in c.in_ok-bodies.bodies.items =
    c.deref-2.ensures.value ∙ c.in_ok-codes.ensures ∙ ap (map (λ (b : Coded). b.code)) c.deref.ensures.value in
    record {
      few = c.len-count.ensures.rule.few;
      sorted = c.in_ok-bodies.ensures;
      work = c.requires;
      limit = c.piece_limit.ensures ∙ ap (λ n. piece_limit n c.args.workers) c.len-count.ensures.value;
      cut = c.in_ok-cubes.ensures.cubes ∙ ap (cubes_from octant_of_code c.piece_limit.result 21 0 1) codes;
      whole = subst (λ l. AreWhole l c.in_ok-cubes.cubes.items) codes c.in_ok-cubes.ensures.whole;
      given =
          c.in_ok-pieces.ensures ∙ ap (λ n. dealt n c.args.workers 0 (map pair_of c.deref-3.result.now)) c.len-count.ensures.value
          ∙ ap (λ l. dealt (length c.args.points.now) c.args.workers 0 (map pair_of l)) c.deref-3.ensures.value;
    }

pub deal_shares-requires-clause-alike : goal.deal_shares-requires-clause-alike
deal_shares-requires-clause-alike g c =
    let at = (goal.at.deal_shares-requires-clause-alike g c).In_ok-pieces in
    ap length c.deref-4.ensures.value
    ∙ found_long c.args.points.now c.in_ok-bodies.bodies.items c.piece_limit.result c.args.workers c.in_ok-cubes.cubes.items c.in_ok-pieces.pieces.items
    (ready g at)
    ∙ ap length (sym c.deref-5.ensures.value)

pub deal_shares-requires-clause-workers : goal.deal_shares-requires-clause-workers
deal_shares-requires-clause-workers g c =
    let at = (goal.at.deal_shares-requires-clause-workers g c).In_ok-pieces in
    subst (All (λ (p : Piece). p.worker < c.args.workers)) (sym c.deref-5.ensures.value)
    (found_small c.args.points.now c.in_ok-bodies.bodies.items c.piece_limit.result c.args.workers c.in_ok-cubes.cubes.items
    c.in_ok-pieces.pieces.items (ready g at))

pub work_all-requires-clause-cubes : goal.work_all-requires-clause-cubes
work_all-requires-clause-cubes g c κs h =
    let at = (goal.at.work_all-requires-clause-cubes g c).In_ok-pieces in
    let are : AreCubesIn c.args.points.now c.in_ok-bodies.bodies.items c.in_ok-cubes.cubes.items =
    cubes_are c.args.points.now c.in_ok-bodies.bodies.items c.piece_limit.result c.args.workers c.in_ok-cubes.cubes.items c.in_ok-pieces.pieces.items
    (ready g at) in
    let whole = c.in_ok-shares.ensures.whole ∙ c.deref-4.ensures.value in
    subst (λ l. All (λ (s : Bor (List Cube)). AreCubesIn c.args.points.now l s.now) c.deref-7.result.now) (sym c.deref-6.ensures.value)
    (subst (All (λ (s : Bor (List Cube)). AreCubesIn c.args.points.now c.in_ok-bodies.bodies.items s.now)) (sym c.deref-7.ensures.value)
    (all_shares (λ (s : Bor (List Cube)). s.now) (IsCubeOf c.args.points.now c.in_ok-bodies.bodies.items) c.in_ok-shares.shares.items
    (subst (AreCubesIn c.args.points.now c.in_ok-bodies.bodies.items) (sym whole) are)))

-- the octrees are those of the cubes
built : (g : Over) (c : In_ok-parts g)
    → AreBuilt c.args.points.now c.in_ok-bodies.bodies.items c.in_ok-cubes.cubes.items c.in_ok-parts.parts.items
built g c =
    let whole = c.in_ok-shares.ensures.whole ∙ c.deref-4.ensures.value in
    let each = rw (c.deref-6.ensures.value, c.deref-7.ensures.value) at c.in_ok-built.ensures in
    subst (λ l. AreBuilt c.args.points.now c.in_ok-bodies.bodies.items l c.in_ok-parts.parts.items) whole
    (joined_zip (λ (s : Bor (List Cube)). s.now) (λ v. v.items)
    (λ (cube : Cube) (o : Stored). IsPartOf c.args.points.now cube.key (bodies_of c.in_ok-bodies.bodies.items cube) o) c.in_ok-shares.shares.items
    c.in_ok-built.built.items c.in_ok-parts.parts.items each c.in_ok-parts.ensures)

pub assembled-requires : goal.assembled-requires
assembled-requires g c =
    let at = goal.at.assembled-requires g c in
    record {
      parts =
          subst (AreParts c.args.points.now) (sym c.deref-8.ensures.value)
          (parts_fit c.args.points.now c.in_ok-bodies.bodies.items c.piece_limit.result c.args.workers c.in_ok-cubes.cubes.items
          c.in_ok-pieces.pieces.items (ready g at.In_ok-pieces) c.in_ok-parts.parts.items (built g at.In_ok-parts));
    }

pub overflow_cast-result : goal.overflow_cast-result
overflow_cast-result g c =
    let at = (goal.at.overflow_cast-result g c).In_ok-pieces in
    let few =
    found_few c.args.points.now c.in_ok-bodies.bodies.items c.piece_limit.result c.args.workers c.in_ok-cubes.cubes.items c.in_ok-pieces.pieces.items
    (ready g at) in
    omega (arith, few, c.len.ensures, c.in_ok-pieces.pieces.ok)

-- the octree is put together of the octrees of the cubes
joined : (g : Over) (c : In_ok-tree g) → IsAssembled c.args.points.now c.in_ok-parts.parts.items c.in_ok-tree.tree
joined g c = subst (λ l. IsAssembled c.args.points.now l c.in_ok-tree.tree) c.deref-8.ensures.value c.in_ok-tree.ensures

pub returns-clause-tree : goal.returns-clause-tree
returns-clause-tree g c =
    let at = goal.at.returns-clause-tree g c in
    octree_is c.args.points.now c.in_ok-bodies.bodies.items c.piece_limit.result c.args.workers c.in_ok-cubes.cubes.items c.in_ok-pieces.pieces.items
    (ready g at.In_ok-pieces) c.in_ok-parts.parts.items (built g at.In_ok-parts) c.in_ok-tree.tree (joined g at.In_ok-tree)
    c.canonical_tree.ensures.rule c.canonical_tree.ensures.tree

pub returns-clause-by_keys : goal.returns-clause-by_keys
returns-clause-by_keys g c =
    let at = goal.at.returns-clause-by_keys g c in
    stands_by c.args.points.now c.in_ok-bodies.bodies.items c.piece_limit.result c.args.workers c.in_ok-cubes.cubes.items c.in_ok-pieces.pieces.items
    (ready g at.In_ok-pieces) c.in_ok-parts.parts.items (built g at.In_ok-parts) c.in_ok-tree.tree (joined g at.In_ok-tree)

pub returns-clause-count : goal.returns-clause-count
returns-clause-count g c =
    let at = (goal.at.returns-clause-count g c).In_ok-pieces in
    let same =
    ap length
    (found_are c.args.points.now c.in_ok-bodies.bodies.items c.piece_limit.result c.args.workers c.in_ok-cubes.cubes.items c.in_ok-pieces.pieces.items
    (ready g at)) in
    omega (arith, same, c.len.ensures, c.in_ok-pieces.pieces.ok)
