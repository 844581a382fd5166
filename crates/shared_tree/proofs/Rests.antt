-- Passes that are split.
use Rattle.std.proofs.Common.{◌≡◌, ℕ, ◌+◌, ◌*◌, ◌≤◌, ◌-◌, List, [], ◌∷◌, ◌++◌, drop, length, take, refl, sym, ap, subst, arith}
use Rattle.tree_rule.specs.declared.words.TheConstants.{CELLS_OF_ONE}
use Rattle.tree_passes.specs.declared.view.View.{View}
use Rattle.tree_passes.specs.Counting.{times, without, without_all}
use Rattle.tree_passes.specs.Passes.{given_part, kept_part}
use Rattle.tree_passes.proofs.Laws.{length-without, same-eq, times-append, times-without, times-without_all}
use Rattle.cell_pool.specs.Free.{between, ends_of}
use Rattle.cell_pool.proofs.Laws.{length-between, length-ends, three_parts}
use Rattle.shared_tree.specs.Seen.{IsAtRest, IsCounted, IsSplit, PartsOfPass, front_of}

-- numbers that all stand in a list are no more than its
pub length-without_all : (part l : List ℕ) → ((x : ℕ) → times x part ≤ times x l) → length (without_all part l) + length part ≡ length l
length-without_all [] l h = omega arith
length-without_all (x ∷ xs) l h =
    let first : 1 ≤ times x l = let q = h x in let one = same-eq x x refl in omega arith in
    let r = length-without_all xs (without x l) (λ z. let q = h z in let w = times-without x z l first in omega arith) in
    let w = length-without x l first in
    omega arith

-- the bodies of a part are no more than those that are to be put in
pub part_few : (v : View) (part : List ℕ) → ((x : ℕ) → times x part ≤ times x v.todo) → length part ≤ length v.todo
part_few v part among = let n = length-without_all part v.todo among in omega arith

-- each number of a list stands in its ends or between them
pub times-ends : (front back : ℕ) (l : List ℕ) → front + back ≤ length l → (c : ℕ) → times c l ≡ times c (between front back l) + times c (ends_of front back l)
times-ends front back l few c =
    let a = take front l in
    let b = between front back l in
    let z = drop (length l - back) l in
    let whole = ap (times c) (three_parts front back l few) in
    omega (arith, whole, times-append c a (b ++ z), times-append c b z, times-append c a z)

-- a pass was split where its region and its view were
pub is_split : (v w u : PartsOfPass) (part given : List ℕ) (front cells quota : ℕ) → w.table_id ≡ v.table_id → u.table_id ≡ v.table_id
    → front ≡ front_of (length part) cells → cells ≤ length v.cells → given ≡ u.cells → u.cells ≡ ends_of front (cells - front) v.cells
    → w.cells ≡ between front (cells - front) v.cells → w.view ≡ kept_part given part quota v.view → u.view ≡ given_part given part quota v.view
    → IsSplit v w u part cells quota
is_split v w u part given front cells quota old_table new_table is_front few same parted stays kept new = record {
  old_table = old_table;
  new_table = new_table;
  parted = subst (λ (z : ℕ). u.cells ≡ ends_of z (cells - z) v.cells) is_front parted;
  stays = subst (λ (z : ℕ). w.cells ≡ between z (cells - z) v.cells) is_front stays;
  count = let l = length-ends front (cells - front) v.cells (omega arith) in let e = ap length parted in omega arith;
  kept = subst (λ (z : List ℕ). w.view ≡ kept_part z part quota v.view) same kept;
  given = subst (λ (z : List ℕ). u.view ≡ given_part z part quota v.view) same new;
}

-- each cell of a region that was split went to one of both passes
pub split_times : (v w u : PartsOfPass) (part : List ℕ) (cells quota : ℕ) → IsSplit v w u part cells quota → cells ≤ length v.cells
    → (c : ℕ) → times c v.cells ≡ times c w.cells + times c u.cells
split_times v w u part cells quota s few c =
    let front = front_of (length part) cells in
    let e = times-ends front (cells - front) v.cells (omega (arith, few)) c in
    omega (arith, e, ap (times c) s.parted, ap (times c) s.stays)

-- and so many stayed
pub split_length : (v w u : PartsOfPass) (part : List ℕ) (cells quota : ℕ) → IsSplit v w u part cells quota → cells ≤ length v.cells
    → length w.cells + cells ≡ length v.cells
split_length v w u part cells quota s few =
    let front = front_of (length part) cells in
    let e = length-between front (cells - front) v.cells (omega (arith, few)) in
    omega (arith, few, e, ap length s.stays)

-- the pass that was split
pub rest_kept : (v w u : PartsOfPass) (part : List ℕ) (cells quota words room : ℕ) → IsSplit v w u part cells quota → cells ≤ length v.cells
    → ((x : ℕ) → times x part ≤ times x v.view.todo) → cells + quota ≡ CELLS_OF_ONE * length part → length v.cells + quota ≤ room
    → IsAtRest v.view words v.cells room → IsAtRest w.view words w.cells (room - CELLS_OF_ONE * length part)
rest_kept v w u part cells quota words room s there among sum free r =
    let n = length-without_all part v.view.todo among in
    let l = split_length v w u part cells quota s there in
    let both = split_times v w u part cells quota s there in
    subst (λ (z : View). IsAtRest z words w.cells (room - CELLS_OF_ONE * length part)) (sym s.kept) (record {
      some = r.some;
      few = r.few;
      rule = r.rule;
      no_lock = r.no_lock;
      none_under = r.none_under;
      todo_in = λ x p. r.todo_in x (let t = times-without_all part v.view.todo among x in omega arith);
      ready = record {
        long = r.ready.long;
        held = λ c.
            let a = r.ready.held c in
            let b = both c in
            let t = times-without_all u.cells v.view.held (λ x. let f = r.ready.held x in let g = both x in omega arith) c in
            omega arith;
        once = λ c. let a = r.ready.once c in let b = both c in omega arith;
        inside = λ c p. r.ready.inside c (let b = both c in omega arith);
      };
      stocked = let a = r.stocked in omega arith;
      drawable = let a = r.drawable in omega arith;
    })

-- and the new one
pub rest_given : (v w u : PartsOfPass) (part : List ℕ) (cells quota words room : ℕ) → IsSplit v w u part cells quota → cells ≤ length v.cells
    → ((x : ℕ) → times x part ≤ times x v.view.todo) → cells + quota ≡ CELLS_OF_ONE * length part
    → IsAtRest v.view words v.cells room → IsAtRest u.view words u.cells (CELLS_OF_ONE * length part)
rest_given v w u part cells quota words room s there among sum r =
    let both = split_times v w u part cells quota s there in
    subst (λ (z : View). IsAtRest z words u.cells (CELLS_OF_ONE * length part)) (sym s.given) (record {
      some = r.some;
      few = r.few;
      rule = r.rule;
      no_lock = refl;
      none_under = refl;
      todo_in = λ x p. r.todo_in x (let t = among x in omega arith);
      ready = record {
        long = r.ready.long;
        held = λ c. omega arith;
        once = λ c. let a = r.ready.once c in let b = both c in omega arith;
        inside = λ c p. r.ready.inside c (let b = both c in omega arith);
      };
      stocked = omega arith;
      drawable = let n = s.count in omega arith;
    })

-- what a pass has counted stays with it, and the new one has counted nothing
pub counted_kept : (v w : View) (given part : List ℕ) (quota published changes : ℕ) → IsCounted v published changes
    → ((x : ℕ) → times x part ≤ times x v.todo) → w ≡ kept_part given part quota v → IsCounted w published changes
counted_kept v w given part quota published changes h among e =
    let n = length-without_all part v.todo among in
    subst (λ (z : View). IsCounted z published changes) (sym e)
    (record { todo_few = let f = h.todo_few in omega arith; bodies = h.bodies; publications = h.publications })

pub counted_given : (v w : View) (given part : List ℕ) (quota published changes : ℕ) → IsCounted v published changes
    → ((x : ℕ) → times x part ≤ times x v.todo) → w ≡ given_part given part quota v → IsCounted w 0 0
counted_given v w given part quota published changes h among e =
    let n = part_few v part among in
    subst (λ (z : View). IsCounted z 0 0) (sym e) (record { todo_few = let f = h.todo_few in omega arith; bodies = refl; publications = refl })
