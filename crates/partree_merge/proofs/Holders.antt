-- How often workers publish together, and where one share alone holds bodies.
use Rattle.std.proofs.Common.{ℕ, ◌≡◌, ◌+◌, ◌<◌, ◌≤◌, refl, inl, arith, List, [], ◌∷◌, length}
use Rattle.std.proofs.lemmas.List.Sums.{sum_by-cons}
use Rattle.octant_code.specs.Space.{Site}
use Rattle.octant_code.specs.Points.{site_at}
use Rattle.bh_model.specs.Bodies.{IsIn, numbers}
use Rattle.bh_model.specs.Blocks.{blocks, blocks_of_shares, others_than}
use Rattle.bh_model.proofs.Blocks.{blocks-alone, blocks-none}
use Rattle.bh_model.proofs.Lists.{in_numbers}
use Rattle.tree_passes.specs.Counting.{times}
use Rattle.tree_passes.proofs.Laws.{times_in}
use Rattle.build_workers.specs.Shares.{times_in_all}
use Rattle.build_workers.specs.Working.{IsSumFor}
use Rattle.partree_merge.specs.Merging.{holders, MayPublish}
use Rattle.partree_merge.proofs.Alike.{in_others}

-- all workers together publish at least once for each share that holds a body, and at most as often as the shares have blocks
pub record IsWithinBlocks (sites : List Site) (shares : List (List ℕ)) (sum : ℕ) : Type 0 where
  pub some : holders shares ≤ sum
  pub few : sum ≤ blocks_of_shares (site_at sites) (length sites) shares

-- the blocks of one share more
blocks_more : (site : ℕ → Site) (count : ℕ) (s : List ℕ) (ss : List (List ℕ))
    → blocks_of_shares site count (s ∷ ss) ≡ blocks site s (others_than count s) + blocks_of_shares site count ss
blocks_more site count s ss = sum_by-cons (λ share. blocks site share (others_than count share)) s ss

pub sum_within : (sites : List Site) (shares : List (List ℕ)) (sum : ℕ) → IsSumFor (MayPublish sites) shares sum → IsWithinBlocks sites shares sum
sum_within sites [] sum h = record { some = omega arith; few = omega arith }
sum_within sites (s ∷ ss) sum h =
    let first = h.2 in
    let rest = sum_within sites ss h.1 h.3 in
    let a = first.0 in
    let b = first.1 in
    let c = rest.some in
    let d = rest.few in
    let whole = h.4 in
    let more = blocks_more (site_at sites) (length sites) s ss in
    record { some = omega arith; few = omega arith }

-- where no share holds a body there is none, and no block
record HaveNone (site : ℕ → Site) (count : ℕ) (shares : List (List ℕ)) : Type 0 where
  none : (x : ℕ) → times_in_all x shares ≡ 0
  no_block : blocks_of_shares site count shares ≡ 0

none_held : (site : ℕ → Site) (count : ℕ) (shares : List (List ℕ)) → holders shares ≡ 0 → HaveNone site count shares
none_held site count [] h = record { none = λ x. refl; no_block = refl }
none_held site count ([] ∷ ss) h =
    let rest = none_held site count ss (omega arith) in
    let b = blocks-none site 21 0 (others_than count []) in
    let r = rest.no_block in
    let more = blocks_more site count [] ss in
    record { none = λ x. let n = rest.none x in omega arith; no_block = omega arith }
none_held site count ((y ∷ ys) ∷ ss) h = absurd (omega arith)

-- a list with all numbers has no others
no_others : (count : ℕ) (l : List ℕ) → ((x : ℕ) → x < count → 1 ≤ times x l) → (n : ℕ) → IsIn (others_than count l) n → ⊥
no_others count l all n i =
    let p = (in_others (numbers count) l n).0 i in
    p.1 (times_in n l (all n ((in_numbers count n).0 p.0)))

-- a list without others is one block
one_block : (site : ℕ → Site) (y : ℕ) (ys others : List ℕ) → ((n : ℕ) → IsIn others n → ⊥) → blocks site (y ∷ ys) others ≡ 1
one_block site y ys [] none = blocks-alone site 21 0 y ys
one_block site y ys (o ∷ os) none = absurd (none o (inl refl))

-- so one share that holds all bodies is one block
pub blocks_one : (site : ℕ → Site) (count : ℕ) (shares : List (List ℕ)) → ((x : ℕ) → x < count → times_in_all x shares ≡ 1) → holders shares ≡ 1
    → blocks_of_shares site count shares ≡ 1
blocks_one site count [] once one = absurd (omega arith)
blocks_one site count ([] ∷ ss) once one =
    let b = blocks-none site 21 0 (others_than count []) in
    let r = blocks_one site count ss (λ x l. let o = once x l in omega arith) (omega arith) in
    let more = blocks_more site count [] ss in
    omega arith
blocks_one site count ((y ∷ ys) ∷ ss) once one =
    let rest = none_held site count ss (omega arith) in
    let r = rest.no_block in
    let more = blocks_more site count (y ∷ ys) ss in
    let b = one_block site y ys (others_than count (y ∷ ys))
    (no_others count (y ∷ ys) (λ x l. let o = once x l in let n = rest.none x in omega arith)) in
    omega arith
