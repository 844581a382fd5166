-- Octrees that were opened and closed, and what the passes between put in.
use Rattle.std.proofs.Common.{ℕ, ◌≡◌, ◌<◌, ◌≤◌, ◌++◌, ◌∙◌, ◌↔◌, ap, refl, sym, subst, inl, inr, arith, List, length}
use Rattle.std.proofs.lemmas.Bool.{cases_lt}
use Rattle.octant_code.specs.Space.{Site}
use Rattle.bh_model.specs.Bodies.{IsIn, numbers}
use Rattle.bh_model.proofs.Lists.{in_numbers, numbers_once}
use Rattle.tree_rule.specs.Words.{HasBody, IsReached, at_of, body_word, cell_word, key_place}
use Rattle.octree.specs.Stored.{IsCanonical, Stored, root_word}
use Rattle.octree.proofs.Laws.{reached_blank}
use Rattle.tree_passes.specs.Counting.{times}
use Rattle.tree_passes.specs.Opening.{Opening}
use Rattle.tree_passes.proofs.Laws.{in_times, length-same, times_in}
use Rattle.shared_tree.specs.Ends.{IsTreeAtEnd}
use Rattle.shared_tree.specs.Seen.{entrusted, PassState, SharedTree}
use Rattle.build_workers.specs.Shares.{times_in_all, AreShares}
use Rattle.build_workers.proofs.Laws.{all_parted}
use Rattle.build_workers.specs.Working.{HasPutShares}
use Rattle.local_build.specs.Insertion.{AreNew, AreSharesOf, IsWithBodies}

-- words of one value at each place
words_one : (words others : List ℕ) → ((i : ℕ) → at_of words i ≡ at_of others i) → at_of words ≡ at_of others
words_one words others same = λ i x. same x i

-- what is read in the one is read in the other
read_there : (words others : List ℕ) → ((i : ℕ) → at_of words i ≡ at_of others i) → (w : ℕ) → IsReached (at_of words) (at_of words 0) w
    → IsReached (at_of others) (at_of others 0) w
read_there words others same w r = subst (λ (at : ℕ → ℕ). IsReached at (at 0) w) (words_one words others same) r

-- no share has a number past all points
pub none_past : (bodies : List ℕ) (shares : List (List ℕ)) → AreSharesOf bodies shares → (count : ℕ) → ((n : ℕ) → IsIn bodies n → n < count) → (n : ℕ)
    → count ≤ n → times_in_all n shares ≡ 0
none_past bodies shares are count inside n past = elim (cases_lt 0 (times n bodies)) [
  | inl some ↦ let less : n < count = inside n (times_in n bodies (omega arith)) in absurd (omega arith)
  | inr none ↦ let e = are.parted n in omega arith
]

module _ (bodies : List ℕ) (shares : List (List ℕ)) (are : AreSharesOf bodies shares) (t : SharedTree) (may : List ℕ → ℕ → Type 0) (p : PassState)
    (put : HasPutShares t may shares p) where
  -- the pass has put in the bodies
  pub put_bodies : (n : ℕ) → times n p.done ≡ times n bodies
  put_bodies n = put.done n ∙ sym (are.parted n)

  -- which is all that it was entrusted with
  pub put_all : (todo : List ℕ) → todo ≡ bodies → (n : ℕ) → times n todo ≡ times n (entrusted p)
  put_all todo is n = ap (times n) is ∙ sym (put_bodies n) ∙ ap (λ (z : List ℕ). times n (z ++ p.done)) (sym put.todo)

  -- and so many
  pub put_many : length p.done ≡ length bodies
  put_many = length-same p.done bodies put_bodies

  -- the octree has them at the end
  pub with_bodies : (sites : List Site) (o : Opening) (seen : List ℕ) (before after : Stored) → o.sites ≡ sites
      → ((i : ℕ) → at_of o.words i ≡ at_of before.words i) → IsTreeAtEnd o p.done seen after → IsWithBodies sites before bodies after
  with_bodies sites o seen before after is same ended =
      let back : (i : ℕ) → at_of before.words i ≡ at_of o.words i = λ i. sym (same i) in
      record {
        base = ended.base;
        canonical = subst (λ (s : List Site). IsCanonical s after) is ended.canonical;
        bodies_are = λ n. (
          (λ b. elim ((ended.bodies n).0 b) [
            | inl old ↦ inl (read_there o.words before.words same (body_word n) old)
            | inr new ↦ let some = in_times n p.done new in let e = put_bodies n in inr (times_in n bodies (omega arith))
          ]),
          (λ b. elim b [
            | inl old ↦ (ended.bodies n).1 (inl (read_there before.words o.words back (body_word n) old))
            | inr new ↦
                let some = in_times n bodies new in let e = put_bodies n in (ended.bodies n).1 (inr (times_in n p.done (omega arith)))
          ]),
        );
        cells_stay = λ c r. ended.cells_stay c (read_there before.words o.words back (cell_word c) r);
        keys_stay = λ c r. ended.keys_stay c (read_there before.words o.words back (cell_word c) r) ∙ same (key_place c);
      }

-- all numbers may be put into an empty octree
pub all_new : (sites : List Site) (tree : Stored) → root_word tree ≡ 0 → AreNew sites tree (numbers (length sites))
all_new sites tree empty = record {
  once = numbers_once (length sites);
  points = λ n i. (in_numbers (length sites) n).0 i;
  fresh = λ n i b. omega (arith, reached_blank (at_of tree.words) (at_of tree.words 0) (body_word n) empty b);
}

-- shares of all numbers
pub all_shares : (count : ℕ) (shares : List (List ℕ)) → AreShares count shares → AreSharesOf (numbers count) shares
all_shares count shares are = record { some = are.some; few = are.few; parted = λ n. all_parted count shares (numbers count) are refl n }

-- where an octree was empty, it has just the bodies that were put in
pub only_those : (sites : List Site) (before after : Stored) → root_word before ≡ 0 → IsWithBodies sites before (numbers (length sites)) after → (n : ℕ)
    → HasBody after.words n ↔ (n < length sites)
only_those sites before after empty ended n = (
  (λ b. elim ((ended.bodies_are n).0 b) [
    | inl old ↦ absurd (omega (arith, reached_blank (at_of before.words) (at_of before.words 0) (body_word n) empty old))
    | inr new ↦ (in_numbers (length sites) n).0 new
  ]),
  (λ l. (ended.bodies_are n).1 (inr ((in_numbers (length sites) n).1 l))),
)
