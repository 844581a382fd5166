-- Cubes that more bodies share than a leaf holds: one of the bodies, and two of them where a leaf holds one.
use Rattle.std.proofs.Common.{ℕ, ◌<◌, ◌≡◌, ◌≢◌, ◌⊎◌, refl, sym, inl, inr}
use Rattle.octant_code.specs.declared.limits.TheConstants.{LEVELS}
use Rattle.octant_code.specs.Space.{Site, key_of}
use Rattle.bh_model.proofs.MoreThan.{more_of_two, more_so, one_of_more, two_of_more}
use Rattle.tree_rule.specs.Flat.{IsShared}

-- a body that shares a cube, which is of a cell's level
pub record HasSharer (site : ℕ → Site) (IsBody : ℕ → Type 0) (key : ℕ) : Type 0 where
  pub level : ℕ
  pub shallow : level < LEVELS
  pub one : ℕ
  pub one_in : IsBody one
  pub one_under : key ≡ key_of (site one) level

-- two bodies that share a cube, which is of a cell's level
pub record HasTwoSharers (site : ℕ → Site) (IsBody : ℕ → Type 0) (key : ℕ) : Type 0 where
  pub level : ℕ
  pub shallow : level < LEVELS
  pub one : ℕ
  pub other : ℕ
  pub one_in : IsBody one
  pub other_in : IsBody other
  pub differ : one ≢ other
  pub one_under : key ≡ key_of (site one) level
  pub other_under : key ≡ key_of (site other) level

-- some body shares a shared cube
pub sharer : {site : ℕ → Site} {IsBody : ℕ → Type 0} {key : ℕ} → IsShared site IsBody key → HasSharer site IsBody key
sharer f =
    let o = one_of_more f.sharers in
    record { level = f.level; shallow = f.shallow; one = o.one; one_in = o.one_is.0; one_under = o.one_is.1 }

-- two bodies share it
pub two_sharers : {site : ℕ → Site} {IsBody : ℕ → Type 0} {key : ℕ} → IsShared site IsBody key → HasTwoSharers site IsBody key
two_sharers f =
    let t = two_of_more f.sharers in
    record {
      level = f.level;
      shallow = f.shallow;
      one = t.one;
      other = t.other;
      one_in = t.one_is.0;
      other_in = t.other_is.0;
      differ = t.differ;
      one_under = t.one_is.1;
      other_under = t.other_is.1;
    }

-- what bodies share stays shared where bodies come
pub shared_more : {site : ℕ → Site} {B M : ℕ → Type 0} {key : ℕ} → ((n : ℕ) → B n → M n) → IsShared site B key → IsShared site M key
shared_more more f = record { level = f.level; shallow = f.shallow; sharers = more_so (λ n b. (more n b.0, b.1)) f.sharers }

-- one of two bodies
abbrev pub Pair : ℕ → ℕ → ℕ → Type 0
Pair x n m = (m ≡ x) ⊎ (m ≡ n)

-- the cube of a pair is shared by both
pub pair_shares : (site : ℕ → Site) (x n level : ℕ) → level < LEVELS → x ≢ n → key_of (site x) level ≡ key_of (site n) level
    → IsShared site (Pair x n) (key_of (site n) level)
pair_shares site x n level l d k = record { level = level; shallow = l; sharers = more_of_two x n (inl refl, sym k) (inr refl, refl) d }
