-- What a load of a published word teaches its pass, and an exchange that failed.
use Rattle.std.specs.Prelude.{ℕ, ◌^◌, ◌≡◌, ◌≢◌, ◌<◌, List, ◌∷◌, length}
use Rattle.octant_code.specs.declared.limits.TheConstants.{LEVELS}
use Rattle.octant_code.specs.Space.{Site, key_of, IsUnder}
use Rattle.octant_code.specs.Points.{site_at}
use Rattle.bh_model.specs.Bodies.{HasMoreThan, IsIn, leaf_size}
use Rattle.tree_rule.specs.declared.notes.CellNote.{CellNote}
use Rattle.tree_rule.specs.declared.notes.BodyNote.{BodyNote}
use Rattle.tree_rule.specs.Words.{body_word, cell_word, lock_place}
use Rattle.tree_rule.specs.Notes.{NamesItOrCell}
use Rattle.tree_passes.specs.declared.view.View.{View}
use Rattle.tree_passes.specs.Counting.{times, Has}
use Rattle.tree_passes.specs.Passes.{body_note, cell_note, loaded, noted, Met}

-- a body of the opening that the pass is not to put in
abbrev pub IsOther : View → ℕ → Type 0
IsOther v x = IsIn v.bodies x × (times x v.todo ≡ 0)

-- The cell that was found, with the key of its cube: under it lie more bodies of the opening than a leaf holds that the pass is not to put in.
pub record FoundCell (v : View) (key d : ℕ) : Type 0 where
  pub more : HasMoreThan leaf_size (λ x. IsOther v x × IsUnder key (site_at v.points x))
  pub shallow : (s : Site) (level : ℕ) → key ≡ key_of s level → level < LEVELS
  pub inside : lock_place d < length v.memory

-- the body that was found: it lies under the key, and the pass is not to put it in
pub record FoundBody (v : View) (key x : ℕ) : Type 0 where
  pub under : IsUnder key (site_at v.points x)
  pub not_todo : times x v.todo ≡ 0
  pub x_in : x < length v.points

-- What the value of the published word with this key tells a pass.
pub record Tells (v : View) (key value : ℕ) : Type 0 where
  -- it is one of the words that name something
  pub small : value < 2 ^ 33
  -- of an empty word: no body that the pass has done or seen lies under the key
  pub nobody : value ≡ 0 → (x : ℕ) → Met v x → IsUnder key (site_at v.points x) → ⊥
  -- of a word that names a body: no other one that the pass has done or seen lies there
  pub other : (y : ℕ) → value ≡ body_word y → (x : ℕ) → Met v x → IsUnder key (site_at v.points x) → x ≡ y
  pub body : (x : ℕ) → value ≡ body_word x → FoundBody v key x
  pub cell : (d : ℕ) → value ≡ cell_word d → FoundCell v key d

-- A value was found in the published word at a place, with this key. What the pass has stays, and it may have more notes.
pub record Learns (v : View) (i key value : ℕ) (w : View) : Type 0 where
  pub cell_notes : List CellNote
  pub body_notes : List BodyNote
  pub view : w ≡ noted v cell_notes body_notes
  pub cells_stay : (n : CellNote) → Has v.cell_notes n → Has cell_notes n
  pub bodies_stay : (n : BodyNote) → Has v.body_notes n → Has body_notes n
  pub body_noted : (x : ℕ) → value ≡ body_word x → Has body_notes (body_note i x)
  pub cell_noted : (d : ℕ) → value ≡ cell_word d → Has cell_notes (cell_note d key)
  -- a word that was noted to name a body names it still, or a cell
  pub still : (x : ℕ) → Has v.body_notes (body_note i x) → NamesItOrCell value x
  pub tells : Tells v key value

-- a load of the published word at a place, with this key, found this value: it is counted, and is the last
abbrev pub Looked : View → ℕ → ℕ → ℕ → View → Type 0
Looked v i key value w = Learns (loaded v key value) i key value w

-- A load that looks for a body with this point found this value. A body that has the point is seen.
pub record Sought (v : View) (i key value : ℕ) (point : Site) (w : View) : Type 0 where
  pub plain : View
  pub looked : Looked v i key value plain
  pub hit : (y : ℕ) → value ≡ body_word y → site_at v.points y ≡ point → w ≡ record plain { seen = y ∷ plain.seen }
  pub miss : ((y : ℕ) → value ≡ body_word y → site_at v.points y ≢ point) → w ≡ plain

-- a point at which no body can be
abbrev pub nowhere : Site
nowhere = record { x = 2 ^ 21; y = 0; z = 0 }
