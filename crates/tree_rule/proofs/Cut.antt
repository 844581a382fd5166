-- A published word is emptied, or becomes that of the last body below it: what is read below it is published no more.
use Rattle.std.proofs.Common.{ℕ, ◌≡◌, ◌≢◌, ◌↔◌, sym, ◌∙◌, ap, subst, inl, inr, arith}
use Rattle.octant_code.specs.Space.{Site}
use Rattle.bh_model.proofs.Equal.{same_or_not}
use Rattle.tree_rule.proofs.Graft.{replaces_at, word_at_place}
use Rattle.tree_rule.proofs.Parts.{Nothing, Only, stands_body, stands_none}
use Rattle.tree_rule.proofs.Replace.{BodiesOutside, CellsOutside, read_alone, read_under, replaced}
use Rattle.tree_rule.proofs.Walk.{amid_same}
use Rattle.tree_rule.specs.Flat.{ChangedAt, Either, IsPlaceOf, StandsAmid}
use Rattle.tree_rule.specs.Words.{Here, IsReached, body_word, cell_word}

-- nothing more joins
none_more : (P : ℕ → Type 0) (c : ℕ) → Either P Nothing c ↔ P c
none_more P c = ((λ x. elim x [ inl p ↦ p | inr q ↦ absurd q ]), (λ p. inl p))

-- a published word becomes empty: what is read below it is named no more
pub cut_off : (site : ℕ → Site) (at at' : ℕ → ℕ) (first base : ℕ) (P B V : ℕ → Type 0) (key place : ℕ) → StandsAmid site at (at first) base P B V
    → IsPlaceOf at first base P key place → ChangedAt at at' place 0
    → StandsAmid site at' (at' first) base (CellsOutside at (at place) P) (BodiesOutside at (at place) B) V
cut_off site at at' first base P B V key place h there changed =
    amid_same site at' (at' first) base (Either (CellsOutside at (at place) P) Nothing) (CellsOutside at (at place) P)
    (Either (BodiesOutside at (at place) B) Nothing) (BodiesOutside at (at place) B) (Either V Nothing) V
    (λ c. none_more (CellsOutside at (at place) P) c) (λ n. none_more (BodiesOutside at (at place) B) n) (λ n. (none_more V n).0)
    (replaced site at at' (at first) (at' first) base P Nothing B Nothing V Nothing key (at place) 0
    (replaces_at site at at' first base P Nothing B Nothing V Nothing key place 0 h (stands_none site at' key) there changed))

-- a published word that names a body becomes empty: the other bodies stay, and all cells
pub taken_out : (site : ℕ → Site) (at at' : ℕ → ℕ) (first base : ℕ) (P B V : ℕ → Type 0) (key place n : ℕ) → StandsAmid site at (at first) base P B V
    → IsPlaceOf at first base P key place → at place ≡ body_word n
    → ChangedAt at at' place 0 → StandsAmid site at' (at' first) base P (λ m. B m × (m ≢ n)) V
taken_out site at at' first base P B V key place n h there named changed =
    let alone : (v : ℕ) → IsReached at (at place) v → v ≡ body_word n = λ v q. read_alone at (at place) v (λ c e. omega (arith, named)) q ∙ named in
    amid_same site at' (at' first) base (CellsOutside at (at place) P) P (BodiesOutside at (at place) B) (λ m. B m × (m ≢ n)) V V
    (λ c. ((λ o. o.0), (λ p. (p, λ q. let e : cell_word c ≡ body_word n = alone (cell_word c) q in omega arith))))
    (λ m. (
      (λ o. (o.0, λ e. o.1 (Here (body_word m) (ap body_word e ∙ sym named)))),
      (λ b. (b.0, λ q. b.1 (let e : body_word m ≡ body_word n = alone (body_word m) q in omega arith))),
    ))
    (λ m v. v) (cut_off site at at' first base P B V key place h there changed)

-- a published word below which no body is read becomes empty: the bodies stay, and the cells that are read below it are published no more
pub emptied : (site : ℕ → Site) (at at' : ℕ → ℕ) (first base : ℕ) (P B V : ℕ → Type 0) (key place : ℕ) → StandsAmid site at (at first) base P B V
    → IsPlaceOf at first base P key place
    → ((n : ℕ) → IsReached at (at place) (body_word n) → ⊥) → ChangedAt at at' place 0 → StandsAmid site at' (at' first) base (CellsOutside at (at place) P) B V
emptied site at at' first base P B V key place h there none changed =
    amid_same site at' (at' first) base (CellsOutside at (at place) P) (CellsOutside at (at place) P) (BodiesOutside at (at place) B) B V V
    (λ c. ((λ o. o), (λ o. o))) (λ n. ((λ b. b.0), (λ b. (b, none n)))) (λ n v. v) (cut_off site at at' first base P B V key place h there changed)

-- a published word below which one body is read becomes that body's: the bodies stay, and the cells that are read below it are published no more
pub contracted : (site : ℕ → Site) (at at' : ℕ → ℕ) (first base : ℕ) (P B V : ℕ → Type 0) (key place x : ℕ) → StandsAmid site at (at first) base P B V
    → IsPlaceOf at first base P key place
    → IsReached at (at place) (body_word x) → ((n : ℕ) → IsReached at (at place) (body_word n) → n ≡ x) → ChangedAt at at' place (body_word x)
    → StandsAmid site at' (at' first) base (CellsOutside at (at place) P) B V
contracted site at at' first base P B V key place x h there last alone changed =
    let old : ℕ = at place in
    let f = read_under site at (at first) base P B V h key (at place) (body_word x) (word_at_place at first base P key place there) last in
    let g = h.names_body f.deeper x f.word in
    amid_same site at' (at' first) base (Either (CellsOutside at (at place) P) Nothing) (CellsOutside at (at place) P)
    (Either (BodiesOutside at (at place) B) (Only x)) B (Either V Nothing) V
    (λ c. none_more (CellsOutside at (at place) P) c)
    (λ n. (
      (λ b. elim b [ inl o ↦ o.0 | inr e ↦ subst B (sym e) g.0 ]),
      (λ b. elim (same_or_not n x) [ inl e ↦ inr e | inr d ↦ inl (b, λ q. d (alone n q)) ]),
    ))
    (λ n. (none_more V n).0)
    (replaced site at at' (at first) (at' first) base P Nothing B (Only x) V Nothing key (at place) (body_word x)
    (replaces_at site at at' first base P Nothing B (Only x) V Nothing key place (body_word x) h
    (stands_body site at' key x Nothing (f.in_cube (site x) g.1)) there changed))
