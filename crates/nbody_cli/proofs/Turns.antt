-- Why the parts of a text stand one after another, and what they publish together.
use Rattle.std.proofs.Common.{◌≡◌, ◌∙◌, ◌<◌, ◌≤◌, ◌+◌, ◌-◌, ◌^◌, ℕ, List, [], ◌∷◌, Option, refl, sym, ap, subst, arith, inl, inr}
use Rattle.bh_outside.specs.Outside.{Took, TookPrefix}
use Rattle.bh_outside.proofs.Takings.{no_prefix, prefix_more, prefix_then, rose_later, took_more, took_none}
use Rattle.bh_model.specs.declared.plan.Builder.{Builder}
use Rattle.bh_model.specs.declared.plan.Builder.TheVariants as builder
use Rattle.frame_core.specs.Building.{Publications, Rises, one_for_each}
use Rattle.frame_core.specs.Next.{sum_publications}
use Rattle.shared_tree.specs.Seen.{YardCounts, risen}
use Rattle.nbody_cli.specs.Serving.{AreWhole, IsCounted, IsStill, IsWhole, Output, RisesAtMost, Runs, RunsPart, Shows, StopsAmid, output}
use Rattle.nbody_cli.specs.Text.{Part, published_by, text_of}
use Rattle.nbody_cli.specs.declared.status.Status.{Status}
use Rattle.nbody_cli.specs.declared.status.Status.TheVariants as status

-- ---- the counts of a yard

-- a yard that is as it was
pub stayed : (p : Publications) (y : YardCounts) → RisesAtMost p y y
stayed p y = (omega arith, omega arith, omega arith, omega arith)

-- a yard whose counts were read, as numbers of 64 bits
pub counts_read : {y : YardCounts} {published changes : ℕ} → published < 2 ^ 64 → published ≡ y.published → changes < 2 ^ 64 → changes ≡ y.changes
    → IsCounted y
counts_read small published few changes = record { published = omega arith; changes = omega arith }

-- a count of 64 bits that rose by so many
risen_within : (count n : ℕ) → count ≤ 2 ^ 64 - 1 → (count ≤ risen count n) × (risen count n ≤ count + n)
risen_within count n small = (omega arith, omega arith)

pub rises_within : (p : Publications) (y z : YardCounts) → IsCounted y → Rises p y z → RisesAtMost p y z
rises_within p y z counted (bodies, count, least, most, rose) =
    let q = risen_within y.published p.bodies counted.published in
    let r = risen_within y.changes count counted.changes in
    (rw bodies q.0, rw bodies q.1, rw rose r.0, omega (arith, rose, r.1, most))

-- a count after it rose has 64 bits
counted_after : (p : Publications) (y z : YardCounts) → Rises p y z → IsCounted z
counted_after p y z (bodies, count, least, most, rose) = record { published = omega arith; changes = omega arith }

-- what two trees publish
both : Publications → Publications → Publications
both p q = record { bodies = p.bodies + q.bodies; least = p.least + q.least; most = p.most + q.most }

risen_twice : (count n k : ℕ) → risen (risen count n) k ≡ risen count (n + k)
risen_twice count n k = omega arith

rises_both : (p q : Publications) (x y z : YardCounts) → Rises p x y → Rises q y z → Rises (both p q) x z
unfolding both
rises_both p q x y z (bodies, count, least, most, rose) (later_bodies, later_count, later_least, later_most, later_rose) = (
  later_bodies ∙ ap (λ n. risen n q.bodies) bodies ∙ risen_twice x.published p.bodies q.bodies,
  count + later_count,
  omega arith,
  omega arith,
  later_rose ∙ ap (λ n. risen n later_count) rose ∙ risen_twice x.changes count later_count,
)

within_both : (p q : Publications) (x y z : YardCounts) → RisesAtMost p x y → RisesAtMost q y z → RisesAtMost (both p q) x z
unfolding both
within_both p q x y z h k = (omega arith, omega arith, omega arith, omega arith)

-- the first of two
within_first : (p q : Publications) (x y : YardCounts) → RisesAtMost p x y → RisesAtMost (both p q) x y
unfolding both
within_first p q x y h = (omega arith, omega arith, omega arith, omega arith)

published_none : (y : YardCounts) → IsCounted y → Rises (published_by []) y y
unfolding sum_publications
published_none y counted = (omega (arith, counted.published), 0, omega arith, omega arith, omega (arith, counted.changes))

-- no tree publishes nothing
pub none_published : (y : YardCounts) → IsCounted y → Rises (one_for_each 0) y y
none_published y counted = (omega (arith, counted.published), 0, omega arith, omega arith, omega (arith, counted.changes))

published_more : (p : Part) (rest : List Part) → published_by (p ∷ rest) ≡ both p.publishes (published_by rest)
unfolding sum_publications both
published_more p rest = refl

-- ---- parts that are whole

-- nothing happens
pub still : (a : Output) → IsStill a a
still a = record { written = took_none a.written; counted = refl }

pub whole_took : (parts : List Part) (b a : Output) → AreWhole parts b a → Took b.written a.written (text_of parts)
whole_took [] b a h = h.written
whole_took (p ∷ rest) b a (m, w, h) = took_more b.written m.written a.written p.text (text_of rest) w.written (whole_took rest m a h)

pub whole_counts : (parts : List Part) (b a : Output) → IsCounted b.yard → AreWhole parts b a → Rises (published_by parts) b.yard a.yard
whole_counts [] b a counted h =
    let P : YardCounts → Type 0 = λ y. Rises (published_by []) b.yard y in
    subst P (sym h.counted) (published_none b.yard counted)
whole_counts (p ∷ rest) b a counted (m, w, h) =
    let P : Publications → Type 0 = λ q. Rises q b.yard a.yard in
    subst P (sym (published_more p rest))
    (rises_both p.publishes (published_by rest) b.yard m.yard a.yard w.counted
    (whole_counts rest m a (counted_after p.publishes b.yard m.yard w.counted) h))

-- ---- a run that stopped amid parts

-- where nothing happened it stopped in the first part
pub still_amid : (parts : List Part) (b a : Output) → IsStill b a → StopsAmid parts b a
still_amid [] b a h = h
still_amid (p ∷ rest) b a h =
    let P : YardCounts → Type 0 = λ y. RisesAtMost p.publishes b.yard y in
    inl (record { written = ([], p.text, refl, h.written); counted = subst P (sym h.counted) (stayed p.publishes b.yard) })

pub amid_took : (parts : List Part) (b a : Output) → StopsAmid parts b a → TookPrefix b.written a.written (text_of parts)
amid_took [] b a h = ([], [], refl, h.written)
amid_took (p ∷ rest) b a (inl h) = prefix_more b.written a.written p.text (text_of rest) h.written
amid_took (p ∷ rest) b a (inr (m, w, h)) =
    prefix_then b.written m.written a.written p.text (text_of rest) w.written (amid_took rest m a h)

pub amid_counts : (parts : List Part) (b a : Output) → IsCounted b.yard → StopsAmid parts b a → RisesAtMost (published_by parts) b.yard a.yard
amid_counts [] b a counted h =
    let P : YardCounts → Type 0 = λ y. RisesAtMost (published_by []) b.yard y in
    subst P (sym h.counted) (stayed (published_by []) b.yard)
amid_counts (p ∷ rest) b a counted (inl h) =
    let P : Publications → Type 0 = λ q. RisesAtMost q b.yard a.yard in
    subst P (sym (published_more p rest)) (within_first p.publishes (published_by rest) b.yard a.yard h.counted)
amid_counts (p ∷ rest) b a counted (inr (m, w, h)) =
    let P : Publications → Type 0 = λ q. RisesAtMost q b.yard a.yard in
    subst P (sym (published_more p rest))
    (within_both p.publishes (published_by rest) b.yard m.yard a.yard (rises_within p.publishes b.yard m.yard counted w.counted)
    (amid_counts rest m a (counted_after p.publishes b.yard m.yard w.counted) h))

-- ---- runs

-- after a part that is whole
runs_more : (p : Part) (rest : List Part) (b m a : Output) (s : Status) → IsWhole p b m → Runs rest m a s → Runs (p ∷ rest) b a s
runs_more p rest b m a status.Done w h = (m, w, h)
runs_more p rest b m a status.Usage w h = absurd h
runs_more p rest b m a status.Read w h = absurd h
runs_more p rest b m a status.Write w h = (rose_later b.faults m.faults a.faults w.later h.0, inr (m, w, h.1))
runs_more p rest b m a status.Scene w h = absurd h
runs_more p rest b m a status.Memory w h = inr (m, w, h)

-- a run that stopped in its first part
runs_stop : (p : Part) (rest : List Part) (b a : Output) (s : Status) → RunsPart p b a s → (s ≡ status.Done → ⊥) → Runs (p ∷ rest) b a s
runs_stop p rest b a status.Done h other = absurd (other refl)
runs_stop p rest b a status.Usage h other = absurd h
runs_stop p rest b a status.Read h other = absurd h
runs_stop p rest b a status.Write h other = (h.0, inl h.1)
runs_stop p rest b a status.Scene h other = absurd h
runs_stop p rest b a status.Memory h other = inl h

-- the part of a frame, by what was told of its tree once that was made
pub part_shown : (p : Part) (w v : Option (List ℕ)) (k l : ℕ) (y z : YardCounts) (s : Status) → IsCounted y → Rises p.publishes y z → Shows p.text w k v l s
    → RunsPart p (output w k y) (output v l z) s
part_shown p w v k l y z status.Done counted rose h = record { written = h.0; counted = rose; later = h.1 }
part_shown p w v k l y z status.Usage counted rose h = absurd h
part_shown p w v k l y z status.Read counted rose h = absurd h
part_shown p w v k l y z status.Write counted rose h = (h.0, record { written = h.1; counted = rises_within p.publishes y z counted rose })
part_shown p w v k l y z status.Scene counted rose h = absurd h
part_shown p w v k l y z status.Memory counted rose h = record { written = h; counted = rises_within p.publishes y z counted rose }

-- the part of a frame whose tree was refused
pub part_refused : (p : Part) (w : Option (List ℕ)) (k : ℕ) (y z : YardCounts) → z ≡ y → RunsPart p (output w k y) (output w k z) status.Memory
part_refused p w k y z same =
    let P : YardCounts → Type 0 = λ x. RisesAtMost p.publishes y x in
    record { written = no_prefix w p.text; counted = subst P (sym same) (stayed p.publishes y) }

-- ---- a run on its way

-- However a run goes on from here with the parts that are left, so it goes on with all parts from its beginning.
pub record GoesOn (all rest : List Part) (begun now : Output) : Type 0 where
  pub on : (a : Output) (s : Status) → Runs rest now a s → Runs all begun a s

pub on_begin : (all : List Part) (b : Output) → GoesOn all all b b
on_begin all b = record { on = λ a s h. h }

-- the next part is whole
pub on_more : (all rest : List Part) (p : Part) (b now next : Output) (s : Status) → GoesOn all (p ∷ rest) b now → RunsPart p now next s → s ≡ status.Done
    → GoesOn all rest b next
on_more all rest p b now next s way h done =
    let P : Status → Type 0 = λ t. RunsPart p now next t in
    record { on = λ a t r. way.on a t (runs_more p rest now next a t (subst P done h) r) }

-- the run stopped in the next part
pub on_stop : (all rest : List Part) (p : Part) (b now a : Output) (s : Status) → GoesOn all (p ∷ rest) b now → RunsPart p now a s
    → (s ≡ status.Done → ⊥)
    → Runs all b a s
on_stop all rest p b now a s way h other = way.on a s (runs_stop p rest now a s h other)

-- the builder that makes its trees in the yard with locks
abbrev pub IsOrig : Builder → Type 0
IsOrig b = b ≡ builder.Orig
