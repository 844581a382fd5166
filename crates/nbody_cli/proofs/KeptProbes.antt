-- Why a list of probes goes on as it should, place by place.
use Rattle.std.proofs.Common.{◌≡◌, ◌∙◌, ◌<◌, ◌≤◌, ◌+◌, ℕ, zero, suc, Bool, true, false, not, cond, Option, ℤ, List, [], ◌∷◌, ◌++◌, map, take, drop}
use Rattle.std.proofs.Common.{length, get_or, set, refl, sym, ap, subst, arith, add-one}
use Rattle.std.proofs.lemmas.List.{append-nil, drop_all, drop_more, map-append, take_all, take_more, take_more_set}
use Rattle.std.specs.List.{filter, remove}
use Rattle.std.proofs.Common.{append_assoc}
use Rattle.bh_outside.specs.Outside.{Took}
use Rattle.bh_outside.proofs.Takings.{prefix_more, prefix_then, rose_later, took_more, took_none}
use Rattle.nbody_options.specs.declared.options.ProbeChoice.{ProbeChoice}
use Rattle.probe.specs.Figures.{FrameFigures}
use Rattle.probe.specs.States.{ProbeState, state_after, verdict_of}
use Rattle.probe.specs.declared.kind.Kind.{Kind}
use Rattle.probe.specs.declared.kind.Verdict.TheVariants as verdict
use Rattle.nbody_cli.specs.Probes.{after_frame, chosen, is_done, keeps, left_after, lines_at, probe_line, probe_lines}
use Rattle.nbody_cli.specs.Serving.{Shows}
use Rattle.nbody_cli.specs.declared.status.Status.{Status}
use Rattle.nbody_cli.specs.declared.status.Status.TheVariants as status

-- ---- texts

-- a text that was written, and then another one
pub shows_then : (x y : List ℕ) (w m v : Option (List ℕ)) (k j l : ℕ) (s : Status) → Took w m x → k ≤ j → Shows y m j v l s → Shows (x ++ y) w k v l s
shows_then x y w m v k j l status.Done took later h = (took_more w m v x y took h.0, omega (arith, later, h.1))
shows_then x y w m v k j l status.Usage took later h = absurd h
shows_then x y w m v k j l status.Read took later h = absurd h
shows_then x y w m v k j l status.Write took later h = (rose_later k j l later h.0, prefix_then w m v x y took h.1)
shows_then x y w m v k j l status.Scene took later h = absurd h
shows_then x y w m v k j l status.Memory took later h = prefix_then w m v x y took h

-- a text is on its way: what is left of it stands behind what was written
pub record IsWritten (text rest : List ℕ) (w0 : Option (List ℕ)) (k0 : ℕ) (w : Option (List ℕ)) (k : ℕ) : Type 0 where
  pub told : List ℕ
  pub wrote : Took w0 w told
  pub later : k0 ≤ k
  pub split : text ≡ told ++ rest

pub written_none : (text : List ℕ) (w : Option (List ℕ)) (k : ℕ) → IsWritten text text w k w k
written_none text w k = record { told = []; wrote = took_none w; later = omega arith; split = refl }

-- a part that was written whole
pub written_more : (text rest x y : List ℕ) (w0 w v : Option (List ℕ)) (k0 k l : ℕ) (s : Status) → IsWritten text rest w0 k0 w k → rest ≡ x ++ y
    → Shows x w k v l s → s ≡ status.Done → IsWritten text y w0 k0 v l
written_more text rest x y w0 w v k0 k l s way is shown done =
    let h : Shows x w k v l status.Done = subst (λ z. Shows x w k v l z) done shown in
    record {
      told = way.told ++ x;
      wrote = took_more w0 w v way.told x way.wrote h.0;
      later = omega (arith, way.later, h.1);
      split = way.split ∙ ap (λ z. way.told ++ z) is ∙ sym (append_assoc way.told x y);
    }

-- a part that was not written whole
front : (told x y : List ℕ) (w0 w v : Option (List ℕ)) (k0 k l : ℕ) (s : Status) → Took w0 w told → k0 ≤ k → (s ≡ status.Done → ⊥) → Shows x w k v l s
    → Shows (told ++ (x ++ y)) w0 k0 v l s
front told x y w0 w v k0 k l status.Done took later other h = absurd (other refl)
front told x y w0 w v k0 k l status.Usage took later other h = absurd h
front told x y w0 w v k0 k l status.Read took later other h = absurd h
front told x y w0 w v k0 k l status.Write took later other h =
    (rose_later k0 k l later h.0, prefix_then w0 w v told (x ++ y) took (prefix_more w v x y h.1))
front told x y w0 w v k0 k l status.Scene took later other h = absurd h
front told x y w0 w v k0 k l status.Memory took later other h = prefix_then w0 w v told (x ++ y) took (prefix_more w v x y h)

pub written_stop : (text rest x y : List ℕ) (w0 w v : Option (List ℕ)) (k0 k l : ℕ) (s : Status) → IsWritten text rest w0 k0 w k → rest ≡ x ++ y
    → Shows x w k v l s → (s ≡ status.Done → ⊥) → Shows text w0 k0 v l s
written_stop text rest x y w0 w v k0 k l s way is shown other =
    subst (λ z. Shows z w0 k0 v l s) (sym (way.split ∙ ap (λ z. way.told ++ z) is))
    (front way.told x y w0 w v k0 k l s way.wrote way.later other shown)

-- memory ran out
pub written_memory : (text rest : List ℕ) (w0 w : Option (List ℕ)) (k0 k : ℕ) → IsWritten text rest w0 k0 w k → Shows text w0 k0 w k status.Memory
written_memory text rest w0 w k0 k way = (way.told, rest, way.split, way.wrote)

-- all is written
pub written_all : (text rest : List ℕ) (w0 w : Option (List ℕ)) (k0 k : ℕ) → IsWritten text rest w0 k0 w k → rest ≡ [] → Shows text w0 k0 w k status.Done
written_all text rest w0 w k0 k way none =
    (subst (λ z. Took w0 w z) (sym (way.split ∙ ap (λ z. way.told ++ z) none ∙ append-nil way.told)) way.wrote, way.later)

-- ---- one probe

-- what a verdict says of the state after the frame
goes_on : (b : Bool) → verdict.More ≡ cond b verdict.Finished verdict.More → b ≡ false
goes_on true e = cc
goes_on false e = refl

finishes : (b : Bool) → verdict.Finished ≡ cond b verdict.Finished verdict.More → b ≡ true
finishes true e = refl
finishes false e = cc

-- a probe that saw a frame
probe_of : Kind → List ℤ → ProbeState
probe_of k state = record { kind = k; state = state }

pub seen : (f : FrameFigures) (p q : ProbeState) → q.kind ≡ p.kind → q.state ≡ state_after p.kind f p.state → q ≡ after_frame f p
unfolding probe_of
seen f p q same next = ap (λ k. probe_of k q.state) same ∙ ap (probe_of p.kind) next

-- the first probe of a list goes on
left_more : (f : FrameFigures) (p q : ProbeState) (rest : List ProbeState) → q ≡ after_frame f p → is_done q ≡ false
    → left_after f (p ∷ rest) ≡ q ∷ left_after f rest
left_more f p q rest e on =
    subst (λ (z : ProbeState). cond (not (is_done z)) (z ∷ left_after f rest) (left_after f rest) ≡ q ∷ left_after f rest) e
    (ap (λ b. cond (not b) (q ∷ left_after f rest) (left_after f rest)) on)

told_later : (f : FrameFigures) (p q : ProbeState) (rest : List ProbeState) → q ≡ after_frame f p → is_done q ≡ false
    → lines_at f (p ∷ rest) ≡ lines_at f rest
told_later f p q rest e on =
    let done : List ProbeState = filter is_done (map (after_frame f) rest) in
    subst (λ (z : ProbeState). probe_lines (cond (is_done z) (z ∷ done) done) ≡ lines_at f rest) e
    (ap (λ b. probe_lines (cond b (q ∷ done) done)) on)

-- it has seen enough
left_gone : (f : FrameFigures) (p q : ProbeState) (rest : List ProbeState) → q ≡ after_frame f p → is_done q ≡ true
    → left_after f (p ∷ rest) ≡ left_after f rest
left_gone f p q rest e over =
    subst (λ (z : ProbeState). cond (not (is_done z)) (z ∷ left_after f rest) (left_after f rest) ≡ left_after f rest) e
    (ap (λ b. cond (not b) (q ∷ left_after f rest) (left_after f rest)) over)

told_now : (f : FrameFigures) (p q : ProbeState) (rest : List ProbeState) → q ≡ after_frame f p → is_done q ≡ true
    → lines_at f (p ∷ rest) ≡ probe_line q ++ lines_at f rest
told_now f p q rest e over =
    let done : List ProbeState = filter is_done (map (after_frame f) rest) in
    subst (λ (z : ProbeState). probe_lines (cond (is_done z) (z ∷ done) done) ≡ probe_line q ++ lines_at f rest) e
    (ap (λ b. probe_lines (cond b (q ∷ done) done)) over)

-- ---- places

-- what stands before and behind the place of an item that was changed, or taken out
take_set : {X : Type 0} (xs : List X) (at : ℕ) (y : X) → take at (set xs at y) ≡ take at xs
take_set [] zero y = refl
take_set [] (suc at) y = refl
take_set (x ∷ xs) zero y = refl
take_set (x ∷ xs) (suc at) y = ap (λ ys. x ∷ ys) (take_set xs at y)

drop_set : {X : Type 0} (xs : List X) (at : ℕ) (y : X) → drop (suc at) (set xs at y) ≡ drop (suc at) xs
drop_set [] zero y = refl
drop_set [] (suc at) y = refl
drop_set (x ∷ xs) zero y = refl
drop_set (x ∷ xs) (suc at) y = drop_set xs at y

take_removed : {X : Type 0} (xs : List X) (at : ℕ) → at < length xs → take at (remove xs at) ≡ take at xs
take_removed [] at within = absurd (omega arith)
take_removed (x ∷ xs) zero within = refl
take_removed (x ∷ xs) (suc at) within = ap (λ ys. x ∷ ys) (take_removed xs at (omega arith))

drop_removed : {X : Type 0} (xs : List X) (at : ℕ) → at < length xs → drop at (remove xs at) ≡ drop (suc at) xs
drop_removed [] at within = absurd (omega arith)
drop_removed (x ∷ xs) zero within = refl
drop_removed (x ∷ xs) (suc at) within = drop_removed xs at (omega arith)

-- ---- choosing

-- the first probe of a list is kept, or goes
keeps_first : (c : ProbeChoice) (p : ProbeState) (rest : List ProbeState) → keeps c p.kind ≡ true → chosen c (p ∷ rest) ≡ p ∷ chosen c rest
keeps_first c p rest kept = ap (λ b. cond b (p ∷ chosen c rest) (chosen c rest)) kept

drops_first : (c : ProbeChoice) (p : ProbeState) (rest : List ProbeState) → keeps c p.kind ≡ false → chosen c (p ∷ rest) ≡ chosen c rest
drops_first c p rest gone = ap (λ b. cond b (p ∷ chosen c rest) (chosen c rest)) gone

-- the probes before a place are chosen, and those from there on are still to be
pub record IsChosen {X : Type 0} (see : X → ProbeState) (c : ProbeChoice) (first items : List X) (at : ℕ) : Type 0 where
  pub chosen_is : chosen c (map see first) ≡ map see (take at items) ++ chosen c (map see (drop at items))

pub chosen_none : {X : Type 0} (see : X → ProbeState) (c : ProbeChoice) (items : List X) → IsChosen see c items items 0
chosen_none see c items = record { chosen_is = refl }

-- one probe more, in front of others
one_more : (before : List ProbeState) (p : ProbeState) (rest : List ProbeState) → before ++ p ∷ rest ≡ (before ++ p ∷ []) ++ rest
one_more before p rest = sym (append_assoc before (p ∷ []) rest)

pub chosen_more : {X : Type 0} (see : X → ProbeState) (c : ProbeChoice) (first items : List X) (at : ℕ) (x : X) → IsChosen see c first items at
    → at < length items → x ≡ get_or items at x → keeps c (see x).kind ≡ true → IsChosen see c first items (at + 1)
chosen_more see c first items at x way within is kept =
    let rest = chosen c (map see (drop (at + 1) items)) in
    let item = drop_more items at x within ∙ ap (λ z. z ∷ drop (at + 1) items) (sym is) in
    let taken = take_more items at x within ∙ ap (λ z. take at items ++ z ∷ []) (sym is) in
    record {
      chosen_is = way.chosen_is
          ∙ ap (λ z. map see (take at items) ++ z) (ap (λ z. chosen c (map see z)) item ∙ keeps_first c (see x) (map see (drop (at + 1) items)) kept)
          ∙ one_more (map see (take at items)) (see x) rest
          ∙ ap (λ z. z ++ rest) (sym (ap (map see) taken ∙ map-append see (take at items) (x ∷ [])));
    }

pub chosen_less : {X : Type 0} (see : X → ProbeState) (c : ProbeChoice) (first items : List X) (at : ℕ) (x : X) → IsChosen see c first items at
    → at < length items → x ≡ get_or items at x → keeps c (see x).kind ≡ false → IsChosen see c first (remove items at) at
chosen_less see c first items at x way within is gone =
    let behind : drop at (remove items at) ≡ drop (at + 1) items = rw (add-one at) (drop_removed items at within) in
    let item = drop_more items at x within ∙ ap (λ z. z ∷ drop (at + 1) items) (sym is) in
    record {
      chosen_is = way.chosen_is
          ∙ ap (λ z. map see (take at items) ++ z) (ap (λ z. chosen c (map see z)) item ∙ drops_first c (see x) (map see (drop (at + 1) items)) gone)
          ∙ ap (λ z. map see z ++ chosen c (map see (drop (at + 1) items))) (sym (take_removed items at within))
          ∙ ap (λ z. map see (take at (remove items at)) ++ chosen c (map see z)) (sym behind);
    }

pub chosen_all : {X : Type 0} (see : X → ProbeState) (c : ProbeChoice) (first items : List X) (at : ℕ) → IsChosen see c first items at
    → length items ≤ at → map see items ≡ chosen c (map see first)
chosen_all see c first items at way past =
    sym (way.chosen_is ∙ ap (λ z. map see z ++ chosen c (map see (drop at items))) (take_all at items past)
    ∙ ap (λ z. map see items ++ chosen c (map see z)) (drop_all at items past) ∙ append-nil (map see items))

-- ---- showing a frame

-- the probes before a place are left, with the lines of those that are not written, and those from there on have still to see the frame
pub record IsShown {X : Type 0} (see : X → ProbeState) (f : FrameFigures) (first : List X) (w0 : Option (List ℕ)) (k0 : ℕ) (items : List X) (at : ℕ)
    (w : Option (List ℕ)) (k : ℕ) : Type 0 where
  pub written : IsWritten (lines_at f (map see first)) (lines_at f (map see (drop at items))) w0 k0 w k
  pub left : left_after f (map see first) ≡ map see (take at items) ++ left_after f (map see (drop at items))

pub shown_none : {X : Type 0} (see : X → ProbeState) (f : FrameFigures) (items : List X) (w : Option (List ℕ)) (k : ℕ) → IsShown see f items w k items 0 w k
shown_none see f items w k = record { written = written_none (lines_at f (map see items)) w k; left = refl }

-- the probes from a place on begin with its probe
from_place : {X : Type 0} (see : X → ProbeState) (items : List X) (at : ℕ) (x : X) → at < length items → x ≡ get_or items at x
    → map see (drop at items) ≡ see x ∷ map see (drop (at + 1) items)
from_place see items at x within is = ap (map see) (drop_more items at x within ∙ ap (λ z. z ∷ drop (at + 1) items) (sym is))

pub shown_more : {X : Type 0} (see : X → ProbeState) (f : FrameFigures) (first : List X) (w0 : Option (List ℕ)) (k0 : ℕ) (items : List X) (at : ℕ)
    (w : Option (List ℕ)) (k : ℕ) (x y : X) → IsShown see f first w0 k0 items at w k → at < length items → x ≡ get_or items at x
    → see y ≡ after_frame f (see x) → verdict.More ≡ verdict_of (see y).kind (see y).state → IsShown see f first w0 k0 (set items at y) (at + 1) w k
shown_more see f first w0 k0 items at w k x y way within is next more =
    let on = goes_on (is_done (see y)) more in
    let here = from_place see items at x within is in
    let rest = map see (drop (at + 1) items) in
    let same : drop (at + 1) (set items at y) ≡ drop (at + 1) items = rw (add-one at) (drop_set items at y) in
    let lines : lines_at f (map see (drop at items)) ≡ lines_at f (map see (drop (at + 1) (set items at y))) =
    ap (lines_at f) here ∙ told_later f (see x) (see y) rest next on ∙ ap (λ z. lines_at f (map see z)) (sym same) in
    record {
      written = subst (λ z. IsWritten (lines_at f (map see first)) z w0 k0 w k) lines way.written;
      left = way.left ∙ ap (λ z. map see (take at items) ++ z) (ap (left_after f) here ∙ left_more f (see x) (see y) rest next on)
          ∙ one_more (map see (take at items)) (see y) (left_after f rest)
          ∙ ap (λ z. z ++ left_after f rest) (sym (ap (map see) (take_more_set items at y within) ∙ map-append see (take at items) (y ∷ [])))
          ∙ ap (λ z. map see (take (at + 1) (set items at y)) ++ left_after f (map see z)) (sym same);
    }

there : {X : Type 0} (xs : List X) (at : ℕ) (y d : X) → at < length xs → get_or (set xs at y) at d ≡ y
there [] at y d within = absurd (omega arith)
there (x ∷ xs) zero y d within = refl
there (x ∷ xs) (suc at) y d within = there xs at y d (omega arith)

-- what is left to tell begins with the line of a probe that has seen enough
pub finished_line : {X : Type 0} (see : X → ProbeState) (f : FrameFigures) (items : List X) (at : ℕ) (x y : X) → at < length items → x ≡ get_or items at x
    → see y ≡ after_frame f (see x) → verdict.Finished ≡ verdict_of (see y).kind (see y).state
    → lines_at f (map see (drop at items)) ≡ probe_line (see y) ++ lines_at f (map see (drop (at + 1) items))
finished_line see f items at x y within is next over =
    ap (lines_at f) (from_place see items at x within is)
    ∙ told_now f (see x) (see y) (map see (drop (at + 1) items)) next (finishes (is_done (see y)) over)

-- the item that was put at a place
pub item_set : {X : Type 0} (xs : List X) (at : ℕ) (y z : X) → at < length xs → z ≡ get_or (set xs at y) at z → z ≡ y
item_set xs at y z within is = is ∙ there xs at y z within

length_set : {X : Type 0} (xs : List X) (at : ℕ) (y : X) → length (set xs at y) ≡ length xs
length_set [] zero y = refl
length_set [] (suc at) y = refl
length_set (x ∷ xs) zero y = refl
length_set (x ∷ xs) (suc at) y = ap suc (length_set xs at y)

pub shown_gone : {X : Type 0} (see : X → ProbeState) (f : FrameFigures) (first : List X) (w0 : Option (List ℕ)) (k0 : ℕ) (items : List X) (at : ℕ)
    (w v : Option (List ℕ)) (k l : ℕ) (x y : X) (s : Status) → IsShown see f first w0 k0 items at w k → at < length items → x ≡ get_or items at x
    → see y ≡ after_frame f (see x) → verdict.Finished ≡ verdict_of (see y).kind (see y).state
    → Shows (probe_line (see y)) w k v l s → s ≡ status.Done → IsShown see f first w0 k0 (remove (set items at y) at) at v l
shown_gone see f first w0 k0 items at w v k l x y s way within is next over shown done =
    let here = from_place see items at x within is in
    let rest = map see (drop (at + 1) items) in
    let still : at < length (set items at y) = subst (λ n. at < n) (sym (length_set items at y)) within in
    let same : drop at (remove (set items at y) at) ≡ drop (at + 1) items = drop_removed (set items at y) at still ∙ rw (add-one at) (drop_set items at y) in
    let before : take at (remove (set items at y) at) ≡ take at items = take_removed (set items at y) at still ∙ take_set items at y in
    let told = written_more (lines_at f (map see first)) (lines_at f (map see (drop at items))) (probe_line (see y)) (lines_at f rest) w0 w v k0 k l s
    way.written (finished_line see f items at x y within is next over) shown done in
    record {
      written = subst (λ z. IsWritten (lines_at f (map see first)) z w0 k0 v l) (ap (λ z. lines_at f (map see z)) (sym same)) told;
      left = way.left
          ∙ ap (λ z. map see (take at items) ++ z)
          (ap (left_after f) here ∙ left_gone f (see x) (see y) rest next (finishes (is_done (see y)) over))
          ∙ ap (λ z. map see z ++ left_after f rest) (sym before)
          ∙ ap (λ z. map see (take at (remove (set items at y) at)) ++ left_after f (map see z)) (sym same);
    }

pub shown_stop : {X : Type 0} (see : X → ProbeState) (f : FrameFigures) (first : List X) (w0 : Option (List ℕ)) (k0 : ℕ) (items : List X) (at : ℕ)
    (w v : Option (List ℕ)) (k l : ℕ) (x y : X) (s : Status) → IsShown see f first w0 k0 items at w k → at < length items → x ≡ get_or items at x
    → see y ≡ after_frame f (see x) → verdict.Finished ≡ verdict_of (see y).kind (see y).state
    → Shows (probe_line (see y)) w k v l s → (s ≡ status.Done → ⊥) → Shows (lines_at f (map see first)) w0 k0 v l s
shown_stop see f first w0 k0 items at w v k l x y s way within is next over shown other =
    written_stop (lines_at f (map see first)) (lines_at f (map see (drop at items))) (probe_line (see y)) (lines_at f (map see (drop (at + 1) items)))
    w0 w v k0 k l s way.written (finished_line see f items at x y within is next over) shown other

pub shown_all : {X : Type 0} (see : X → ProbeState) (f : FrameFigures) (first : List X) (w0 : Option (List ℕ)) (k0 : ℕ) (items : List X) (at : ℕ)
    (w : Option (List ℕ)) (k : ℕ) → IsShown see f first w0 k0 items at w k → length items ≤ at
    → Shows (lines_at f (map see first)) w0 k0 w k status.Done × (map see items ≡ left_after f (map see first))
shown_all see f first w0 k0 items at w k way past = (
  written_all (lines_at f (map see first)) (lines_at f (map see (drop at items))) w0 w k0 k way.written
      (ap (λ z. lines_at f (map see z)) (drop_all at items past)),
  sym (way.left ∙ ap (λ z. map see z ++ left_after f (map see (drop at items))) (take_all at items past)
      ∙ ap (λ z. map see items ++ left_after f (map see z)) (drop_all at items past) ∙ append-nil (map see items)),
)

-- ---- the end

-- the lines of a list of probes begin with that of a place
pub lines_from : {X : Type 0} (see : X → ProbeState) (items : List X) (at : ℕ) (x : X) → at < length items → x ≡ get_or items at x
    → probe_lines (map see (drop at items)) ≡ probe_line (see x) ++ probe_lines (map see (drop (at + 1) items))
lines_from see items at x within is = ap probe_lines (from_place see items at x within is)
