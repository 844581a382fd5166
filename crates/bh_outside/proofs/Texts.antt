-- How the parts of a text join that are put one after another.
use Rattle.std.proofs.Common.{◌≡◌, ◌∙◌, ℕ, ◌-◌, List, [], ◌++◌, take, drop, length, Option, sym, refl, ap}
use Rattle.std.proofs.lemmas.List.{append_assoc, append-nil}
use Rattle.std.specs.Prelude.{IsErr, Result, Ok, Err}
use Rattle.bh_outside.specs.Outside.{Writes}
use Rattle.bh_outside.specs.Text.{Puts, PutsAll, PutsFront}
use Rattle.bh_outside.proofs.Takings.{took_none, took_more, prefix_then, piece_off}

-- nothing was put yet
pub puts_none : (a : Option (List ℕ)) (u : List ℕ) → PutsAll a a u u []
puts_none a u = record { done = []; joins = append-nil u; took = took_none a }

-- the bytes that waited and two texts, after the first was put
puts_rest : (u v x y done : List ℕ) → u ++ x ≡ done ++ v → u ++ (x ++ y) ≡ done ++ (v ++ y)
puts_rest u v x y done e = sym (append_assoc u x y) ∙ ap (λ z. z ++ y) e ∙ append_assoc done v y

-- two texts after one another
pub puts_more : (a b c : Option (List ℕ)) (u v w x y : List ℕ) → PutsAll a b u v x → PutsAll b c v w y → PutsAll a c u w (x ++ y)
puts_more a b c u v w x y first second =
    record {
      done = first.done ++ second.done;
      joins = puts_rest u v x y first.done first.joins ∙ ap (λ z. first.done ++ z) second.joins ∙ sym (append_assoc first.done second.done w);
      took = took_more a b c first.done second.done first.took second.took;
    }

-- a put that failed, after a text that was put
pub puts_fail : (a b c : Option (List ℕ)) (u v x y : List ℕ) → PutsAll a b u v x → PutsFront b c v y → PutsFront a c u (x ++ y)
puts_fail a b c u v x y first second =
    record {
      done = first.done ++ second.done;
      rest = second.rest;
      splits = puts_rest u v x y first.done first.joins ∙ ap (λ z. first.done ++ z) second.splits ∙ sym (append_assoc first.done second.done second.rest);
      took = took_more a b c first.done second.done first.took second.took;
    }

-- a text after one that was put
pub puts_then : {T E : Type 0} (a b c : Option (List ℕ)) (u v w x y : List ℕ) (r : Result T E) → PutsAll a b u v x → Puts b c v w y r → Puts a c u w (x ++ y) r
puts_then a b c u v w x y (Ok done) first second = puts_more a b c u v w x y first second
puts_then a b c u v w x y (Err e) first second = puts_fail a b c u v x y first second

-- a put that failed is one of a longer text
pub puts_failed : (a b : Option (List ℕ)) (u x y : List ℕ) → PutsFront a b u x → PutsFront a b u (x ++ y)
puts_failed a b u x y h =
    record {
      done = h.done;
      rest = h.rest ++ y;
      splits = sym (append_assoc u x y) ∙ ap (λ z. z ++ y) h.splits ∙ append_assoc h.done h.rest y;
      took = h.took;
    }

-- a call that answers an error after a put that failed
pub puts_stop : {T E : Type 0} (a b : Option (List ℕ)) (u v text : List ℕ) (r : Result T E) → IsErr r → PutsFront a b u text → Puts a b u v text r
puts_stop a b u v text (Ok done) stopped h = absurd (cc)
puts_stop a b u v text (Err e) stopped h = h

-- a text that was put from nothing on, and then finished
pub puts_finish : {T E : Type 0} (a b c : Option (List ℕ)) (w text : List ℕ) (r : Result T E) → PutsAll a b [] w text → Writes b c w r → Writes a c text r
puts_finish a b c w text (Ok done) first second = rw first.joins (took_more a b c first.done w first.took second)
puts_finish a b c w text (Err e) first second = rw first.joins (prefix_then a b c first.done w first.took second)

-- a text whose put failed, from nothing on, in a call that answers an error
pub puts_broken : {T E : Type 0} (a b : Option (List ℕ)) (text : List ℕ) (r : Result T E) → IsErr r → PutsFront a b [] text → Writes a b text r
puts_broken a b text (Ok done) stopped h = absurd (cc)
puts_broken a b text (Err e) stopped h = (h.done, h.rest, h.splits, h.took)

-- the bytes after a full piece was taken off the front of a text
pub next_piece : (whole done waits rest piece left : List ℕ) (n : ℕ) → whole ≡ done ++ (waits ++ rest) → piece ≡ waits ++ take n rest → left ≡ []
    → whole ≡ (done ++ piece) ++ (left ++ take (length rest - n) (drop n rest))
next_piece whole done waits rest piece left n e full none =
    rw (none, full) (piece_off whole (done ++ waits) rest n (e ∙ sym (append_assoc done waits rest))
    ∙ ap (λ z. z ++ take (length rest - n) (drop n rest)) (append_assoc done waits (take n rest)))

-- a front of a full piece is one of the whole text
pub front_of_piece : (whole done waits rest piece front back : List ℕ) (n : ℕ) → whole ≡ done ++ (waits ++ rest) → piece ≡ waits ++ take n rest
    → piece ≡ front ++ back
    → whole ≡ (done ++ front) ++ (back ++ take (length rest - n) (drop n rest))
front_of_piece whole done waits rest piece front back n e full split =
    let later = take (length rest - n) (drop n rest) in
    next_piece whole done waits rest piece [] n e full refl ∙ ap (λ z. (done ++ z) ++ later) split ∙ ap (λ z. z ++ later) (sym (append_assoc done front back))
    ∙ append_assoc (done ++ front) back later
