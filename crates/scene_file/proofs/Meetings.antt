-- The first of bodies at the point of one before it.
use Rattle.std.proofs.Common.{◌≡◌, ◌∙◌, ◌<◌, ◌≤◌, ℕ, List, [], ◌∷◌, ◌++◌, length, take, Some, None, refl, sym, ap, subst, arith, inl, inr, length-append}
use Rattle.std.proofs.lemmas.List.{append_assoc, get_or-take, get_or_append_left, length-take-le, map-append, take-append-le}
use Rattle.std.proofs.Math.Nat.{eq-or-lt_of_le}
use Rattle.octant_code.specs.Distinct.{AreFirstSame}
use Rattle.octant_code.specs.Points.{AreApart, site_at}
use Rattle.octant_code.specs.Space.{Site, origin}
use Rattle.scene_file.specs.Bodies.{sites_of}
use Rattle.scene_file.specs.Scene.{first_meeting}
use Rattle.scene_file.specs.declared.bodies.Body.{Body}
use Rattle.scene_file.proofs.BodyLists.{apart-push, same_last}
use Rattle.scene_file.proofs.Finding.{sites_long}

-- sites that are apart with others behind them are so by themselves
apart_before : (sites more : List Site) → AreApart (sites ++ more) → AreApart sites
apart_before sites more apart i j less within same =
    let size = length-append sites more in
    apart i j less (omega arith)
    (get_or_append_left sites more origin i (omega arith) ∙ same ∙ sym (get_or_append_left sites more origin j within))

-- bodies that are apart have no first that meets one before it
pub none_meet : (before bodies : List Body) → AreApart (sites_of (before ++ bodies)) → first_meeting before bodies ≡ None
unfolding first_meeting
none_meet before [] apart = refl
none_meet before (b ∷ bs) apart =
    let again = append_assoc before (b ∷ []) bs in
    let whole : AreApart (sites_of (before ++ b ∷ [] ++ bs)) = subst (λ (l : List Body). AreApart (sites_of l)) (sym again) apart in
    let front : AreApart (sites_of (before ++ b ∷ [])) =
    apart_before (sites_of (before ++ b ∷ [])) (sites_of bs) (rw (map-append (λ (b : Body). b.at) (before ++ b ∷ []) bs) at whole) in
    rw ((apart-push before b front).1, none_meet (before ++ b ∷ []) bs whole) refl

-- a first point that stands twice does so also without what stands behind it
same_front : (sites more : List Site) (e l : ℕ) → AreFirstSame (sites ++ more) e l → l < length sites → AreFirstSame sites e l
same_front sites more e l same within =
    let less = same.order in
    record {
      order = same.order;
      within = within;
      same = sym (get_or_append_left sites more origin e (omega arith)) ∙ same.same ∙ get_or_append_left sites more origin l within;
      before = rw (take-append-le l sites more (omega arith)) at same.before;
    }

-- the first is the one that stands where an earlier one does
meets : (before bodies : List Body) (e l : ℕ) → AreFirstSame (sites_of (before ++ bodies)) e l → length before ≤ l → first_meeting before bodies ≡ Some (e, l)
unfolding first_meeting
meets before [] e l same from =
    let long = sites_long (before ++ []) in
    let within = same.within in
    let none = length-append before [] in
    absurd (omega arith)
meets before (b ∷ bs) e l same from =
    let again = append_assoc before (b ∷ []) bs in
    let whole : AreFirstSame (sites_of (before ++ b ∷ [] ++ bs)) e l = subst (λ (v : List Body). AreFirstSame (sites_of v) e l) (sym again) same in
    let parts : AreFirstSame (sites_of (before ++ b ∷ []) ++ sites_of bs) e l = rw (map-append (λ (b : Body). b.at) (before ++ b ∷ []) bs) at whole in
    let long = sites_long (before ++ b ∷ []) in
    let size = length-append before (b ∷ []) in
    elim (eq-or-lt_of_le from) [
      | inl last ↦
          let front = same_front (sites_of (before ++ b ∷ [])) (sites_of bs) e l parts (omega arith) in
          let here : AreFirstSame (sites_of (before ++ b ∷ [])) e (length before) = rw last front in
          rw ((same_last before b e here).1) (ap (λ n. Some (e, n)) last)
      | inr later ↦
          let apart : AreApart (sites_of (before ++ b ∷ [])) = front_apart (sites_of (before ++ b ∷ [])) (sites_of bs) e l parts (omega arith) in
          rw ((apart-push before b apart).1) (meets (before ++ b ∷ []) bs e l whole (omega arith))
    ]
  where
    front_apart : (sites more : List Site) (e l : ℕ) → AreFirstSame (sites ++ more) e l → length sites ≤ l → AreApart sites
    front_apart sites more e l same up_to i j less within twice =
        let inside = same.within in
        let size = length-take-le l (sites ++ more) (omega arith) in
        let at : (k : ℕ) → k < length sites → site_at (take l (sites ++ more)) k ≡ site_at sites k =
        λ k w. get_or-take l (sites ++ more) k origin (omega arith) ∙ get_or_append_left sites more origin k w in
        same.before i j less (omega arith) (at i (omega arith) ∙ twice ∙ sym (at j within))

pub first_meets : (bodies : List Body) (e l : ℕ) → AreFirstSame (sites_of bodies) e l → first_meeting [] bodies ≡ Some (e, l)
first_meets bodies e l same = meets [] bodies e l same (omega arith)
