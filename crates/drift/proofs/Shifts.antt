-- The moves of a step are a pass over bodies at the whole points before it.
use Rattle.std.proofs.Common.{◌≡◌, ◌∙◌, ◌<◌, ◌≤◌, ◌+◌, ℕ, suc, zero, List, [], ◌∷◌, ◌++◌, length, Option, Some, None}
use Rattle.std.proofs.Common.{refl, sym, ap, subst, arith, inl, inr, append_assoc, length-append, get_or}
use Rattle.std.specs.Prelude.{slice_set}
use Rattle.std.proofs.lemmas.Bool.{cases_Bool}
use Rattle.std.proofs.lemmas.List.{length-map, map-append}
use Rattle.std.proofs.lemmas.List.Elements.{All-from_get_or}
use Rattle.std.proofs.Math.Seq.{get_or-append_seam, set-append_seam}
use Rattle.octant_code.specs.Points.{AreApart}
use Rattle.octant_code.specs.Space.{Site, same_coordinates}
use Rattle.octant_code.proofs.SeenPoints.{same_coordinates_true}
use Rattle.scene_file.specs.Bodies.{nobody, sites_of}
use Rattle.scene_file.specs.Moves.{IsPass, move_at, no_move, shifted}
use Rattle.scene_file.specs.declared.bodies.Body.{Body}
use Rattle.scene_file.specs.declared.moves.Move.{Move}
use Rattle.drift.specs.Motions.{changed_point, moves_from, whole, whole_points, with_move}
use Rattle.drift.specs.declared.body_motion.BodyMotion.{BodyMotion}

-- ---- which bodies the moves name

-- each move names a body from a number on and below another, with one more move in front
named_one : (n : ℕ) (to : Option Site) (moves : List Move) (top : ℕ)
    → ((j : ℕ) → j < length moves → (n + 1 ≤ (move_at moves j).body) × ((move_at moves j).body < top))
    → n < top → (i : ℕ) → i < length (with_move n to moves) → (n ≤ (move_at (with_move n to moves) i).body) × ((move_at (with_move n to moves) i).body < top)
named_one n None moves top named small i within = let at = named i within in (omega (arith, at.0), at.1)
named_one n (Some to) moves top named small zero within = (omega arith, small)
named_one n (Some to) moves top named small (suc i) within = let at = named i (omega arith) in (omega (arith, at.0), at.1)

-- the moves name bodies of the list
named : (n : ℕ) (old new : List BodyMotion) → length old ≡ length new → (i : ℕ) → i < length (moves_from n old new)
    → (n ≤ (move_at (moves_from n old new) i).body) × ((move_at (moves_from n old new) i).body < n + length old)
unfolding moves_from
named n [] new long i within = absurd (omega arith)
named n (a ∷ old) [] long i within = absurd (omega arith)
named n (a ∷ old) (b ∷ new) long i within = named_one n (changed_point a b) (moves_from (n + 1) old new) (n + suc (length old))
    (λ j inside. let at = named (n + 1) old new (omega arith) j inside in (at.0, omega (arith, at.1))) (omega arith) i within

-- each names a higher body than those before it, with one more move in front
rising_one : (n : ℕ) (to : Option Site) (moves : List Move) → ((i j : ℕ) → i < j → j < length moves → (move_at moves i).body < (move_at moves j).body)
    → ((j : ℕ) → j < length moves → n + 1 ≤ (move_at moves j).body) → (i j : ℕ) → i < j → j < length (with_move n to moves)
    → (move_at (with_move n to moves) i).body < (move_at (with_move n to moves) j).body
rising_one n None moves rising above i j less within = rising i j less within
rising_one n (Some to) moves rising above i zero less within = absurd (omega arith)
rising_one n (Some to) moves rising above zero (suc j) less within = omega (arith, above j (omega arith))
rising_one n (Some to) moves rising above (suc i) (suc j) less within = rising i j (omega arith) (omega arith)

rising : (n : ℕ) (old new : List BodyMotion) → length old ≡ length new → (i j : ℕ) → i < j → j < length (moves_from n old new)
    → (move_at (moves_from n old new) i).body < (move_at (moves_from n old new) j).body
unfolding moves_from
rising n [] new long i j less within = absurd (omega arith)
rising n (a ∷ old) [] long i j less within = absurd (omega arith)
rising n (a ∷ old) (b ∷ new) long i j less within = rising_one n (changed_point a b) (moves_from (n + 1) old new) (rising (n + 1) old new (omega arith))
    (λ k inside. (named (n + 1) old new (omega arith) k inside).0) i j less within

-- ---- where the bodies are after the moves

-- a body after a move, where there is one
after_move : Option Site → Body → Body
after_move None x = x
after_move (Some to) x = record { mass = x.mass; at = to }

-- one move, or none, of a body amid others
one_shift : (n : ℕ) (to : Option Site) (moves : List Move) (front : List Body) (x : Body) (back : List Body) → length front ≡ n
    → shifted (with_move n to moves) (front ++ x ∷ back) ≡ shifted moves (front ++ after_move to x ∷ back)
unfolding shifted after_move
one_shift n None moves front x back count = refl
one_shift n (Some to) moves front x back count =
    let here : get_or (front ++ x ∷ back) n nobody ≡ x = ap (λ k. get_or (front ++ x ∷ back) k nobody) (sym count) ∙ get_or-append_seam front x back nobody in
    ap (λ (b : Body). shifted moves (slice_set (front ++ x ∷ back) n (record { mass = b.mass; at = to }))) here
    ∙ ap (λ k. shifted moves (slice_set (front ++ x ∷ back) k (record { mass = x.mass; at = to }))) (sym count)
    ∙ ap (shifted moves) (set-append_seam front x back (record { mass = x.mass; at = to }))

-- after it the body is at the new whole point
moved_to : (a b : BodyMotion) (x : Body) → x.at ≡ whole a.exact → (after_move (changed_point a b) x).at ≡ whole b.exact
unfolding after_move
moved_to a b x here = elim (cases_Bool (same_coordinates (whole a.exact) (whole b.exact))) [
  | inl same ↦ rw same (here ∙ same_coordinates_true (whole a.exact) (whole b.exact) same)
  | inr other ↦ rw other refl
]

-- the sites of bodies, one amid them
sites_amid : (front : List Body) (back : List Body) → sites_of (front ++ back) ≡ sites_of front ++ sites_of back
sites_amid front back = map-append (λ (b : Body). b.at) front back

shifted_behind : (n : ℕ) (front back : List Body) (old new : List BodyMotion) → length front ≡ n → length old ≡ length new → sites_of back ≡ whole_points old
    → sites_of (shifted (moves_from n old new) (front ++ back)) ≡ sites_of front ++ whole_points new
unfolding moves_from shifted
shifted_behind n front [] [] [] count long at = sites_amid front []
shifted_behind n front (x ∷ back) [] [] count long at = cc
shifted_behind n front back [] (b ∷ new) count long at = absurd (omega arith)
shifted_behind n front back (a ∷ old) [] count long at = absurd (omega arith)
shifted_behind n front [] (a ∷ old) (b ∷ new) count long at = cc
shifted_behind n front (x ∷ back) (a ∷ old) (b ∷ new) count long at =
    let to = changed_point a b in
    let moves = moves_from (n + 1) old new in
    let y : Body = after_move (changed_point a b) x in
    let here : x.at ≡ whole a.exact = cc in
    let others : sites_of back ≡ whole_points old = cc in
    let more : length (front ++ y ∷ []) ≡ n + 1 = length-append front (y ∷ []) ∙ ap (λ k. k + 1) count in
    let rest = shifted_behind (n + 1) (front ++ y ∷ []) back old new more (omega arith) others in
    ap sites_of (one_shift n to moves front x back count) ∙ ap (λ bodies. sites_of (shifted moves bodies)) (sym (append_assoc front (y ∷ []) back))
    ∙ rest ∙ ap (λ sites. sites ++ whole_points new) (sites_amid front (y ∷ [])) ∙ append_assoc (sites_of front) (y.at ∷ []) (whole_points new)
    ∙ ap (λ s. sites_of front ++ s ∷ whole_points new) (moved_to a b x here)

-- ---- the moves are a pass

pub is_pass : (old new : List BodyMotion) (bodies : List Body) (moves : List Move) → moves ≡ moves_from 0 old new → length old ≡ length new
    → sites_of bodies ≡ whole_points old → AreApart (whole_points new)
    → IsPass bodies moves × (sites_of (shifted moves bodies) ≡ whole_points new)
is_pass old new bodies moves is long at apart =
    let there : sites_of (shifted (moves_from 0 old new) bodies) ≡ whole_points new = shifted_behind 0 [] bodies old new refl long at in
    let count : length bodies ≡ length old = sym (length-map bodies (λ (b : Body). b.at)) ∙ ap length at ∙ length-map old (λ (b : BodyMotion). whole b.exact) in
    subst (λ (list : List Move). IsPass bodies list × (sites_of (shifted list bodies) ≡ whole_points new)) (sym is) (
      record {
        known = All-from_get_or (λ (m : Move). m.body < length bodies) (moves_from 0 old new) no_move
            (λ i within. let at = named 0 old new long i within in omega (arith, at.1));
        once = λ i j less within same. omega (arith, rising 0 old new long i j less within);
        apart = subst AreApart (sym there) apart;
      },
      there,
    )
