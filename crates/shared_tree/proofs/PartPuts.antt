-- Facts between the steps of a visit of a published word with a subtree of a private octree.
use Rattle.std.proofs.Common.{◌≡◌, ◌≢◌, ℕ, ◌+◌, ◌*◌, ◌-◌, ◌^◌, ◌<◌, ◌≤◌, List, [], ◌∷◌, length, take, Option, None, Some}
use Rattle.std.proofs.Common.{sym, refl, ap, ◌∙◌, subst, inl, inr, arith}
use Rattle.std.proofs.Math.Nat.{add-mul}
use Rattle.std.proofs.lemmas.List.{length-take-le}
use Rattle.octant_code.specs.declared.limits.TheConstants.{LEVELS}
use Rattle.octant_code.specs.Space.{Site, IsUnder, key_of}
use Rattle.octant_code.specs.Points.{site_at, ArePoints}
use Rattle.octant_code.proofs.Keys.{same_level}
use Rattle.bh_model.specs.Bodies.{IsIn}
use Rattle.tree_rule.specs.Flat.{StandsFor}
use Rattle.tree_rule.specs.Words.{at_of, body_word, cell_word}
use Rattle.tree_rule.specs.declared.words.TheConstants.{CELLS_OF_ONE}
use Rattle.tree_rule.proofs.Laws.{stands_same}
use Rattle.octree.specs.Spot.{Spot as PartSpot}
use Rattle.tree_passes.specs.declared.view.View.{View}
use Rattle.tree_passes.specs.Counting.{times}
use Rattle.tree_passes.specs.Looks.{FoundBody, Tells}
use Rattle.tree_passes.specs.Passes.{after_publication}
use Rattle.tree_passes.specs.Plays.{IsPutOrNamed, IsReadyFor}
use Rattle.tree_passes.specs.Turns.{Descends, IsFound, IsStill, IsThere}
use Rattle.tree_passes.proofs.Laws.{descends_from, in_times, place_still, still_on, there_still, times-append, times-without_all}
use Rattle.shared_tree.specs.declared.publisher.Spot.{Spot}
use Rattle.shared_tree.specs.declared.subtrees.Copied.{Copied}
use Rattle.shared_tree.specs.declared.merge.PartTurn.{PartTurn}
use Rattle.shared_tree.specs.declared.merge.PartTurn.TheVariants as turn
use Rattle.shared_tree.specs.Copying.{bodies_under, other_word, with_other, IsOtherAt}
use Rattle.shared_tree.specs.Merging.{HasMissed, IsMerged, IsPartIn, IsPutCopy, IsPutWhole, LeadsPart}
use Rattle.shared_tree.specs.Publishing.{HasPublished}
use Rattle.shared_tree.proofs.PartCopies.{some_same}
use Rattle.shared_tree.proofs.Puts.{other_below, other_cell, other_found, other_still, still_has, word_small}

-- a member of a list that is not empty
pub some_of : (l : List ℕ) → 1 ≤ length l → (n : ℕ) × IsIn l n
some_of [] h = absurd (omega arith)
some_of (n ∷ rest) h = (n, inl refl)

-- ---- the word that the pass is at

-- the pass is at it still
pub part_on : (v w : View) (words : ℕ) (sites : List Site) (part : PartSpot) (key : ℕ) (s : Spot) → IsStill v w → (w.locks ≡ []) × (w.under ≡ [])
    → IsPartIn v words sites part key s → IsPartIn w words sites part key s
part_on v w words sites part key s h free at = record {
  points = h.points ∙ at.points;
  long = h.long ∙ at.long;
  some = at.some;
  few = at.few;
  rule = at.rule;
  part = at.part;
  todo = λ x. let a = at.todo x in let e = ap (times x) h.todo in omega arith;
  spot = at.spot;
  known = place_still v w _ _ h at.known;
  no_lock = free.0;
  none_under = free.1;
}

-- what a word tells the pass there is small
pub part_small : (v u : View) (words : ℕ) (sites : List Site) (part : PartSpot) (key : ℕ) (s : Spot) (value : ℕ) → IsStill v u → Tells u key value
    → IsPartIn v words sites part key s → value < 2 ^ 33
part_small v u words sites part key s value h t at =
    word_small u key value t (subst ArePoints (sym (h.points ∙ at.points)) at.rule) (let a = h.long in let b = at.long in let f = at.few in omega arith)

-- a body that was found there is none of the part, and lies in the cube
module _ (v : View) (words : ℕ) (sites : List Site) (part : PartSpot) (key : ℕ) (s : Spot) (x : ℕ) (at : IsPartIn v words sites part key s)
    (some : 1 ≤ length (bodies_under part)) (found : FoundBody v key x) where
  pub other_at : IsOtherAt sites part key s.level x
  other_at =
      let one = some_of (bodies_under part) some in
      let u : IsUnder key (site_at sites x) = subst (λ (z : List Site). IsUnder key (site_at z x)) at.points found.under in
      let level : u.0 ≡ s.level = same_level (site_at sites x) (site_at sites one.0) u.0 s.level (sym u.2 ∙ at.part.under one.0 one.1) in
      record {
        x_in = (let q = found.x_in in subst (λ (z : List Site). x < length z) at.points q);
        under = u.2 ∙ ap (key_of (site_at sites x)) level;
        fresh = λ i. let a = in_times x (bodies_under part) i in let b = at.todo x in let n = found.not_todo in omega arith;
      }

  pub others_at : (y : ℕ) → Some x ≡ Some y → IsOtherAt sites part key s.level y
  others_at y e = subst (IsOtherAt sites part key s.level) (some_same x y e) other_at

-- cells enough for each body are enough for the copy
pub room_below : (level bodies cells : ℕ) → level ≤ LEVELS → CELLS_OF_ONE * bodies ≤ cells → (LEVELS - level) * bodies ≤ cells
room_below level bodies cells low enough =
    let all : (LEVELS - level + level) * bodies ≡ (LEVELS - level) * bodies + level * bodies = add-mul (LEVELS - level) level bodies in
    let whole : (LEVELS - level + level) * bodies ≡ CELLS_OF_ONE * bodies = ap (λ (y : ℕ). y * bodies) (omega arith) in
    omega arith

-- and the copy has no more
pub few_taken : (level bodies used : ℕ) (spare : List ℕ) → level ≤ LEVELS → used ≤ length spare → used ≤ (LEVELS - level) * bodies
    → length (take used spare) ≤ CELLS_OF_ONE * bodies
few_taken level bodies used spare low within few =
    let own = room_below level bodies (CELLS_OF_ONE * bodies) low (omega arith) in
    let l = length-take-le used spare within in
    omega arith

-- ---- publications

-- a copy may take the place of an empty word, or that of a body that it has too
pub ready_copy : (v : View) (sites : List Site) (key old new : ℕ) (cells bodies : List ℕ) (other : Option ℕ) → v.points ≡ sites
    → ((c : ℕ) → times c cells ≤ times c v.held) → ((x : ℕ) → times x bodies ≤ times x v.todo) → old ≡ other_word other
    → ((x : ℕ) → other ≡ Some x → (d : ℕ) × (new ≡ cell_word d))
    → StandsFor (site_at sites) (at_of v.memory) new key (IsIn cells) (IsIn (with_other other bodies)) → IsReadyFor v key old new cells bodies
ready_copy v sites key old new cells bodies None p among entrusted is grows stands = record {
  held = among;
  todo = entrusted;
  no_cell = λ d e. absurd (omega arith);
  grows = λ y e. absurd (omega arith);
  stands = subst (λ (z : List Site). StandsFor (site_at z) (at_of v.memory) new key (IsIn cells) (IsPutOrNamed bodies old)) (sym p)
      (stands_same (site_at sites) (at_of v.memory) new key (IsIn cells) (IsIn cells) (IsIn bodies) (IsPutOrNamed bodies old)
      (λ c. ((λ q. q), (λ q. q))) (λ m. ((λ q. inl q), (λ q. elim q [ inl a ↦ a | inr e ↦ absurd (omega arith) ]))) stands);
}
ready_copy v sites key old new cells bodies (Some x) p among entrusted is grows stands = record {
  held = among;
  todo = entrusted;
  no_cell = λ d e. absurd (omega arith);
  grows = λ y e. grows x refl;
  stands = subst (λ (z : List Site). StandsFor (site_at z) (at_of v.memory) new key (IsIn cells) (IsPutOrNamed bodies old)) (sym p)
      (stands_same (site_at sites) (at_of v.memory) new key (IsIn cells) (IsIn cells) (IsIn (x ∷ bodies)) (IsPutOrNamed bodies old)
      (λ c. ((λ q. q), (λ q. q)))
      (λ m. (
        (λ q. elim q [ inl e ↦ inr (is ∙ ap body_word (sym e)) | inr i ↦ inl i ]),
        (λ q. elim q [ inl i ↦ inr i | inr e ↦ inl (omega arith) ]),
      )) stands);
}

-- a publication has put the bodies in
published_merged : (v w : View) (bodies cells : List ℕ) → ((c : ℕ) → times c cells ≤ times c v.held) → ((x : ℕ) → times x bodies ≤ times x v.todo)
    → w ≡ after_publication v cells bodies → IsMerged v w bodies cells
published_merged v w bodies cells among entrusted e = subst (λ (z : View). IsMerged v z bodies cells) (sym e) (record {
  points = refl;
  opening = refl;
  long = refl;
  held = times-without_all cells v.held among;
  quota = refl;
  todo = times-without_all bodies v.todo entrusted;
  done = λ x. times-append x bodies v.done;
  seen = refl;
  locks = refl;
  more_loads = omega arith;
  cell_notes = λ n h. h;
})

-- also where the pass loaded and wrote before it
pub merged_from : (u v w : View) (bodies cells : List ℕ) → IsStill u v → IsMerged v w bodies cells → IsMerged u w bodies cells
merged_from u v w bodies cells s m = record {
  points = m.points ∙ s.points;
  opening = m.opening ∙ s.opening;
  long = m.long ∙ s.long;
  held = λ c. m.held c ∙ ap (times c) s.held;
  quota = m.quota ∙ s.quota;
  todo = λ x. m.todo x ∙ ap (times x) s.todo;
  done = λ x. m.done x ∙ ap (λ (l : List ℕ). times x bodies + times x l) s.done;
  seen = m.seen ∙ s.seen;
  locks = m.locks ∙ s.locks;
  more_loads = let a = m.more_loads in let b = s.more_loads in omega arith;
  cell_notes = λ n h. m.cell_notes n (s.cell_notes n h);
}

pub put_whole : (v w : View) (bodies cells : List ℕ) → ((c : ℕ) → times c cells ≤ times c v.held) → ((x : ℕ) → times x bodies ≤ times x v.todo)
    → length cells ≤ CELLS_OF_ONE * length bodies → HasPublished v w cells bodies → IsPutWhole v w bodies cells
put_whole v w bodies cells among entrusted few h =
    let s = still_has v h.before h.learnt in
    record {
      merged = merged_from v h.before w bodies cells s (published_merged h.before w bodies cells
          (λ c. let e = ap (times c) s.held in let a = among c in omega arith)
          (λ x. let e = ap (times x) s.todo in let a = entrusted x in omega arith)
          h.view);
      few = few;
      changes = ap (λ (z : View). z.changes) h.view ∙ ap (λ (c : ℕ). c + 1) s.changes;
    }

-- also where the pass loaded and wrote before it
pub put_from : (u v w : View) (bodies spare : List ℕ) (copied : Copied) → IsStill u v → IsPutCopy v w bodies spare copied → IsPutCopy u w bodies spare copied
put_from u v w bodies spare copied s p = record {
  within = p.within;
  whole = record {
    merged = merged_from u v w bodies _ s p.whole.merged;
    few = p.whole.few;
    changes = p.whole.changes ∙ ap (λ (c : ℕ). c + 1) s.changes;
  };
  count = p.count;
}

-- what a visit leads to, where the pass only loaded and wrote before it
pub leads_part : (u v w : View) (bodies spare : List ℕ) (key : ℕ) (t : PartTurn) → IsStill u v → LeadsPart v w bodies spare key t
    → LeadsPart u w bodies spare key t
leads_part u v w bodies spare key (turn.Done copied) s p = put_from u v w bodies spare copied s p
leads_part u v w bodies spare key (turn.Below d) s p = descends_from u v w key d s p

-- another word that was found in the place of that which a copy was to replace
module _ (v w : View) (word key old found : ℕ) (h : HasMissed v w word key old found) where
  pub missed_still : IsStill v w
  missed_still = still_on v h.copied w h.still (other_still h.copied w word key found h.other)

  pub missed_found : found ≢ 0 → IsFound w word key found
  missed_found full = other_found h.copied w word key found h.other full

  -- where the pass knew the word to have named a body it names a cell
  pub missed_cell : (x : ℕ) → IsThere v word key x → found ≢ body_word x → (d : ℕ) × (found ≡ cell_word d)
  missed_cell x t apart = other_cell h.copied w word key found h.other x (there_still v h.copied word key x h.still t) apart

  pub missed_below : (d : ℕ) → found ≡ cell_word d → Descends v w key d
  missed_below d e = descends_from v h.copied w key d h.still (other_below h.copied w word key found h.other d e)

  pub missed_small : (words : ℕ) (sites : List Site) (part : PartSpot) (s : Spot) → IsPartIn v words sites part key s → found < 2 ^ 33
  missed_small words sites part s at =
      part_small v h.other.before words sites part key s found
      (still_on v h.copied h.other.before h.still (still_has h.copied h.other.before h.other.learnt)) h.other.learns.tells at
