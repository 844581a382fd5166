use Rattle.std.proofs.Common.{arith, ◌≡◌, ◌+◌, ◌≤◌, ◌∙◌, ℕ, Option, ap, slice_set, sym, subst}
use Rattle.octant_code.specs.Space.{key_of}
use Rattle.octant_code.specs.Points.{site_at}
use Rattle.octree.proofs.Insertions.{CanInsert, IsDone, body_case, can_insert, empty_case, parted_case, stands_now, with_words}
use Rattle.octree.proofs.ReadWords.{word_small}
use Rattle.octree.specs.Chain.{IsOneOf, IsTaken, NamesNoCell}
use Rattle.octree.specs.Stored.{Stored}
use Rattle.tree_rule.specs.Flat.{StandsFor}
use Rattle.tree_rule.specs.Words.{at_of, body_word, cell_word}
use Rattle.octree.proofs.octree.Octree.insert.Goals.{After-find_place-end, In-None, In-Some}
use Rattle.octree.proofs.octree.Octree.insert.Goals as goal

-- the octree, by its fields
abbrev here : After-find_place-end → Stored
here c = record {
  words = c.self.inside.words.items;
  base = c.self.inside.base;
  level = c.self.inside.level;
  used = c.self.inside.used;
  held = c.self.inside.held;
}

-- what the insertion rests on
can : (c : After-find_place-end) → CanInsert c.args.points.now (here c) c.args.n
can c =
    can_insert c.args.points.now c.args.self.now (here c) c.args.n c.self.view_is c.self.invariant.0 c.len-rule.ensures.rule c.requires.n_in c.requires.under
    c.requires.canonical c.requires.fresh

-- where the word at the end names nothing
empty_end : (c : In-None) → at_of c.self.inside.words.items c.find_place-end.result.place ≡ 0
empty_end c = subst (λ (b : Option ℕ). NamesNoCell (at_of c.self.inside.words.items c.find_place-end.result.place) b) c.in-None.is
    c.find_place-end.ensures.named

-- where it names a body
body_end : (c : In-Some) → at_of c.self.inside.words.items c.find_place-end.result.place ≡ body_word c.in-Some.x
body_end c = subst (λ (b : Option ℕ). NamesNoCell (at_of c.self.inside.words.items c.find_place-end.result.place) b) c.in-Some.is c.find_place-end.ensures.named

-- the octree with the body in an empty word
none_done : (c : goal.After-self-1) → IsDone c.args.points.now c.args.n c.args.self.now
    (with_words (here (goal.at.invariant_of-self c).After-find_place-end)
    (slice_set c.self.inside.words.items c.find_place-end.result.place c.word_of_body.result) c.self.inside.used)
none_done c =
    let d = goal.at.invariant_of-self c in
    let end = c.find_place-end.ensures in
    let after = slice_set c.self.inside.words.items c.find_place-end.result.place c.word_of_body.result in
    subst (λ (o : Stored). IsDone c.args.points.now c.args.n o (with_words (here d.After-find_place-end) after c.self.inside.used)) c.self.view_is
    (empty_case _ _ _ _ _ _ (can d.After-find_place-end) end.there end.inside end.shallow (empty_end d.In-None) c.word_of_body.ensures)

-- the octree with the cells that part two bodies in place of one
some_done : (c : goal.After-self-in-Some-2-1) → IsDone c.args.points.now c.args.n c.args.self.now
    (with_words (here (goal.at.invariant_of-self-in-Some c).After-find_place-end)
    (slice_set c.part_two-next.new.words.items c.find_place-end.result.place c.word_of_cell.result) c.part_two-next.result)
some_done c =
    let d = goal.at.invariant_of-self-in-Some c in
    let end = c.find_place-end in
    let part = c.part_two-next in
    let after = slice_set part.new.words.items end.result.place c.word_of_cell.result in
    let room : c.self.inside.used + 21 ≤ c.self.inside.held = subst (λ (o : Stored). o.used + 21 ≤ o.held) (sym c.self.view_is)
    (omega (arith, c.requires.room)) in
    let key : c.key_at.result ≡ key_of (site_at c.args.points.now c.args.n) end.result.level = c.key_at.ensures
    ∙ ap (λ s. key_of s end.result.level) c.at.ensures.value in
    subst (λ (o : Stored). IsDone c.args.points.now c.args.n o (with_words (here d.After-find_place-end) after part.result)) c.self.view_is
    (parted_case _ _ part.new.words.items _ _ _ c.in-Some.x part.result _ (can d.After-find_place-end) end.ensures.there end.ensures.inside (body_end d.In-Some)
    (record {
      len = part.ensures.len;
      kept = part.ensures.kept;
      unlocked = part.ensures.unlocked;
      more = omega (arith, part.ensures.more);
      few = omega (arith, part.ensures.few);
      fits = omega (arith, part.ensures.few, room);
    })
    (subst (λ (y : ℕ). StandsFor (site_at c.args.points.now) (at_of part.new.words.items) (cell_word c.self.inside.used) y
    (IsTaken c.self.inside.used part.result) (IsOneOf c.in-Some.x c.args.n)) key part.ensures.stands)
    c.word_of_cell.ensures)

pub find_place-end-requires-clause-stands : goal.find_place-end-requires-clause-stands
find_place-end-requires-clause-stands c =
    stands_now c.args.points.now _ c.args.n
    (can_insert c.args.points.now c.args.self.now _ c.args.n c.self.view_is c.self.invariant.0 c.len-rule.ensures.rule c.requires.n_in c.requires.under
    c.requires.canonical c.requires.fresh)

pub find_place-end-requires-clause-small : goal.find_place-end-requires-clause-small
find_place-end-requires-clause-small c = λ w r. word_small _ w c.self.invariant.0 r

pub invariant_of-self : goal.invariant_of-self
invariant_of-self c = ((none_done c).stored, c.self.invariant.1)

pub part_two-next-requires-clause-pair : goal.part_two-next-requires-clause-pair
part_two-next-requires-clause-pair c =
    let d = goal.at.part_two-next-requires-clause-pair c in
    let end = c.find_place-end in
    body_case _ _ _ _ _ _ _ (can d.After-find_place-end) end.ensures.there (body_end d.In-Some) end.ensures.shallow
    (c.key_at.ensures ∙ ap (λ s. key_of s end.result.level) c.at.ensures.value)

pub invariant_of-self-in-Some : goal.invariant_of-self-in-Some
invariant_of-self-in-Some c = ((some_done c).stored, omega (arith, c.self.invariant.1, c.part_two-next.ensures.room))

pub returns-in-None : goal.returns-in-None
returns-in-None c = let d = none_done c in record { canonical = d.canonical; inserted = d.inserted }

pub returns-in-Some : goal.returns-in-Some
returns-in-Some c = let d = some_done c in record { canonical = d.canonical; inserted = d.inserted }
