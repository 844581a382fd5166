-- One worker more, and one less.
use Rattle.std.proofs.Common.{◌≡◌, ◌+◌, ◌<◌, ℕ, List, [], ◌∷◌, ◌++◌, length, map, get_or, take, drop, sym, ◌∙◌, ap, arith, append_assoc}
use Rattle.std.proofs.lemmas.List.{drop_more, get_or-map, length-map, map-append, take_more}
use Rattle.tree_passes.specs.Counting.{all_of, sum_of, times}
use Rattle.shared_tree.specs.Seen.{PassState}
use Rattle.build_workers.specs.declared.hands.Hand.{Hand}
use Rattle.build_workers.specs.Hands.{joined_with, AreDealt}

-- one share more is dealt
pub dealt_more : {S P O : Type 0} (items : S → List ℕ) (shares : List S) (w : ℕ) (s : S) (hands next : List (Hand P O)) (h : Hand P O) → w < length shares
    → s ≡ get_or shares w s → h.share.now ≡ items s → next ≡ hands ++ h ∷ [] → AreDealt (take w (map items shares)) hands
    → AreDealt (take (w + 1) (map items shares)) next
dealt_more {P = P} {O = O} items shares w s hands next h less is own more dealt =
    let all = map items shares in
    let inside : w < length all = omega (arith, less, length-map shares items) in
    let item : get_or all w [] ≡ items s = get_or-map items shares w s [] less ∙ ap items (sym is) in
    ap (map (λ (k : Hand P O). k.share.now)) more ∙ map-append (λ (k : Hand P O). k.share.now) hands (h ∷ [])
    ∙ ap (λ (z : List (List ℕ)). z ++ (h.share.now ∷ [])) dealt ∙ ap (λ (z : List ℕ). take w all ++ (z ∷ [])) (own ∙ sym item)
    ∙ sym (take_more all w [] inside)

-- the todo list of the pass that deals is what is left of the shares
pub left_less : {S : Type 0} (items : S → List ℕ) (shares : List S) (w : ℕ) (s : S) (todo : List ℕ) → w < length shares → s ≡ get_or shares w s
    → ((x : ℕ) → times x todo ≡ sum_of (λ z. times x (items z)) (drop w shares)) → (x : ℕ)
    → times x todo ≡ times x (items s) + sum_of (λ z. times x (items z)) (drop (w + 1) shares)
left_less items shares w s todo less is left x =
    left x ∙ ap (sum_of (λ z. times x (items z))) (drop_more shares w s less)
    ∙ ap (λ z. times x (items z) + sum_of (λ y. times x (items y)) (drop (w + 1) shares)) (sym is)

-- only the todo list changes
pub todo_alone : (p q r : PassState) (todo : List ℕ) → q ≡ record p { todo = q.todo } → r ≡ record q { todo = todo } → r ≡ record p { todo = r.todo }
todo_alone p q r todo before e =
    e ∙ ap (λ (z : PassState). record z { todo = todo }) before ∙ ap (λ (t : List ℕ). record p { todo = t }) (sym (ap (λ (z : PassState). z.todo) e))

-- a pass that takes in one more, and then the others
pub joined_first : {P O : Type 0} (state : P → PassState) (p q : PassState) (h : Hand P O) (hands : List (Hand P O))
    → q ≡ record p { done = p.done ++ (state h.pass).done; seen = p.seen ++ (state h.pass).seen; changes = p.changes + (state h.pass).changes }
    → joined_with state q hands ≡ joined_with state p (h ∷ hands)
joined_first state p q h hands e =
    let own = state h.pass in
    let done = append_assoc p.done own.done (all_of (λ k. (state k.pass).done) hands) in
    let seen = append_assoc p.seen own.seen (all_of (λ k. (state k.pass).seen) hands) in
    let rest = sum_of (λ k. (state k.pass).changes) hands in
    let changes : (p.changes + own.changes) + rest ≡ p.changes + (own.changes + rest) = omega arith in
    ap (λ (z : PassState). joined_with state z hands) e
    ∙ ap (λ (z : List ℕ × List ℕ × ℕ). record p { done = z.0; seen = z.1; changes = z.2 }) (λ i. (done i, seen i, changes i))
