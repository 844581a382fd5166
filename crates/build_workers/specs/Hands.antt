-- Lists of workers.
use Rattle.std.specs.Prelude.{ℕ, ◌≡◌, ◌+◌, ◌<◌, List, ◌++◌, length, map, slice_index_or, All}
use Rattle.bh_model.specs.Bodies.{numbers}
use Rattle.tree_passes.specs.Counting.{all_of, sum_of}
use Rattle.shared_tree.specs.Seen.{PassState, SharedTree}
use Rattle.build_workers.specs.declared.hands.Hand.{Hand}
use Rattle.build_workers.specs.Working.{IsDone, IsReady, IsSpent}

-- each worker is ready for its share
abbrev pub AreReady : {P O : Type 0} → (P → PassState) → SharedTree → List (Hand P O) → Type 0
AreReady state t hands = All (λ h. IsReady t (state h.pass) h.share.now) hands

-- each worker is done with its share
abbrev pub EachIsDone : {P O : Type 0} → (P → PassState) → SharedTree → (List ℕ → ℕ → Type 0) → List (Hand P O) → List (Hand P O) → Type 0
EachIsDone {P = P} {O = O} state t may before after =
    (i : ℕ) (d : Hand P O) → i < length before → IsDone t may (state (slice_index_or after i d).pass) (slice_index_or before i d).share.now

-- each worker has for itself what its share takes
abbrev pub ArePrepared : {P O : Type 0} → (List ℕ → O → Type 0) → List (Hand P O) → Type 0
ArePrepared prepared hands = All (λ h. prepared h.share.now h.own) hands

-- no worker has anything left to do
abbrev pub AreSpent : {P O : Type 0} → (P → PassState) → SharedTree → List (Hand P O) → Type 0
AreSpent state t hands = All (λ h. IsSpent t (state h.pass)) hands

-- the workers' shares are these
abbrev pub AreDealt : {P O : Type 0} → List (List ℕ) → List (Hand P O) → Type 0
AreDealt shares hands = map (λ h. h.share.now) hands ≡ shares

-- the workers are so many, and their numbers are from 0 on
abbrev pub AreNumbered : {P O : Type 0} → ℕ → List (Hand P O) → Type 0
AreNumbered count hands = map (λ h. h.worker) hands ≡ numbers count

-- a pass that has taken in those of the workers
abbrev pub joined_with : {P O : Type 0} → (P → PassState) → PassState → List (Hand P O) → PassState
joined_with state p hands = record p {
  done = p.done ++ all_of (λ h. (state h.pass).done) hands;
  seen = p.seen ++ all_of (λ h. (state h.pass).seen) hands;
  changes = p.changes + sum_of (λ h. (state h.pass).changes) hands;
}
