use Rattle.std.proofs.Common.{arith, ℕ, ◌+◌, ◌*◌, ◌-◌, ◌/◌, ◌%◌, ◌^◌, ◌≡◌, ◌∙◌, List, ap, get_or, get_or-set_same, length, length-set, set, set-set, sym}
use Rattle.std.proofs.lemmas.List.{set-get_or}
use Rattle.space_split.proofs.Counts.{count_fits, count_more, octant_read}
use Rattle.space_split.proofs.count.octant_counts.Goals.{Joined-k-last, then-k-last, else-k-last}
use Rattle.space_split.proofs.count.octant_counts.Goals as goal

-- the octant of the code
octant : Joined-k-last → ℕ
octant c = get_or c.args.codes.now c.loop-code.code-index 0 / 2 ^ (3 * (20 - c.args.level)) % 8

-- what is counted before it
before : Joined-k-last → List ℕ
before c = set c.loop-code.counts c.loop-code.last c.loop-code.run

-- From then on the count of its octant stands outside the list, which says the same as before.
held : (c : Joined-k-last)
    → (c.if-k-last.last ≡ octant c)
    × (length c.if-k-last.counts ≡ 8)
    × (set c.if-k-last.counts c.if-k-last.last c.if-k-last.run ≡ before c)
    × (c.if-k-last.run ≡ get_or (before c) (octant c) 0)
unfolding octant before
held c =
    let long : length (before c) ≡ 8 = length-set c.loop-code.counts c.loop-code.last c.loop-code.run ∙ c.loop-code.invariant.0 in
    elim c.if-k-last.branch [
      | then-k-last w ↦ (
        w.last-is,
        ap length w.counts-is ∙ long,
        ap (λ y. set y c.if-k-last.last c.if-k-last.run) w.counts-is ∙ ap (λ i. set (before c) i c.if-k-last.run) w.last-is
            ∙ ap (λ r. set (before c) (octant c) r) w.run-is ∙ set-get_or (before c) (octant c) 0,
        w.run-is,
      )
      | else-k-last w ↦
          let here : octant c ≡ c.loop-code.last = w.if-k-last.false in (
            w.last-is ∙ sym here,
            ap length w.counts-is ∙ c.loop-code.invariant.0,
            ap (λ y. set y c.if-k-last.last c.if-k-last.run) w.counts-is ∙ ap (λ i. set c.loop-code.counts i c.if-k-last.run) w.last-is
                ∙ ap (λ r. set c.loop-code.counts c.loop-code.last r) w.run-is,
            w.run-is
                ∙ sym (ap (λ i. get_or (before c) i 0) here
                ∙ get_or-set_same c.loop-code.counts c.loop-code.last c.loop-code.run 0 (omega (arith, c.loop-code.invariant.0, c.loop-code.invariant.1))),
          )
    ]

pub overflow_add-run : goal.overflow_add-run
unfolding octant before
overflow_add-run c =
    let at = (goal.at.overflow_add-run c).Joined-k-last in
    omega (
      arith,
      (held at).3,
      c.loop-code.invariant.2 (octant at) (omega arith),
      count_fits c.args.codes.now c.loop-code.code-index c.args.level (octant at) c.requires.few,
    )

pub loop-code-preserved : goal.loop-code-preserved
unfolding octant before
loop-code-preserved c =
    let at = (goal.at.loop-code-preserved c).Joined-k-last in
    let h = held at in
    let next : set c.if-k-last.counts c.if-k-last.last (c.if-k-last.run + 1) ≡ set (before at) (octant at) (get_or (before at) (octant at) 0 + 1) =
    sym (set-set c.if-k-last.counts c.if-k-last.last c.if-k-last.run (c.if-k-last.run + 1)) ∙ ap (λ y. set y c.if-k-last.last (c.if-k-last.run + 1)) h.2
    ∙ ap (λ i. set (before at) i (c.if-k-last.run + 1)) h.0 ∙ ap (λ r. set (before at) (octant at) (r + 1)) h.3 in (
      h.1,
      omega (arith, h.0),
      λ k small. ap (λ y. get_or y k 0) next
          ∙ count_more c.args.codes.now (before at) c.loop-code.code-index (octant at) c.args.level
          (length-set c.loop-code.counts c.loop-code.last c.loop-code.run ∙ c.loop-code.invariant.0) c.loop-code-test.true
          (octant_read (get_or c.args.codes.now c.loop-code.code-index 0) c.args.level) (omega arith) c.loop-code.invariant.2 k small,
    )
