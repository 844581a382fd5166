-- The zone of a tree, and how many cells are opened for it, from the range that it is cut by.
use Rattle.std.proofs.Common.{◌≡◌, ◌≤◌, ◌+◌, ◌*◌, ℕ, length, ap, ◌∙◌, sym, arith}
use Rattle.bh_model.proofs.Totals.{total-order}
use Rattle.bh_model.specs.Bodies.{IsIn}
use Rattle.bh_model.specs.Moments.{total}
use Rattle.bh_model.specs.Trees.{Tree, height, order}
use Rattle.bh_model.specs.Zones.{cost_of, zone}
use Rattle.costzones.specs.Ranges.{between, opened, opened_from, range_start}
use Rattle.costzones.proofs.Openings.{opened_few}
use Rattle.costzones.proofs.Ranges.{zone_is}

-- a tree is read, and cut by the range of zone w, whose bodies all cost something
pub record IsCutFor (cost : ℕ → ℕ) (workers w whole low high : ℕ) (read tree : Tree) : Type 0 where
  pub some_worker : 1 ≤ workers
  pub positive : (n : ℕ) → IsIn (order read) n → 1 ≤ cost n
  pub tall : height read ≤ 21
  pub whole_is : whole ≡ total cost read
  pub same : read ≡ tree
  pub low_is : low ≡ range_start workers whole w
  pub high_is : high ≡ range_start workers whole (w + 1)

module _ {cost : ℕ → ℕ} {workers w whole low high : ℕ} {read tree : Tree} (cut : IsCutFor cost workers w whole low high read tree) where
  -- the range is that of the tree's whole cost
  low_of : low ≡ range_start workers (cost_of cost (order read)) w
  low_of = cut.low_is ∙ ap (λ x. range_start workers x w) (cut.whole_is ∙ total-order cost read)

  high_of : high ≡ range_start workers (cost_of cost (order read)) (w + 1)
  high_of = cut.high_is ∙ ap (λ x. range_start workers x (w + 1)) (cut.whole_is ∙ total-order cost read)

  -- the bodies that begin in it are the zone's
  pub cut_zone : between cost low high 0 (order read) ≡ zone cost workers w tree
  unfolding low_of high_of
  cut_zone =
      ap (λ x. between cost x high 0 (order read)) low_of ∙ ap (λ x. between cost (range_start workers (cost_of cost (order read)) w) x 0 (order read)) high_of
      ∙ sym (zone_is cost workers w read cut.positive cut.some_worker) ∙ ap (zone cost workers w) cut.same

  -- the cells that are opened are the zone's
  pub cut_opened : opened_from cost low high 0 read ≡ opened cost workers w tree
  cut_opened =
      ap (λ x. opened_from cost x high 0 read) low_of ∙ ap (λ x. opened_from cost (range_start workers (cost_of cost (order read)) w) x 0 read) high_of
      ∙ ap (opened cost workers w) cut.same

  -- and few
  pub cut_few : opened_from cost low high 0 read ≤ 21 * (length (zone cost workers w tree) + 1)
  cut_few = omega (arith, opened_few cost low high read cut.tall, ap length cut_zone)
