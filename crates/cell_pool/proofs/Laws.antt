-- What callers rest on, which import nothing else of these proofs.

-- the ends of a list
pub use Rattle.cell_pool.proofs.Regions.{length-between, length-ends, three_parts}
