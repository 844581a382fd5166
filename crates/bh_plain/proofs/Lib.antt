mod ListZones
mod ListMoments
mod ListPulls
pub mod ListBlocks
mod ListPieces
mod ListUpdates
