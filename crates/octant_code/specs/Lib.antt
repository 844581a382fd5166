pub mod Space
pub mod Points
pub mod Distinct
pub mod Decimal
pub mod Numbers
pub mod Prefixes
