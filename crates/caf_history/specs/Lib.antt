pub mod Finishes
pub mod Index
pub mod Kept
pub mod Places
pub mod Splits
