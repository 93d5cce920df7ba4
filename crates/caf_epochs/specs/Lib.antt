pub mod Epoch
pub mod Counters
