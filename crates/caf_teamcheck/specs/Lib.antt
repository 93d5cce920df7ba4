pub mod Spawned
pub mod Marks
pub mod Sites
pub mod Whole
pub mod Faults
