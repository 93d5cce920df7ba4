pub mod Sized
pub mod Bounds
pub mod Kept
pub mod Faults
pub mod Placed
