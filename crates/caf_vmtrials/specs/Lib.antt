pub mod Examples
pub mod Traps
