pub mod Cases
pub mod Driven
pub mod TrapsKept
