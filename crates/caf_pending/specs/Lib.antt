pub mod Pending
pub mod Open
pub mod Kept
