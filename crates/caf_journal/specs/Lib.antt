pub mod Struck
pub mod Trace
pub mod Reading
