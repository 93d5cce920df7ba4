pub mod Sized
pub mod Spliced
pub mod Room
