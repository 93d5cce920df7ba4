pub mod Reader
pub mod Nests
pub mod Answer
