pub mod Opening
pub mod Choices
pub mod Reader
