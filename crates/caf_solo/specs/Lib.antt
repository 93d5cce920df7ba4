pub mod Waves
pub mod RunOf
pub mod Followed
pub mod Led
