pub mod Keeps
pub mod PartsRead
pub mod SimpleRead
