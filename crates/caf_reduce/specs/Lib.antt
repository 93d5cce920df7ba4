pub mod Tree
pub mod Sum
pub mod Summer
