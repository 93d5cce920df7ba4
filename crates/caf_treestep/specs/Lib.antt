pub mod Finds
pub mod Task
pub mod Evaluated
pub mod Step
pub mod Stood
pub mod Variables
pub mod Placeable
pub mod Reading
