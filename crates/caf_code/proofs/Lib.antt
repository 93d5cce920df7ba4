pub mod Checked
pub mod Whole
pub mod Rows
pub mod Steps
pub mod Kept
pub mod Sections
pub mod Memory
