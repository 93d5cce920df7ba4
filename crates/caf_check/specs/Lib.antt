pub mod Choices
pub mod Checked
