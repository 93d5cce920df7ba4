pub mod Digits
pub mod Rows
pub mod Words
pub mod Walk
