pub mod Blocks
pub mod Units
pub mod Whole
pub mod AtMostOne
pub mod Turns
