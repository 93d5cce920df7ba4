pub mod Ascii
pub mod Cuts
pub mod Ends
pub mod Longest
pub mod Pieces
pub mod Tables
pub mod Whole
