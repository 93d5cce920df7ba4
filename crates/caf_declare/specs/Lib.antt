pub mod Table
pub mod Names
pub mod Operators
pub mod Constants
pub mod Globals
pub mod Frames
