pub mod Line
pub mod Rule
pub mod Told
pub mod Hands
pub mod Passes
pub mod Workers
