pub mod Eats
pub mod Good
pub mod Lists
pub mod OneToken
pub mod Told
pub mod Expressions
pub mod Fallback
pub mod Promise
