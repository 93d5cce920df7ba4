pub mod Seen
pub mod View
pub mod Value
pub mod Expressions
pub mod Kinds
pub mod Rules
pub mod Ships
pub mod Accepted
