pub mod Forms
pub mod Expressions
pub mod Statements
pub mod Units
pub mod Depth
pub mod Said
pub mod Text
pub mod Unlined
