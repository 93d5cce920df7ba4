pub mod Placed
pub mod ExprCode
pub mod Leaves
pub mod Straight
pub mod Asks
pub mod Words
