pub mod Counts
pub mod Growth
pub mod Numbered
pub mod Apart
