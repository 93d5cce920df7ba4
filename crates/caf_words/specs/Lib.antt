pub mod Numbers
pub mod Sorted
pub mod Clap
pub mod Requests
