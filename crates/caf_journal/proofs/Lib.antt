pub mod Cutting
pub mod Numbers
pub mod Tables
pub mod Words
pub mod Lines
pub mod Traces
