pub mod Causes
pub mod Texts
pub mod Held
pub mod Spare
pub mod MemSink
pub mod MemHost
