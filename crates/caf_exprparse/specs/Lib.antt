pub mod Ends
pub mod Reading
pub mod Told
pub mod Reader
pub mod Reads
pub mod Nests
pub mod Cursor
