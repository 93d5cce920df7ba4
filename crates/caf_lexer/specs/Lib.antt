pub mod Spelling
pub mod Lines
pub mod Tokens
pub mod Longest
pub mod HasTokens
pub mod Ends
