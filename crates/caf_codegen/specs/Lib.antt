pub mod Agreement
pub mod Compiled
pub mod StmtCode
pub mod ProgramCode
