pub mod Levels
pub mod DepthOf
pub mod ExpressionLevels
pub mod SimpleLevels
pub mod StatementLevels
pub mod UnitLevels
