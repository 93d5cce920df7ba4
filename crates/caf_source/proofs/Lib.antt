mod Both
mod Last
mod Plain
mod Blocking
mod Stacked
pub mod Listed
pub mod Written
pub mod Noticed
pub mod Beside
pub mod Orderly
pub mod Refusals
pub mod Placing
pub mod AtImage
pub mod Begin
pub mod Below
pub mod Passing
pub mod Offers
pub mod Defined
pub mod Standing
pub mod Led
pub mod LiveStep
