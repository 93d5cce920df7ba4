mod Taken
mod Given
mod Stages
mod Carried
mod Laws
mod Checking
