mod Appended
mod Alone
mod Following
mod Standing
