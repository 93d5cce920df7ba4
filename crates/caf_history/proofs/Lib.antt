mod Answered
mod Entries
mod Extends
mod Paths
mod Pushed
mod Spots
