mod Broken
mod Flat
mod Found
mod Paths
mod Plain
