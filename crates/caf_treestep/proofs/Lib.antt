mod FirstMemory
mod Ending
mod Fits
mod Found
mod Stays
mod Upcoming
