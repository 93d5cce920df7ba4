mod Named
mod Counting
mod Fences
mod Keeps
