pub mod Unbuilt
