pub mod Undisturbed
