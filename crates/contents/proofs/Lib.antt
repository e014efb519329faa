pub mod Looks
pub mod Reading
