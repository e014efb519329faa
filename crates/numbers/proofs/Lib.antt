-- The library's bytes in the words of laws.
pub mod Library
