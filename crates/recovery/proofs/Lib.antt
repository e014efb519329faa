-- Which number recovery's checks answer, and those of a lent index.
pub mod Refused
