-- The laws of slots, and of an index that bears witness to the tables.
pub mod Slots
pub mod Filling
pub mod Witness
pub mod Marks
pub mod Repeats
