-- What recovery, and the check of a lent index, have shown.
pub mod Refused
