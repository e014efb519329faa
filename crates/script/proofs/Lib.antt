pub mod Start
pub mod Sums
pub mod Told
