pub mod Said
pub mod Operations
pub mod Asked
