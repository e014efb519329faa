-- What calls share in their proofs: a refusal passed on, and the checks of a book's name.
pub mod Refusing
pub mod Naming
