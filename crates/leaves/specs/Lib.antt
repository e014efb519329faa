-- What the exported leaves answer and leave.
pub mod Copy
pub mod Look
