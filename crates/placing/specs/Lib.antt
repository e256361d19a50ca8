pub mod OnBoard
pub mod Putting
pub mod Statements
pub mod Steps
