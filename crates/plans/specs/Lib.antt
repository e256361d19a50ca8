pub mod Bytes
pub mod Cells
pub mod Checking
pub mod Faults
pub mod Given
pub mod Seen
pub mod Statements
