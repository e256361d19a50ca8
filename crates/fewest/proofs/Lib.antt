pub mod Busiest
pub mod Counting
pub mod NoFewer
pub mod Numbers
pub mod OneCounted
pub mod Tallying
pub mod Worked
