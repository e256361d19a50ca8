pub mod Counting
pub mod Days
pub mod Plans
pub mod Rounds
pub mod Statements
pub mod Tallies
