pub mod Accepted
pub mod FirstFault
pub mod Holds
pub mod Outcomes
pub mod ToldApart
pub mod Turns
pub mod Written
