pub mod Last
pub mod Listed
pub mod Telling
