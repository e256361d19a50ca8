pub mod Bytes
pub mod Faults
pub mod Held
pub mod Lists
pub mod Refusals
pub mod RoundTrips
pub mod ToldApart
