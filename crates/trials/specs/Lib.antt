pub mod Beside
pub mod Bytes
pub mod Clashes
pub mod Randoms
pub mod Twice
