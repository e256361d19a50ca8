pub mod Lists
pub mod Reports
