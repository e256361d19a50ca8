pub mod Entered
pub mod Met
pub mod ReportTexts
pub mod Reports
pub mod Texts
pub mod Told
