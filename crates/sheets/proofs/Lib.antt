pub mod Accepting
pub mod EnteredTurns
pub mod Meeting
pub mod Printed
pub mod RowsTold
pub mod SheetTurns
pub mod Telling
