pub mod Lent
pub mod Agreement
pub mod Clean
pub mod Refusals
pub mod LeavesValid
pub mod Tray
