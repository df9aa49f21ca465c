pub mod Help
pub mod Info
pub mod Look
pub mod Outcome
pub mod Printed
pub mod Run
pub mod Text
pub mod Tools
