pub mod Bodies
pub mod Drafts
pub mod Found
pub mod Look
pub mod Steps
