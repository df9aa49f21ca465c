pub mod Convert
pub mod Making
pub mod Plan
pub mod Planning
