pub mod Appended
pub mod Codecs
pub mod Ends
pub mod Laws
pub mod Made
pub mod Pages
pub mod Widths
