pub mod Bodies
pub mod Codes
pub mod Date
pub mod Pages
pub mod Texts
pub mod Xml
