pub mod Names
pub mod Asked
pub mod Places
pub mod Course
pub mod Says
pub mod inside
pub mod report_telling
