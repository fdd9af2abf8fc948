pub mod LabelText
pub mod Crowd
pub mod Place
pub mod TextFault
pub mod Range
pub mod RangeText
pub mod Computed
pub mod inside
