pub mod Chained
pub mod Downward
pub mod LabelRow
pub mod LabelStep
