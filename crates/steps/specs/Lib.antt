pub mod StepTable
pub mod Written
