pub mod FullRows
pub mod RowsFilled
pub mod OneCut
pub mod FilledRows
pub mod RowSteps
