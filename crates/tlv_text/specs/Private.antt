pub mod BlockSteps
pub mod NumberSteps
pub mod DumpSteps
pub mod PairSteps
pub mod PemSteps
pub mod SymbolSteps
pub mod TokenSteps
pub mod Counting
