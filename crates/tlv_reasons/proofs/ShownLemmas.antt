pub mod ShownValues
pub mod ShownSentences
