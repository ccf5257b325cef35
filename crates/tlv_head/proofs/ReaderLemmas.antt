pub mod Steps
pub mod UnfinishedHeaders
pub mod Prefix
pub mod OneResult
pub mod OneHeader
pub mod ShortPrefixes
pub mod FieldsOf
