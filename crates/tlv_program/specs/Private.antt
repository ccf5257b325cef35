pub mod CommandOf
