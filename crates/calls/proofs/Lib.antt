pub mod ByLine
