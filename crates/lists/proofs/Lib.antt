pub mod Entries
pub mod Updates
pub mod Words
pub mod Seams
pub mod Rows
pub mod RowStores
pub mod RowReads
