pub mod Dates
pub mod FirstRows
pub mod Foreign
pub mod HeaderTexts
pub mod Labels
pub mod Signatures
