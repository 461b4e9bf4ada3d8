pub mod Keys
pub mod Rounds
pub mod SameBytes
pub mod XorBytes
pub mod ZeroFilled
