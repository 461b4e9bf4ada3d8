pub mod Checked
pub mod DoubleBits
pub mod Exact
