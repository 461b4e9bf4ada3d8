pub mod Sizes
pub mod Greedy
pub mod Accepting
pub mod Planning
pub mod ReplyRows
pub mod OneBatch
pub mod Coming
pub mod WholeInsert
