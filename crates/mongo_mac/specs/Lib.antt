pub mod Bytes
pub mod Digests
pub mod Hi
pub mod Hmac
pub mod TagStore
