pub mod BundleFault
pub mod Bundle
pub mod Messages
pub mod Manifest
