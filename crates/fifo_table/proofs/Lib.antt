pub mod Keeping
pub mod SoundKinds
