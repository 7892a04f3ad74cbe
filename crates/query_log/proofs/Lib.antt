pub mod Adding
pub mod SoundLogs
