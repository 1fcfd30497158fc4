pub mod Acts
pub mod Silence
pub mod Running
pub mod Lives
