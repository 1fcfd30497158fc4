pub mod Keystores
pub mod Lists
pub mod Words
pub mod Messages
pub mod Statuses
pub mod Imports
pub mod Answers
