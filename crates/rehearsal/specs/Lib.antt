pub mod Draws
pub mod Plays
pub mod Clients
pub mod Stages
pub mod Rehearsals
