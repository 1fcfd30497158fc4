pub mod Steps
pub mod FairLaws
pub mod Seats
pub mod SeatLaws
pub mod Turns
pub mod Spans
