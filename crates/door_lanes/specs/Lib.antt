pub mod Doors
pub mod DoorLaws
pub mod Seats
pub mod SeatLaws
pub mod Lanes
pub mod Runs
