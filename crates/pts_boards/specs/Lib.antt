pub mod Alarm
pub mod Claims
pub mod Laws
pub mod Least
pub mod Numbers
pub mod Rule
pub mod Seats
