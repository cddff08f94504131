mod Readings
mod Rounding
mod Quotients
mod Powers
mod Turning
mod Distances
