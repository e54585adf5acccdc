-- Laws has what the layers above may cite. Determined has that each promise fixes its answer. The others prove these
-- and the crate's functions, and only the crate itself can name them.
pub mod Laws
pub mod Determined
mod Flowing
mod Operands
mod Places
mod Runs
mod Tested
mod Turns
mod Ways
mod Within
mod Entries
mod Words
