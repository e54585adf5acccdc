-- Laws has what the layers above may cite. Determined has that each promise fixes its answer. Below has tests that are
-- computed for every number under a bound. The others prove these and the crate's functions, and only the crate itself
-- can name them.
pub mod Laws
pub mod Determined
pub mod Below
mod Fit
mod Lines
mod RoundTrip
mod Rows
mod TextLength
mod Undefined
mod Writing
