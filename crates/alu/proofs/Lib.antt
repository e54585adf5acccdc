-- Laws has what the layers above may cite. Determined has that each promise fixes its answer. Bytes proves the crate's
-- functions.
pub mod Laws
pub mod Determined
mod Bytes
