-- What the decoder layer promises, as definitions. Read Table, Printed, Text, Listing, then Answers, which states
-- the promises. Inner has what the crate's own functions tell each other; no promise names it.
pub mod Table
pub mod Printed
pub mod Text
pub mod Listing
pub mod Answers
pub mod Inner
