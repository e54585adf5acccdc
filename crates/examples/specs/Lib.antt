-- What document 01 says by example. Twelve has the table of its twelve examples, of which the first four stand, and
-- its listing; Counts has how many words and instructions there are.
pub mod Twelve
pub mod Counts
