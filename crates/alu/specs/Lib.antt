-- What the arithmetic promises, as definitions. Read Alu, then Answers, which states the promise of a sum.
pub mod Alu
pub mod Answers
