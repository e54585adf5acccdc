-- What the machine layer promises, as definitions. Read State, Registers, Forms, Step, Run and Numbers, then Answers,
-- which states the promises. Flow and View are what the sheet layer sees of the machine. Inner has what the crate's own
-- functions tell each other; no promise names it.
pub mod State
pub mod Registers
pub mod Forms
pub mod Step
pub mod Run
pub mod Numbers
pub mod Answers
pub mod Flow
pub mod View
pub mod Inner
