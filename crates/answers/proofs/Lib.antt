-- What is printed for each input.
pub mod Enough
pub mod Printing
