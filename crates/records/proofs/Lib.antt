-- Laws for any letter.
pub mod Link
pub mod Runs
pub mod Placed
pub mod Numbers
pub mod Along
pub mod Pairs
pub mod Index
pub mod FieldsIn
pub mod Lists
pub mod Tail
pub mod Copying
pub mod Digits
pub mod Parts
pub mod Slices
pub mod OnContents
pub mod Results
