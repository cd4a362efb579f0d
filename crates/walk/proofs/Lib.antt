-- Laws behind the walk.
pub mod Doing
pub mod Ending
pub mod Folding
pub mod Going
pub mod Grounds
pub mod Growing
pub mod Leaving
pub mod Linking
pub mod Mapping
pub mod Meeting
pub mod Numbers
pub mod Reaching
pub mod Sources
pub mod Starting
pub mod Stepping
pub mod Walkable
