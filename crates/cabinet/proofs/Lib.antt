-- Laws of what a C host is told.
pub mod Told
