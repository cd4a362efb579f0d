-- Laws about lists, numbers, fields and the definition's helpers.
pub mod ByteForm
pub mod Fibers
pub mod KindTable
pub mod Lists
pub mod NameLaws
pub mod Numbering
pub mod Numbers
pub mod Orders
pub mod RowLaws
pub mod Sound
pub mod SoundOrder
pub mod SoundRule
pub mod StepForm
pub mod WalkRefusals
pub mod Choices
