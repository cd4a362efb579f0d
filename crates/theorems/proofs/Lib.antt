-- Theorems about the definition.
pub mod ByteLaws
pub mod FieldLaws
pub mod Good
pub mod GoodRows
pub mod PlaceLaws
pub mod ReadBack
pub mod ReadingRefusals
pub mod Refusals
pub mod ScopeLaws
pub mod StepLaws
pub mod Theorems
pub mod WalkLaws
pub mod WalkSteps
