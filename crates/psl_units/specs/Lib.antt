pub mod Trees
pub mod Before
pub mod Unit
pub mod StandsForUnit
pub mod Having
pub mod inner
