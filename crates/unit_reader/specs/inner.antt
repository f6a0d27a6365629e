-- What no reader has to believe: what the parser gives, as functions.
pub mod Steps
pub mod ExprReaders
pub mod SereReaders
pub mod FormReaders
pub mod PropReaders
pub mod ItemReaders
pub mod UnitReaders
pub mod Namesakes
pub mod Bodies
pub mod ReadViews
pub mod Answers
