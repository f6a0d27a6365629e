-- What no reader has to believe: by what the code tells whether a form is built.
pub mod Forms
