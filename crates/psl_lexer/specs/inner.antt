-- What the private functions of the lexer say of themselves. No public clause cites these definitions.
pub mod Lexemes
pub mod Places
pub mod Runs
pub mod Steps
