-- What only private clauses cite: what the reader gives, part by part. No theorem hangs on reading it.
pub mod Pieces
pub mod Answers
pub mod Phrases
pub mod PhraseView
pub mod Table
pub mod Spelled
pub mod Words
pub mod Lines
pub mod InterfaceView
