-- What the rows that are listed must meet.
pub mod Listed
