-- What a turn of the program does, and what its turns do together.
pub mod Turns
pub mod Runs
