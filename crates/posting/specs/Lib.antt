pub mod Posts
pub mod Written
