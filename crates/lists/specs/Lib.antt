pub mod Tests
pub mod Lists
