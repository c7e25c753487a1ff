pub mod HeaderLists
