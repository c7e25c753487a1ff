pub mod TollLaws
