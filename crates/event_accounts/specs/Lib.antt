pub mod AccountEvents
