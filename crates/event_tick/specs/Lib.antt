pub mod TickEvent
