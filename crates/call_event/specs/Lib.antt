pub mod EventCalls
