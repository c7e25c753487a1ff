pub mod Payment
