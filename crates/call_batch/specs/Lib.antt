pub mod BatchCalls
pub mod Singly
