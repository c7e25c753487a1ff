pub mod Dispute
