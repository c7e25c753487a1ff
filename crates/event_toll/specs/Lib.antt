pub mod Toll
