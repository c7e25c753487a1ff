pub mod DisputeLaws
