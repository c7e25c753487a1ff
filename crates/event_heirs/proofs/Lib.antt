pub mod HeirLaws
