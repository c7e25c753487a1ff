pub mod BatchCallLaws
pub mod SinglyLaws
