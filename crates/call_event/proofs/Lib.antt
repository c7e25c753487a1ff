pub mod EventCallLaws
