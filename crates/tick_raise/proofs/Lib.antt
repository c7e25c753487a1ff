pub mod RaisedLaws
pub mod RaisingLaws
