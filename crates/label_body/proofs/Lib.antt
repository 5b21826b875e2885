pub mod BodyRows
