pub mod SetLaws
pub mod ByteFormLaws
pub mod ByteChangeLaws
