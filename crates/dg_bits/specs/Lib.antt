pub mod Sets
pub mod ByteForm
pub mod ModelLaws
