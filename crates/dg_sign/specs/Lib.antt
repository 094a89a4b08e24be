pub mod Lines
pub mod Found
pub mod SignatureTexts
pub mod KeyTexts
