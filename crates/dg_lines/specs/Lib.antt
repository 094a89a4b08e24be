pub mod LineReading
pub mod Fields
pub mod ReportReading
