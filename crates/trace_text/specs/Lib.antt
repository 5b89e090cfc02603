pub mod Lines
pub mod ListRecorder
pub mod Noted
pub mod Records
pub mod SinkRecorder
pub mod Stamp
