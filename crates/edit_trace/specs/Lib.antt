pub mod Trace
pub mod Run
pub mod TraceRules
