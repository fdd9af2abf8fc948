pub mod Runs
pub mod Report
pub mod Ends
pub mod inside
pub mod flow_run
