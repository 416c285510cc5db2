pub mod Page
pub mod Run
pub mod FetchRun
pub mod DataRun
pub mod LegRun
pub mod Parse
pub mod Transfer
