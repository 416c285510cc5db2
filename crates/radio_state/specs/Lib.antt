pub mod RadioState
