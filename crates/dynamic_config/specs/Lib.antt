pub mod DynamicConfig
