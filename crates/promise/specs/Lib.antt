pub mod Demand
pub mod Known
