pub mod First
pub mod Gauge
pub mod Gauges
pub mod Laws
pub mod Report
pub mod Slots
