pub mod Agreements
pub mod Alike
pub mod Entries
pub mod Forecasts
pub mod Fronts
pub mod Listings
pub mod Strays
