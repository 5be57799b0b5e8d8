mod Claims
mod Ends
mod FoundPlaces
mod LeastPlaces
mod Preserved
mod Splits
mod Totals
mod Examples
