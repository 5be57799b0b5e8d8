-- Worked examples.
mod Monadic
mod Dyadic
mod Identities
mod Extension
mod Narrow
