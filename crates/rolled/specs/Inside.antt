-- What the contracts of internal functions cite; no promise of a public call names these.
pub mod Bounds
pub mod Contracts
