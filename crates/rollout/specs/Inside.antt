-- What is computed with, and what the proofs say of it; no promise of a public call names these.
pub mod Heights
pub mod Raised
pub mod Sound
