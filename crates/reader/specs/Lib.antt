-- The reader over a table. A reader may stop after Definitions; Theorems, in proofs/, has what reading to the end gives.
pub mod Definitions
