-- The listing program's text. A reader may stop after Definitions, and see in Theorems what is proved of it.
-- Laws holds what the program's proofs need.
pub mod Definitions
pub mod Laws
pub mod Theorems
