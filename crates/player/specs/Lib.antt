-- The replay program's text. A reader may stop after Definitions, and see in Cases the lines that they give
-- and in Theorems, in proofs/, what is proved of the whole. Laws, beside it, holds what the programs' proofs need.
pub mod Definitions
pub mod Cases
