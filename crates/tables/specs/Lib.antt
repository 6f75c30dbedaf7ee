-- Bytes to nodes and links, and back. Definitions reads like document 01's 'Rows and buffers' and its rule of a faulty row; Laws, here and in proofs/, says how the two sides fit.
pub mod Definitions
pub mod Laws
