pub mod Presigning
