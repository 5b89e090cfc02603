pub mod Corrections
