pub mod Packing
pub mod Demands
