pub mod Shapes
pub mod Fields
pub mod Tiles
