mod TileLemmas
mod ShapeLemmas
