pub mod Sketch
