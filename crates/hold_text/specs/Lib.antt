pub mod Blanks
