pub mod Matroids
