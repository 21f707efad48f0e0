-- An id is in range when it is below the number of vertices; a triangle turned over is where it was.
pub mod Range
