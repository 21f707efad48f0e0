-- Mesh files, the program's input: the format, and from the writer's side; what reading and writing one give; there and back; the C forms.
pub mod Format
pub mod Written
pub mod Reading
pub mod Writing
pub mod RoundTrip
pub mod Numbers
pub mod inner
