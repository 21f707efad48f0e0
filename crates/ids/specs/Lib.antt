-- What the documents say of lists of ids: their triangles, the edge chain, the face net and the pieces, and what an id routine refuses and
-- leaves in its lent area. And ids that are turned inside out (02).
pub mod Triangles
pub mod Reversed
pub mod Uses
pub mod EdgeChain
pub mod FaceNet
pub mod Meaning
pub mod Pieces
pub mod ByIds
pub mod Classes
pub mod Refusal
pub mod Lent
pub mod Examples
