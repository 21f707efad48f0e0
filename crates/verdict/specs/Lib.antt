-- Verdict (01): closed, open shell or degenerate; what each says of a mesh; and what the classifier's steps say.
pub mod Verdict
pub mod Meaning
pub mod Numbers
pub mod inner
