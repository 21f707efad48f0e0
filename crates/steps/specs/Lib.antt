-- What the table of edges means. Document 01's definitions stand in `ids`: nothing here has to be believed.
pub mod inner
