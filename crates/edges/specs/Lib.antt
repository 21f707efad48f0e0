-- How the code numbers the tests on an edge, and which edges of a triangle count. Document 01's definitions stand in `ids`.
pub mod inner
