-- Words that are put into an area one by one, how many a part of bytes has, which stands where; and words as bytes, made and put.
pub mod Words
pub mod Parts
pub mod At
pub mod Bytes
pub mod BytesPut
