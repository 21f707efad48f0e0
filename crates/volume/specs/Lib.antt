-- Best volume (01), and the pairs (02, A3).
pub mod Best
pub mod Pairs
pub mod Numbers
