-- What C is answered with: a code (Code), and values at the front of the result (Reply).
pub mod Code
pub mod Reply
