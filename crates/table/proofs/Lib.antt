-- What holds of the tables' numbers (TableNumber). The functions' proofs stand beside it.
pub mod TableNumber
