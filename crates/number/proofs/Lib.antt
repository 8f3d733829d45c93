-- Numbers of two, three and four bytes, also at the end of the bytes (Number), and what they depend on (NumberAgree).
pub mod Number
pub mod NumberAgree
