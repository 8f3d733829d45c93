-- Laws of answers (Then).
pub mod Then
