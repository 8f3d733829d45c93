-- What an answer about a waveform's entry may depend on: the relevant bytes of a file (Bytes), that they decide it (Depend), and examples
-- (Examples).
pub mod Bytes
pub mod Depend
pub mod Examples
