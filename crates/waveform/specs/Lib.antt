-- The waveforms of an ANLZ file: their sorts (Sort), a section that holds one and its entries (Wave), the question (Questions), and where an
-- entry that is answered stands (Place). Private has what only private functions cite.
pub mod Sort
pub mod Wave
pub mod Questions
pub mod Place
pub mod Private
