-- Tables never share a page: the page layer of a walk (Layers), the pages walked for a table, as a list (Pages), the numbers of pages that answers carry
-- (Carried), the statement over both (Disjoint), and examples (Examples).
pub mod Layers
pub mod Pages
pub mod Carried
pub mod Disjoint
pub mod Examples
