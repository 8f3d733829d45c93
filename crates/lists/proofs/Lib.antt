-- General laws, which every crate above cites: tests and what they choose (Choice), parts of a slice (Part), searches (Any, First),
-- membership and the pigeonhole (Member), joined lists (Joined), what holds of each member (Each), runs of stores (Sets), element k of a list (Nth),
-- lists that are equal part by part (EqualParts).
pub mod Choice
pub mod Part
pub mod Any
pub mod First
pub mod Member
pub mod Joined
pub mod Each
pub mod Sets
pub mod Nth
pub mod EqualParts
