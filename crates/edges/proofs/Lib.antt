-- Edges: C1 to C6 and C9 to C12 hold together, by computation (rule 9.1).
-- Counts: row counts near their edges (rule 9.17), and what every page keeps to (rule 9.18).
-- Entries: which half of a header is wrong, and where a row stands (rule 9.19), and what every page keeps to (rule 9.20).
-- Codes: strings near the edge between recording codes and others (rule 9.14), and C9 to C12 in every slot (rule 9.15).
-- Packets: packets near their edges (rule 9.16), from the laws of a packet and of the verdict (intake: PacketFold, Verdict).
pub mod Edges
pub mod Counts
pub mod Entries
pub mod Codes
pub mod Packets
