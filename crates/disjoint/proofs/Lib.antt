-- How the statement of specs/Disjoint is proved.
--     WalkedPages      over any page layer, the pages walked differ, and the walk carries their number
--     TablePages       the same of those walked for a table, and each of them has its number as the type
--     AnswerPages      the number that an answer carries is that of the walk for its table
--     PageSums         numbers of pages in lists that share none add up to at most P-1
--     Disjoint         all of it, for every state and over runs
--     Examples         the examples, by computation
pub mod WalkedPages
pub mod TablePages
pub mod AnswerPages
pub mod PageSums
pub mod Disjoint
pub mod Examples
