-- How the chain's functions are proved, and what the questions need of the walk.
--     Linkable, PagePart, PageRead     a page that a link may name, its part of the image, and what reading it tells
--     WalkStep                         one step of the walk; every law about the walk goes by it
--     FuelEnough, PagesPassed          pages walked differ, so the fuel never runs out, and rows found are theirs
--     EndsAtLast, ChainFaults          where a walk ends, Full or refused
--     SameWalk, WalkGrows, FileAgree   the same pages give the same walk, more pages a longer one; the bytes it depends on
--     BlocksHeld                       a page is held where each of its blocks is
--     WalkLoop, FillLoop, RowLoop      the loops of the code, by their invariants
--     ReplyThen                        what follows an answer about a row
--     ChainPlaces                      in an allowed file, the places written are those of the rows found
pub mod Linkable
pub mod WalkStep
pub mod FuelEnough
pub mod SameWalk
pub mod WalkGrows
pub mod PagesPassed
pub mod EndsAtLast
pub mod ChainFaults
pub mod WalkLoop
pub mod PagePart
pub mod BlocksHeld
pub mod PageRead
pub mod FillLoop
pub mod RowLoop
pub mod ReplyThen
pub mod ChainPlaces
pub mod FileAgree
