-- The map of the argument.
--     ReceivedBlocks   the received blocks after one delivery
--     HoldsKept        what holds at the end of a run begins with the opening and is kept by each delivery: by ReceivedBlocks and intake's laws
--     PacketCalls      a packet in a run leaves what its deliveries do, and is refused by its arguments alone
--     Determined       what holds there determines image and map
--     RunHolds         so it holds at every end, refusals 1 to 4 never apply, and equal received blocks give equal ends
--     CallsAppend      a run that goes on keeps its received blocks
--     FileMemory       the memories made of the received blocks, and of a whole file
--     HeldBlocks       the run's memory and those memories hold the same blocks; more received, more held
--     AnswersKept      with more blocks held, written places, answers and faults stay: by the laws of the walk (table_walk) and of the questions (export)
--     ListRead         reading from the list that all rows left answers as the questions do
--     ListKept         with more blocks held, what was read from a list stays
--     Fetch            held and missing blocks, the layout and bounds, by the received blocks
--     Demand           all of it, one term; and its corollaries for lists, for fetching and for answers in full
pub mod ReceivedBlocks
pub mod HoldsKept
pub mod PacketCalls
pub mod Determined
pub mod RunHolds
pub mod CallsAppend
pub mod FileMemory
pub mod HeldBlocks
pub mod AnswersKept
pub mod ListRead
pub mod ListKept
pub mod Fetch
pub mod Demand
