-- `run` leaves what some commands lead to from the start.
--     AfterBytes      one command, from what `decode` and `step` ensure; `answer` cites it
--     ReachedStates   no command, one command, and one run behind another; `turn` and the loop of `run` cite them
--     BodySizes       a body fits the buffer it is read to
mod AfterBytes
mod ReachedStates
mod BodySizes
mod KnownInput
