-- PacketCodes: the results of a packet are codes of deliveries. RowValues: page and entry, and a record's numbers behind them.
-- Stands: a reply by what the code's results stand for.
pub mod PacketCodes
pub mod RowValues
pub mod Stands
