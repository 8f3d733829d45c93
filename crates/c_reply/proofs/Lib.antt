-- What a contract says of an answer carries over to the reply to it (ReplyCarriesOver).
pub mod ReplyCarriesOver
