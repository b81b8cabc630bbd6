pub mod Answers
pub mod Senders
pub mod Takers
pub mod Listening
pub mod SenderTables
