pub mod KeyLemmas
pub mod MemberLemmas
pub mod FindLemmas
pub mod ImplLemmas
pub mod ChangeLemmas
pub mod Splits
pub mod Filters
