pub mod OutFacts
pub mod CountedOnceDiffer
pub mod SpanSums
pub mod FetchesMove
pub mod AddsMove
pub mod GivesMove
pub mod SpansAreCut
pub mod FetchFinds
