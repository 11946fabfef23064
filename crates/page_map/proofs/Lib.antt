pub mod SpanFacts
pub mod Meaning
pub mod LeafFacts
