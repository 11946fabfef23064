pub mod BitFacts
pub mod SpanFacts
