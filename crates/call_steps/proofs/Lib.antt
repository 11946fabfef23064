pub mod ScriptFacts
pub mod HandFacts
