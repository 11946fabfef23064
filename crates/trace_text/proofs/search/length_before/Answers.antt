use Rattle.std.proofs.Common.{rules}
use Rattle.trace_text.proofs.Cuts.{position_missing}
use Rattle.trace_text.proofs.search.length_before.Goals as goal

pub returns-in-None-clause-first : goal.returns-in-None-clause-first
returns-in-None-clause-first c = position_missing _ _ (search rules)
