use Rattle.std.proofs.Common.{arith}
use Rattle.journal_audit.proofs.LiveFacts.{inserted}
use Rattle.journal_audit.proofs.Spreads.{spread_with}
use Rattle.journal_audit.proofs.live.Live.insert.Goals as goal

pub invariant_of-self : goal.invariant_of-self
invariant_of-self c = grind (arith, inserted, spread_with)

pub returns : goal.returns
returns c = grind (arith, inserted)
