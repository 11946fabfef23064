use Rattle.journal_audit.proofs.Telling.{printed_is_legal}
use Rattle.journal_audit.proofs.laws.journal_law.Goals as goal

pub returns : goal.returns
returns c = printed_is_legal
