use Rattle.std.proofs.Common.{drop, sym}
use Rattle.huge_cache.proofs.Padded.{all_used}
use Rattle.huge_cache.proofs.row.change.Goals as goal

pub returns-else-used-clause-was : goal.returns-else-used-clause-was
returns-else-used-clause-was c = sym (all_used (drop c.args.start c.args.bits.now) c.args.n (c.requires.taken c.if-used.false))
