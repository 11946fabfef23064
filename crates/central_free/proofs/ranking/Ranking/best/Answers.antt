use Rattle.std.proofs.Common.{arith}
use Rattle.std.proofs.lemmas.List.{get_or_read}
use Rattle.central_free.proofs.RankFacts.{best_none, best_some}
use Rattle.central_free.proofs.ranking.Ranking.best.Goals as goal

pub returns-then-root-eq0 : goal.returns-then-root-eq0
returns-then-root-eq0 c = grind (arith, get_or_read, best_none)

pub returns-else-root-eq0 : goal.returns-else-root-eq0
returns-else-root-eq0 c = grind (arith, get_or_read, best_some)
