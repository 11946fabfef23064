use Rattle.std.proofs.Common.{length, sym, ◌∙◌, ap}
use Rattle.central_free.proofs.RankFacts.{length-standings_of}
use Rattle.central_free.proofs.ranking.Ranking.len.Goals as goal

pub returns-clause-len : goal.returns-clause-len
returns-clause-len c = sym (ap length (sym c.self.view_is) ∙ length-standings_of c.self.inside.slots c.self.inside.nodes.items)
