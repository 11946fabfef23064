use Rattle.std.proofs.Common.{List, Bool, ap, ◌∙◌}
use Rattle.huge_cache.proofs.Common.{best}
use Rattle.huge_cache.proofs.Padded.{best-front}
use Rattle.huge_cache.proofs.row.Row.best.Goals as goal

pub returns : goal.returns
returns c = c.best.ensures.value ∙ best-front c.self.inside.len c.self.inside.bits c.args.n c.self.invariant.0 ∙ ap (λ (r : List Bool). best r c.args.n) c.self.view_is
