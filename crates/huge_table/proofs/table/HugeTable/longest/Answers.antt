use Rattle.std.proofs.Common.{ℕ, take, drop, ap, ◌∙◌, arith}
use Rattle.huge_table.proofs.Common.{longest}
use Rattle.huge_table.proofs.Steps.{row_at}
use Rattle.huge_table.proofs.table.HugeTable.longest.Goals as goal

pub returns : goal.returns
returns c heap means shared =
    c.longest_in.ensures
    ∙ ap (λ (k : ℕ). longest (take 256 (drop k c.self.inside.used))) (omega (arith, c.from.ensures))
    ∙ ap longest (row_at c.self.inside c.args.self.now heap c.args.huge.0 c.self.view_is c.self.invariant means c.requires.high shared)
