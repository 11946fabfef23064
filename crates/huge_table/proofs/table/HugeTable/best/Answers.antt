use Rattle.std.proofs.Common.{◌≡◌, ℕ, ◌*◌, List, Bool, take, drop, ap, ◌∙◌, arith}
use Rattle.huge_table.proofs.Common.{best}
use Rattle.huge_table.proofs.Steps.{row_at}
use Rattle.huge_table.proofs.table.HugeTable.best.Goals as goal

pub returns : goal.returns
returns c heap means shared =
    let start : 64 * (4 * c.from.result) ≡ 256 * c.args.huge.0 = omega (arith, c.from.ensures) in
    c.best_in.ensures
    ∙ ap (λ (k : ℕ). best (take 256 (drop k c.self.inside.used)) c.args.n) start
    ∙ ap (λ (row : List Bool). best row c.args.n) (row_at c.self.inside c.args.self.now heap c.args.huge.0 c.self.view_is c.self.invariant means c.requires.high shared)
