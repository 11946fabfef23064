use Rattle.std.proofs.Common.{◌≡◌, ℕ, false, List, Bool, get_or, replicate, ap, ◌∙◌, arith}
use Rattle.huge_table.proofs.Common.{bit}
use Rattle.huge_table.proofs.Opens.{none_of, opens}
use Rattle.huge_table.proofs.table.HugeTable.open.Goals as goal

none : (row : List Bool) (n k : ℕ) → row ≡ replicate n false → bit row k ≡ false
none row n k e = ap (λ (r : List Bool). get_or r k false) e ∙ none_of n k false

pub returns : goal.returns
returns c config same =
    search (arith, opens, none, c.in_ok-open.ensures, c.in_ok-open-2.ensures, c.in_ok-open-4.ensures, c.in_ok-open-6.ensures, c.in_ok-open-7.ensures, c.in_ok-open-8.ensures)
