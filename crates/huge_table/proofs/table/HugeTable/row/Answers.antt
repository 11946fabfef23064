use Rattle.std.proofs.Common.{◌≡◌, ℕ, Bool, true, false, not, refl, sym, ap, ◌∙◌, arith}
use Rattle.huge_table.proofs.Common.{false≢true, Hugepage, hugepage, backed_count, row_of, is_shared, is_run, nat_tests}
use Rattle.huge_table.proofs.Steps.{at-heap}
use Rattle.huge_table.proofs.Measures.{run_row_is, same_view}
use Rattle.huge_table.proofs.table.HugeTable.row.Goals as goal

pub returns-then-is_run : goal.returns-then-is_run
returns-then-is_run c heap sound means = grind (arith, nat_tests, run_row_is, at-heap)

pub returns : goal.returns
returns c heap sound means =
    let h : ℕ = c.args.huge.0 in
    let x_is = at-heap c.args.self.now heap means h in
    let shared = unnot (is_shared (hugepage heap h)) (sym (ap is_run x_is) ∙ sym c.is_run.ensures ∙ c.if-is_run.false) in
    same_view _ (row_of heap h) (c.kind.ensures.heap heap means) (c.used.ensures heap means shared) (c.allocs.ensures heap sound means shared)
    (c.backed_pages.ensures ∙ ap backed_count x_is) (c.longest.ensures heap means shared) (c.is_donated.ensures ∙ ap (λ (x : Hugepage). x.donated) x_is)
  where
    unnot : (b : Bool) → not b ≡ false → b ≡ true
    unnot true e = refl
    unnot false e = absurd (false≢true (sym e))
