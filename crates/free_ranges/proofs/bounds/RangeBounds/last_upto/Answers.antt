use Rattle.std.proofs.Common.{sym, subst}
use Rattle.free_ranges.specs.Bounds.{Bounds, Tells}
use Rattle.free_ranges.proofs.Bounded.{told_last, told_none, told_stop}
use Rattle.free_ranges.proofs.bounds.RangeBounds.last_upto.Goals as goal

pub returns-in_err-start-clause-none : goal.returns-in_err-start-clause-none
returns-in_err-start-clause-none c row tells none = told_none row _ (subst (λ (b : Bounds). Tells row b) (sym c.self.view_is) tells) c.args.place c.in_err-start.ensures

pub returns-in_err-stop-clause-none : goal.returns-in_err-stop-clause-none
returns-in_err-stop-clause-none c row tells none =
    absurd (told_stop row _ (subst (λ (b : Bounds). Tells row b) (sym c.self.view_is) tells) c.args.place c.in_ok-start.start c.in_ok-start.ensures c.in_err-stop.ensures)

pub returns-clause-found : goal.returns-clause-found
returns-clause-found c row tells =
    told_last row _ (subst (λ (b : Bounds). Tells row b) (sym c.self.view_is) tells) c.args.place c.in_ok-start.start c.in_ok-stop.stop c.in_ok-start.ensures c.in_ok-stop.ensures
