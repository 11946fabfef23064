use Rattle.std.proofs.Common.{◌≡◌, ℕ, Bool, List, get_or, Some, None, sym, ◌∙◌}
use Rattle.std.specs.Prelude.{find}
use Rattle.std.specs.List.{position}
use Rattle.std.proofs.lemmas.Option.{cond_some, slice_get_past, slice_get-get_or}
use Rattle.std.proofs.lemmas.List.Folds.{find_at}
use Rattle.std.proofs.lemmas.Bool.Decides.{nat_tests}
use Rattle.std.proofs.Common.{arith}
use Rattle.tc_units.specs.Classes.{serves}
use Rattle.journal_audit.proofs.place.row_of.Goals as goal

-- where no place passes, none is found
none_at : {X : Type 0} (p : X → Bool) (xs : List X) → None ≡ position p xs → find p xs ≡ None
none_at p xs none = grind (arith, nat_tests, find_at, slice_get_past)

-- and the one at the first place that does is found
some_at : {X : Type 0} (p : X → Bool) (xs : List X) (k : ℕ) (d : X) → Some k ≡ position p xs → Some (get_or xs k d) ≡ find p xs
some_at p xs k d is = grind (arith, nat_tests, cond_some, slice_get-get_or, find_at)

pub returns-in_err-class : goal.returns-in_err-class
returns-in_err-class c = c.from_residual.ensures ∙ sym (none_at (serves c.args.size) c.args.rows.now c.in_err-class.ensures)

pub returns : goal.returns
returns c = some_at (serves c.args.size) c.args.rows.now c.in_ok-class.class _ c.in_ok-class.ensures
