use Rattle.std.proofs.Common.{◌≡◌, List, sym, subst, rules}
use Rattle.std.specs.Prelude.{All}
use Rattle.tc_units.specs.declared.units.Addr.{Addr}
use Rattle.central_free.specs.Central.{opening, IsTakenIn}
use Rattle.central_free.proofs.central.tests.a_span_whose_objects_are_all_back_leaves.Goals as goal

pub put-requires-clause-taken : goal.put-requires-clause-taken
put-requires-clause-taken g c =
    let came : c.as_slice.result.now ≡ opening c.span_at-span.result c.new-central.result.row.size 3 = search rules in
    let P : List Addr → Type 0 = All (IsTakenIn c.add_take.new.self.spans) in
    subst P (sym came) c.in_ok-came.ensures.given
