use Rattle.std.proofs.Common.{◌≡◌, List, sym, subst, rules}
use Rattle.std.specs.Prelude.{All}
use Rattle.tc_units.specs.declared.units.Addr.{Addr}
use Rattle.central_free.specs.Central.{opening, IsTakenIn}
use Rattle.class_shard.proofs.tests.a_batch_of_128_from_one_page.Goals as goal

pub give-requires-clause-taken : goal.give-requires-clause-taken
give-requires-clause-taken g c =
    let came : c.as_slice-2.result.now ≡ opening c.span_at.result c.in_ok-shard.shard.central.row.size 128 = search rules in
    let P : List Addr → Type 0 = All (IsTakenIn c.add_fetch.new.self.central.spans) in
    subst P (sym came) c.in_ok-add_fetch.ensures.given
