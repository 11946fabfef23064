use Rattle.std.proofs.Common.{length, ◌-◌, sym, arith}
use Rattle.std.proofs.lemmas.Option.{get_or_from_slice_get}
use Rattle.merge_journal.proofs.Placed.{last_greatest}
use Rattle.merge_journal.proofs.threads.places_of.Goals as goal

pub returns-in-Some-clause-enough : goal.returns-in-Some-clause-enough
returns-in-Some-clause-enough c = λ e h.
    let xs = c.args.entries.now in let last = c.in-Some.last.now in
    let low = rw (get_or_from_slice_get xs (length xs - 1) last last (sym c.in-Some.ensures.value)) at (last_greatest xs last e c.requires.rises h) in
    omega arith

pub returns-in-Some-clause-least : goal.returns-in-Some-clause-least
returns-in-Some-clause-least c = λ most below. let low = below c.in-Some.last.now (length c.args.entries.now - 1, sym c.in-Some.ensures.value) in omega arith
