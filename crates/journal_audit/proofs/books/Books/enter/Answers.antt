use Rattle.std.proofs.Common.{ap, arith}
use Rattle.std.specs.Prelude.{length, slice_index}
use Rattle.journal_audit.proofs.Passing.{is_told}
use Rattle.journal_audit.proofs.Entering.{counts, entered}
use Rattle.journal_audit.proofs.books.Books.enter.Goals as goal

pub note-requires-clause-named : goal.note-requires-clause-named
note-requires-clause-named c = (is_told c.requires.plan c.requires.calls c.args.entry.told c.args.entry.call c.requires.judged_ok).names_it

pub count-requires-clause-there : goal.count-requires-clause-there
count-requires-clause-there c =
    let r = c.requires in
    let n =
    counts r.plan r.calls c.args.entry.told c.args.entry.call c.args.self.now r.are (is_told r.plan r.calls c.args.entry.told c.args.entry.call r.judged_ok) in
    omega (arith, n.there, ap (λ v. length v.items) c.in_ok-note.ensures.done)

pub count-requires-clause-fits : goal.count-requires-clause-fits
count-requires-clause-fits c =
    let r = c.requires in
    let n =
    counts r.plan r.calls c.args.entry.told c.args.entry.call c.args.self.now r.are (is_told r.plan r.calls c.args.entry.told c.args.entry.call r.judged_ok) in
    omega (arith, n.few, ap (λ v. slice_index v.items c.args.entry.told.thread) c.in_ok-note.ensures.done)

pub returns : goal.returns
returns c plan calls are is =
    let kept = c.in_ok-note.ensures in
    let told = is_told plan calls c.args.entry.told c.args.entry.call is in
    entered plan calls c.args.entry.told c.args.entry.call c.args.self.now _ c.count.new.self are told kept.calls kept.done kept.live kept.label c.count.ensures.calls c.count.ensures.done
