use Rattle.std.proofs.Common.{◌+◌, ap, arith}
use borrow.Author.Tests.{eqb-true}
use Rattle.part_lock.proofs.Asked.{takes_as, took}
use Rattle.part_lock.proofs.parts.Parts.try_take.Goals as goal

pub compare_exchange-requires : goal.compare_exchange-requires
compare_exchange-requires g c = rw (c.word_of.ensures) (
  c.requires.seat,
  omega (arith, c.args.self.now.sized),
  takes_as g.M.Machine.rules g.M.Machine.fits _ c.args.part.0 _ c.args.self.now.table.shared.key _ _ (g.met.M.Machine.sound c.args.self.now.table.shared.key.machine) c.requires.free c.requires.part,
)

pub returns-clause-took : goal.returns-clause-took
returns-clause-took g c = λ h. let same = eqb-true _ _ h in let bare = ap (λ m. m.1) c.requires.free.1 in
    took g.M.Machine.rules g.M.Machine.fits c.args.self.now.table.shared.table_id.slots c.args.part.0 _ (c.args.thread.0 + 1) _ _ same bare (rw (c.word_of.ensures) at c.compare_exchange.ensures.2)
