use Rattle.std.proofs.Common.{arith}
use Rattle.cpu_slab.proofs.LaidOut.{marks_low, read_marks}
use Rattle.cpu_slab.proofs.slab.Slab.marks_at.Goals as goal

pub index-requires : goal.index-requires
index-requires c =
    let s = c.self.inside in
    omega (arith, marks_low s.marks.items s.slots.items c.self.view_is c.self.invariant c.args.k c.requires)

pub returns-clause-marks : goal.returns-clause-marks
returns-clause-marks c =
    let s = c.self.inside in
    read_marks s.marks.items s.slots.items c.self.view_is c.self.invariant c.args.k c.requires c.index.result.now c.index.ensures
