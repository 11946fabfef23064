use Rattle.std.proofs.Common.{arith}
use Rattle.cpu_slab.proofs.LaidOut.{no_marks, slots_low, read_row}
use Rattle.cpu_slab.proofs.slab.Slab.slot.Goals as goal

pub index-requires : goal.index-requires
index-requires c =
    let s = c.self.inside in
    omega (arith, slots_low s.marks.items s.slots.items c.self.view_is c.self.invariant c.args.class.0 c.requires.class)

pub returns : goal.returns
returns c =
    let s = c.self.inside in
    grind (arith, read_row s.marks.items s.slots.items c.self.view_is c.self.invariant c.args.class.0 c.requires.class no_marks c.index.result.now)
