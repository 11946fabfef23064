use Rattle.std.proofs.Common.{arith}
use Rattle.std.proofs.lemmas.List.{length-set}
use Rattle.cpu_slab.proofs.SlabFacts.{row_sound, sound_stored, used_same}
use Rattle.cpu_slab.proofs.LaidOut.{no_marks, slots_low, read_row, slot_stored, laid_out, counted_is}
use Rattle.cpu_slab.proofs.slab.Slab.set_slot.Goals as goal

pub index_mut-requires : goal.index_mut-requires
index_mut-requires c =
    let s = c.self.inside in
    omega (arith, slots_low s.marks.items s.slots.items c.self.view_is c.self.invariant c.args.class.0 c.requires.class)

pub set-requires : goal.set-requires
set-requires c =
    let s = c.self.inside in
    let k = c.args.class.0 in
    let row = read_row s.marks.items s.slots.items c.self.view_is c.self.invariant k c.requires.class no_marks c.index_mut.result.now in
    grind (arith, row_sound c.args.self.now k, row)

pub returns-clause-stored : goal.returns-clause-stored
returns-clause-stored c =
    let s = c.self.inside in
    grind (arith, slot_stored s.marks.items s.slots.items c.self.view_is c.self.invariant)

pub invariant_of-self : goal.invariant_of-self
invariant_of-self c = grind (arith, used_same, counted_is, laid_out, returns-clause-stored, length-set, sound_stored)

pub returns-clause-sound : goal.returns-clause-sound
returns-clause-sound c = (invariant_of-self c).sound
