use Rattle.std.proofs.Common.{arith}
use Rattle.cpu_slab.proofs.SlabFacts.{sound_cap}
use Rattle.cpu_slab.proofs.LaidOut.{marks_low, cap_set, laid_out_marks}
use Rattle.cpu_slab.proofs.slab.Slab.put_cap.Goals as goal

pub index_mut-requires : goal.index_mut-requires
index_mut-requires c =
    let s = c.self.inside in
    omega (arith, marks_low s.marks.items s.slots.items c.self.view_is c.self.invariant c.args.k c.requires.class)

pub returns-clause-cap : goal.returns-clause-cap
returns-clause-cap c =
    let s = c.self.inside in
    cap_set s.marks.items s.slots.items c.self.view_is c.self.invariant c.args.k c.requires.class c.args.n c.index_mut.result.now c.index_mut.ensures.value

pub invariant_of-self : goal.invariant_of-self
invariant_of-self c =
    let s = c.self.inside in
    let old = c.counted_with-self-inside.ensures in
    let sound = sound_cap c.args.self.now c.args.k c.args.n c.requires.class c.requires.above c.requires.below c.requires.budget old.sound in
    laid_out_marks s.marks.items s.slots.items c.self.view_is c.self.invariant c.args.k _ (returns-clause-cap c) old.sum sound

pub returns-clause-sound : goal.returns-clause-sound
returns-clause-sound c = (invariant_of-self c).sound
