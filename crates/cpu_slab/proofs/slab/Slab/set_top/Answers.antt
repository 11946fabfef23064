use Rattle.std.proofs.Common.{◌∙◌, arith, refl, subst, sym}
use Rattle.cpu_slab.specs.Slots.{row_at}
use Rattle.cpu_slab.specs.Sound.{IsSoundSlab}
use Rattle.cpu_slab.proofs.SlabFacts.{sound_top, used_same}
use Rattle.cpu_slab.proofs.LaidOut.{marks_low, top_set, laid_out_marks, counted_is}
use Rattle.cpu_slab.proofs.slab.Slab.set_top.Goals as goal

pub index_mut-requires : goal.index_mut-requires
index_mut-requires c =
    let s = c.self.inside in
    omega (arith, marks_low s.marks.items s.slots.items c.self.view_is c.self.invariant c.args.class.0 c.requires.class)

pub returns-clause-top : goal.returns-clause-top
returns-clause-top c =
    let s = c.self.inside in
    let k = c.args.class.0 in
    top_set s.marks.items s.slots.items c.self.view_is c.self.invariant k c.requires.class c.args.n c.index_mut.result.now c.index_mut.ensures.value

pub invariant_of-self : goal.invariant_of-self
invariant_of-self c =
    let s = c.self.inside in
    let k = c.args.class.0 in
    let old : IsSoundSlab c.args.self.now = subst IsSoundSlab c.self.view_is c.self.invariant.sound in
    let same = used_same c.args.self.now.rows k (record (row_at c.args.self.now k) { top = c.args.n }) c.requires.class refl refl in
    let counted = counted_is s.marks.items s.slots.items c.self.view_is c.self.invariant ∙ sym same in
    let sound = sound_top c.args.self.now k c.args.n c.requires.class c.requires.within old in
    laid_out_marks s.marks.items s.slots.items c.self.view_is c.self.invariant k _ (returns-clause-top c) counted sound

pub returns-clause-sound : goal.returns-clause-sound
returns-clause-sound c = (invariant_of-self c).sound
