use Rattle.std.proofs.Common.{List, ◌-◌, ◌*◌, ap, map, ◌∙◌}
use Rattle.cpu_slab.specs.declared.marks.ClassMarks.{ClassMarks}
use Rattle.cpu_slab.specs.Growth.{victim}
use Rattle.cpu_slab.proofs.LaidOut.{read_unused}
use Rattle.cpu_slab.proofs.slab.Slab.victim.Goals as goal

pub returns : goal.returns
returns c =
    let s = c.self.inside in
    c.victim.ensures ∙ ap (λ (ms : List ClassMarks). victim c.args.k 0 (map (λ (m : ClassMarks). (m.cap - m.top) * m.size) ms)) c.deref.ensures.value
    ∙ ap (victim c.args.k 0) (read_unused s.marks.items s.slots.items c.self.view_is c.self.invariant)
