use Rattle.cpu_slab.proofs.Victims.{victim_more, victim_same}
use Rattle.cpu_slab.proofs.LaidOut.{no_marks}
use Rattle.cpu_slab.proofs.marks.victim.Goals as goal
use Rattle.cpu_slab.proofs.marks.victim.Goals.{then-i-class, else-i-class}
use Rattle.std.proofs.Common.{◌∙◌}

pub loop-i-preserved : goal.loop-i-preserved
loop-i-preserved c =
    elim c.if-i-class.branch [
      | then-i-class w ↦ victim_more c.loop-i.best c.if-i-class.best _ c.args.class c.loop-i.i w.unused-bytes.result c.args.marks.now no_marks c.loop-i-test.true w.if-i-class.true w.unused-bytes.ensures (w.best-is ∙ w.preferred.ensures) c.loop-i.invariant
      | else-i-class w ↦ victim_same c.loop-i.best c.if-i-class.best _ c.args.class c.loop-i.i c.args.marks.now c.loop-i-test.true w.if-i-class.false w.best-is c.loop-i.invariant
    ]
