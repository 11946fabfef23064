use Rattle.std.proofs.Common.{◌≡◌, ◌-◌, ◌*◌, map, drop}
use Rattle.cpu_slab.specs.Growth.{preferred, victim}
use Rattle.cpu_slab.proofs.marks.victim.Given as goal

-- the victim of all is that of those seen so far and of those that are left
abbrev pub invariant-loop-i : goal.invariant-loop-i
invariant-loop-i l = preferred l.best (victim l.class l.i (drop l.i (map (λ m. (m.cap - m.top) * m.size) l.marks))) ≡ victim l.class 0 (map (λ m. (m.cap - m.top) * m.size) l.marks)
