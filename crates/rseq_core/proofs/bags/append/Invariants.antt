use Rattle.std.proofs.Common.{◌≡◌, take}
use Rattle.rseq_core.specs.Bags.{appended}
use Rattle.rseq_core.proofs.bags.append.Given as goal

-- the objects so far are appended
abbrev pub invariant-loop-object : goal.invariant-loop-object
invariant-loop-object l = l.bag ≡ appended l.initial.bag (take l.object-index l.objects)
