use Rattle.std.proofs.Common.{◌≡◌, map, take}
use Rattle.tc_machine.specs.Telling.{first_mark}
use Rattle.tc_machine.proofs.telling.first_marks.Given as goal

abbrev pub invariant-loop-teller : goal.invariant-loop-teller
invariant-loop-teller g l = l.marks.items ≡ map (λ t. first_mark (g.T.Teller.answers t)) (take l.teller-index l.tellers)
