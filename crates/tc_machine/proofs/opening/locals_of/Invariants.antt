use Rattle.std.proofs.Common.{◌≡◌, map, length}
use Rattle.std.specs.List.{range_with_len}
use Rattle.tc_machine.specs.Opening.{local_at}
use Rattle.tc_machine.proofs.opening.locals_of.Given as goal

abbrev pub invariant-loop-script : goal.invariant-loop-script
invariant-loop-script g l = l.locals.items ≡ map (local_at (g.F.FrontEnd.rules l.setting) g.F.FrontEnd.about l.fn.scripts.items) (range_with_len 0 (length l.yielded))
