use Rattle.std.proofs.Common.{◌≡◌, ◌++◌, map}
use Rattle.alloc_rules.specs.declared.part.Part.TheVariants as part
use Rattle.tc_machine.proofs.opening.add_fronts.Given as goal

abbrev pub invariant-loop-front : goal.invariant-loop-front
invariant-loop-front g l = l.parts.items ≡ l.fn.parts.items ++ map part.Front l.yielded
