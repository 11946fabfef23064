use Rattle.std.proofs.Common.{subst, sym, arith}
use Rattle.tc_model.specs.declared.config.Head.TheVariants.{Huge}
use Rattle.heap_rules.specs.Sound.{AreLimits}
use Rattle.tc_machine.proofs.ValidFacts.{heap_heads_of}
use Rattle.tc_machine.proofs.opening.add_middle.Goals as goal

pub open-requires : goal.open-requires
open-requires g c = subst AreLimits (sym c.heap_limits.ensures) (heap_heads_of c.args.setting.now.config c.requires)

pub open-requires-2-clause-some : goal.open-requires-2-clause-some
open-requires-2-clause-some g c = omega (arith, (c.requires Huge).0)

pub open-requires-2-clause-few : goal.open-requires-2-clause-few
open-requires-2-clause-few g c = (c.requires Huge).1
