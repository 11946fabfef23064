use Rattle.std.proofs.Common.{◌≡◌, ◌++◌, map, take}
use Rattle.alloc_rules.specs.declared.part.Part.TheVariants as part
use Rattle.alloc_rules.specs.Machine.{first_shards}
use Rattle.tc_machine.proofs.opening.add_shards.Given as goal

abbrev pub invariant-loop-class : goal.invariant-loop-class
invariant-loop-class g l = l.parts.items ≡ l.fn.parts.items ++ map part.Shard (first_shards l.setting.config.transfer 0 (take l.class l.setting.table))
