-- An act is what its thread asks of the part.
use Rattle.std.proofs.Common.{arith}
use Rattle.call_steps.specs.Fronts.{FrontCalls}
use Rattle.node_rules.specs.NodeActs.{ActsAreAsked}

pub acts_are_asked : {V R : Type 0} (e : FrontCalls V R) → ActsAreAsked e
acts_are_asked e = record { shard = λ s l. grind arith; heap = λ h l. grind arith; map = λ m l. grind arith }
