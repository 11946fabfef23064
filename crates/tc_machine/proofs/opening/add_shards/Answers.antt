use Rattle.std.proofs.Common.{◌≡◌, length, take, ap, arith}
use Rattle.std.proofs.lemmas.List.{length-take}
use Rattle.class_shard.specs.Shard.{Shard}
use Rattle.alloc_rules.specs.declared.part.Part.TheVariants as part
use Rattle.tc_machine.proofs.OpeningFacts.{shard_more}
use Rattle.tc_machine.proofs.opening.add_shards.Goals as goal

pub loop-class-preserved : goal.loop-class-preserved
loop-class-preserved g c =
    let rows = c.args.setting.now.table in
    let n = c.loop-class.class in
    let count : length (take n rows) ≡ n = omega (arith, length-take n rows, c.loop-class-test.true, ap length c.rows-classes.ensures.value) in
    shard_more c.args.setting.now.config.transfer rows c.row-row.result c.args.parts.now.items c.loop-class.parts.items c.push.new.self.items n (part.Shard c.in_ok-shard.shard) c.row-row.ensures.value count c.loop-class.invariant (ap (λ (x : Shard). part.Shard x) c.in_ok-shard.ensures.empty) c.in_ok-push.ensures.items
