use Rattle.std.proofs.Common.{◌≡◌, ◌++◌, ◌<◌, length, take, arith}
use Rattle.std.proofs.lemmas.Grind.{common_steps}
use Rattle.tc_ports.proofs.SoFar.{so_far-all, so_far-more}
use Rattle.tc_ports.proofs.whole.read_all.Goals as goal

pub returns-in-Ok-eq0-clause-whole : goal.returns-in-Ok-eq0-clause-whole
returns-in-Ok-eq0-clause-whole g c =
    let some : 0 < length c.read.new.buf = grind (arith, common_steps) in
    so_far-all _ _ _ c.loop-all.invariant.so_far (c.in-Ok-eq0.ensures.end c.in-Ok-eq0.field-0-test some)

pub loop-all-preserved : goal.loop-all-preserved
loop-all-preserved g c = record {
  so_far =
      let same : c.extend_from_slice.new.self.items ≡ c.loop-all.all.items ++ take c.in-Ok-2.n c.read.new.buf = grind (arith, common_steps) in
      rw same (so_far-more _ _ _ _ _ _ c.in-Ok-2.ensures.within c.loop-all.invariant.so_far c.in-Ok-2.ensures.given);
  reads = grind (arith, common_steps);
  within = grind (arith, common_steps);
  count = grind (arith, common_steps);
}
