use Rattle.std.proofs.Common.{◌+◌, replicate, None, refl, sym, arith}
use Rattle.huge_filler.proofs.Common.{replicate_more, key_of}
use Rattle.huge_filler.proofs.Kept.{listed_next, kept_none}
use Rattle.huge_filler.proofs.filler.HugeFiller.open.Goals as goal

pub loop-place-preserved : goal.loop-place-preserved
loop-place-preserved c =
    let was = c.loop-place.invariant in
    let place = c.loop-place.place in
    record {
      keys = listed_next key_of (replicate place None) (replicate (place + 1) None) place c.loop-place.index.keys c.insert.new.self.keys _ refl (sym (replicate_more place None)) was.keys refl c.insert.ensures.keys;
      room = omega (arith, was.room, c.insert.ensures.spare);
    }

pub invariant_of-result : goal.invariant_of-result
invariant_of-result c =
    let rows = c.in_ok-open.field-0.rows in
    grind (arith, kept_none rows c.args.huge c.loop-place.index.keys c.requires)
