use Rattle.std.proofs.Common.{inl, ap, subst}
use Rattle.std.specs.Prelude.{option_map}
use Rattle.std.proofs.Common.{arith}
use Rattle.tc_ports.specs.Whole.{ReadAllCounted, ReadAllRefused, PassedLimit}
use Rattle.tcreplay.specs.Verdict.{and_then, asked_of_text, taken_by}
use Rattle.tcreplay.specs.Seen.{seen_front}
use Rattle.tcreplay.proofs.TraceFacts.{some_text_is, long_text, lost_passed}
use Rattle.tcreplay.proofs.input.load_trace.Goals as goal

pub returns-in-Err-ReadFault-clause-asked : goal.returns-in-Err-ReadFault-clause-asked
returns-in-Err-ReadFault-clause-asked g c =
    grind (arith, g.S.Source.seen c.args.source.now, some_text_is (g.S.Source.seen c.args.source.now).left, g.S.Source.seen c.read_all.new.source)

pub returns-in-Err-TooLong-clause-asked : goal.returns-in-Err-TooLong-clause-asked
returns-in-Err-TooLong-clause-asked g c =
    let passed : PassedLimit (g.S.Source.seen c.args.source.now).left (g.S.Source.seen c.read_all.new.source).left 67108864 = subst (λ f. ReadAllRefused f (g.S.Source.seen c.args.source.now).left (g.S.Source.seen c.read_all.new.source).left 67108864) c.in-Err-TooLong.field-0-is c.in-Err-TooLong.ensures.refused in
    let long = long_text (g.S.Source.seen c.args.source.now).left (g.S.Source.seen c.read_all.new.source).left 67108864 passed in
    record {
      text = long.0;
      told = long.1;
      step = inl (ap (and_then (λ text. and_then (taken_by (option_map seen_front c.args.runner)) (asked_of_text c.args.table.now text))) long.2, subst (λ f. ReadAllCounted f (g.S.Source.seen c.args.source.now).faults (g.S.Source.seen c.read_all.new.source).faults) c.in-Err-TooLong.field-0-is c.in-Err-TooLong.ensures.cause);
      lost = lost_passed (g.S.Source.seen c.args.source.now).left (g.S.Source.seen c.read_all.new.source).left 67108864 passed;
      reads = c.in-Err-TooLong.ensures.reads;
      drained = λ is. absurd (cc);
    }

pub returns-in-Err-Memory-clause-asked : goal.returns-in-Err-Memory-clause-asked
returns-in-Err-Memory-clause-asked g c =
    grind (arith, g.S.Source.seen c.args.source.now, some_text_is (g.S.Source.seen c.args.source.now).left, g.S.Source.seen c.read_all.new.source)
