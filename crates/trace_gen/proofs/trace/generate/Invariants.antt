use Rattle.std.proofs.Common.{◌≡◌, ◌≤◌}
use Rattle.std.specs.List.{flat_map}
use Rattle.trace_reader.specs.Steps.{IsReading}
use Rattle.trace_gen.specs.Generated.{state_at, lines_before}
use Rattle.trace_gen.specs.Said.{none_said, said_by, with_lines}
use Rattle.trace_gen.specs.TraceText.{line_text}
use Rattle.trace_gen.proofs.trace.generate.Given as goal

abbrev pub invariant-loop-i : goal.invariant-loop-i
invariant-loop-i l = record {
  text : l.draft.text.items ≡ flat_map line_text (lines_before l.fn.seed l.threads l.i);
  said : said_by l.draft ≡ with_lines none_said (lines_before l.fn.seed l.threads l.i);
  reading : IsReading l.draft.reader;
  state : l.generator ≡ state_at l.fn.seed l.i;
  labels : l.generator.next ≤ l.i;
}
