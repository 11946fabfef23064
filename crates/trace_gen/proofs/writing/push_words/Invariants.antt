use Rattle.std.proofs.Common.{◌≡◌, ◌+◌, ◌*◌, ◌≤◌, ◌++◌, drop, length}
use Rattle.std.specs.Prelude.{codes, decimal}
use Rattle.std.specs.List.{flat_map}
use Rattle.trace_gen.proofs.writing.push_words.Given as goal

-- the numbers from a place on are written, and there is room for the others
abbrev pub invariant-loop-place : goal.invariant-loop-place
invariant-loop-place l = record {
  written : drop l.end l.line ≡ flat_map (λ n. codes " " ++ decimal n) (drop l.place l.numbers) ++ codes "\n";
  room : length l.word + 21 * l.place ≤ l.end;
  within : l.end ≤ 95;
}
