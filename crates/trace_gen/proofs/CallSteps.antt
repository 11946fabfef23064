-- One more call of a generated trace.
use Rattle.std.proofs.Common.{◌≡◌, ℕ, ◌+◌, ◌≤◌, List, [], ◌∷◌, ◌++◌, arith, add-one}
use Rattle.std.proofs.lemmas.List.Concat.{flat_map-append}
use Rattle.std.proofs.lemmas.List.Sums.{fold-append}
use Rattle.std.specs.List.{flat_map}
use Rattle.trace_reader.specs.declared.form.Form.{Form}
use Rattle.trace_gen.specs.Generated.{State, next_kind, at_call, after_call, lines_of, state_at, lines_before}
use Rattle.trace_gen.specs.Said.{Said, none_said, with_line, with_lines, AreGood}
use Rattle.trace_gen.specs.TraceText.{line_text}

-- a text that gains a call's lines has the lines of one call more
pub more_text : (before after : List ℕ) (seed threads i : ℕ) (s : State) → s ≡ state_at seed i
    → before ≡ flat_map line_text (lines_before seed threads i) → after ≡ before ++ flat_map line_text (lines_of threads i s)
    → after ≡ flat_map line_text (lines_before seed threads (i + 1))
more_text before after seed threads i s at was now = grind (arith, add-one, flat_map-append)

-- and it says what they say
pub more_said : (before after : Said) (seed threads i : ℕ) (s : State) → s ≡ state_at seed i → before ≡ with_lines none_said (lines_before seed threads i)
    → after ≡ with_lines before (lines_of threads i s) → after ≡ with_lines none_said (lines_before seed threads (i + 1))
more_said before after seed threads i s at was now = grind (arith, add-one, fold-append)

-- the state behind a call is the one before the next
pub more_state : (seed i : ℕ) (s t : State) → s ≡ state_at seed i → t ≡ after_call (next_kind s) (at_call i s) → t ≡ state_at seed (i + 1)
more_state seed i s t at now = grind (arith)

-- so no more labels are taken than calls are made
pub more_labels : (i : ℕ) (s t : State) → s.next ≤ i → t ≡ after_call (next_kind s) (at_call i s) → t.next ≤ i + 1
more_labels i s t few now = grind (arith)

-- good lines behind good lines
pub AreGood-append : (said : Said) (xs ys : List Form) → AreGood said xs → AreGood (with_lines said xs) ys → AreGood said (xs ++ ys)
AreGood-append said [] ys xs_good ys_good = ys_good
AreGood-append said (x ∷ xs) ys xs_good ys_good = (xs_good.0, AreGood-append (with_line said x) xs ys xs_good.1 ys_good)
