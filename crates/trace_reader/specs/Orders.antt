-- What an order file asks for, line by line, or its first bad line with the first rule that it fails.
use Rattle.std.specs.Prelude.{ℕ, ◌≡◌, ◌+◌, Bool, true, false, not, nat_le, nat_lt, List, [], ◌∷◌, ◌++◌, length, replicate, is_none, Option, None, Result, Ok, Err, if◌then◌else◌, option_map, option_and_then}
use Rattle.std.specs.Option.{option_map_or, ok_or}
use Rattle.trace_text.specs.Lines.{lines_of}
use Rattle.tc_model.specs.Limits.{most_picks}
use Rattle.trace_reader.specs.Limits.{most_lines, most_turns}
use Rattle.trace_reader.specs.declared.why.OrderWhy.{OrderWhy}
use Rattle.trace_reader.specs.declared.why.OrderWhy.TheVariants as why
use Rattle.trace_reader.specs.declared.why.OrderFault.{OrderFault}
use Rattle.trace_reader.specs.declared.why.OrderFault.TheVariants as fault
use Rattle.trace_reader.specs.declared.turn.Turns.{Turns}
use Rattle.trace_reader.specs.Words.{place, from_to}
use Rattle.trace_reader.specs.Form.{number_in}
use Rattle.trace_reader.specs.Reading.{Rule, verdict, is_some_and, BadLine, and_then}

-- how often a thread is picked in a line: `T`, once, or `T N`
abbrev pub line_turns : List (List ℕ) → Option Turns
line_turns (thread ∷ []) = option_map (λ t. record { thread = t; picks = 1 }) (number_in place thread)
line_turns (thread ∷ picks ∷ []) =
    option_and_then (λ t. option_map (λ n. record { thread = t; picks = n }) (number_in (from_to 1 most_turns) picks)) (number_in place thread)
line_turns fields = None

-- whether a line has one field or two
abbrev pub has_turn_fields : List (List ℕ) → Bool
has_turn_fields (thread ∷ []) = true
has_turn_fields (thread ∷ picks ∷ []) = true
has_turn_fields fields = false

-- the two rules on the fields of a line, in their order
abbrev pub read_turn_fields : List (List ℕ) → Result Turns OrderWhy
read_turn_fields fields = if has_turn_fields fields then ok_or (line_turns fields) why.Number else Err why.Fields

-- a line: how many threads there are, the picks of the lines before it, its number, and its fields
pub record OrderLine : Type 0 where
  pub threads : ℕ
  pub before : List ℕ
  pub number : ℕ
  pub fields : List (List ℕ)

-- the rules, in the order in which they are tested
abbrev pub order_rules : List (Rule OrderLine OrderWhy)
order_rules =
    record { why = why.Lines; fails = λ line. nat_lt most_lines line.number }
    ∷ record { why = why.Fields; fails = λ line. not (has_turn_fields line.fields) }
    ∷ record { why = why.Number; fails = λ line. is_none (line_turns line.fields) }
    ∷ record { why = why.Thread; fails = λ line. is_some_and (λ turns. nat_le line.threads turns.thread) (line_turns line.fields) }
    ∷ record { why = why.Picks; fails = λ line. is_some_and (λ turns. nat_lt most_picks (length line.before + turns.picks)) (line_turns line.fields) }
    ∷ []

-- the picks with those of a line
abbrev pub with_order_line : OrderLine → List ℕ
with_order_line line = option_map_or (λ turns. line.before ++ replicate turns.picks turns.thread) (line_turns line.fields) line.before

-- one line
abbrev pub read_order_line : OrderLine → Result (List ℕ) OrderWhy
read_order_line line = option_map_or Err (verdict order_rules line) (Ok (with_order_line line))

-- the lines from a number on, one after another
abbrev pub read_order_lines : ℕ → List ℕ → ℕ → List (List (List ℕ)) → Result (List ℕ) (BadLine OrderWhy)
read_order_lines threads before number [] = Ok before
read_order_lines threads before number (fields ∷ lines) =
    and_then number (read_order_line (record { threads = threads; before = before; number = number; fields = fields }))
    (λ after. read_order_lines threads after (number + 1) lines)

-- the threads that are picked, in the order of their picks, by the text of an order file for so many threads
abbrev pub picks_by : ℕ → List ℕ → Result (List ℕ) (BadLine OrderWhy)
picks_by threads text = read_order_lines threads [] 1 (lines_of text)

-- a fault is want of memory, or the first bad line with the first rule that it fails
abbrev pub IsOrderFault : ℕ → List ℕ → OrderFault → Type 0
IsOrderFault threads text fault.Memory = Unit {0}
IsOrderFault threads text (fault.BadLine line why) = picks_by threads text ≡ Err (record { line = line; why = why })
