-- What a trace asks for, line by line, or its first bad line with the first rule that it fails.
use Rattle.std.specs.Prelude.{ℕ, ◌+◌, Bool, true, false, ◌&&◌, not, nat_le, nat_lt, min, List, [], ◌∷◌, ◌++◌, drop, replicate, slice_set, find, is_none, Option, Some, None, Result, Ok, Err, option_map, option_and_then}
use Rattle.std.specs.List.{slice_index_or}
use Rattle.std.specs.Option.{option_map_or}
use Rattle.tc_model.specs.declared.calls.Call.{Call}
use Rattle.tc_model.specs.declared.calls.Call.TheVariants as call
use Rattle.tc_model.specs.declared.calls.MoveTo.{MoveTo}
use Rattle.tc_model.specs.Limits.{most_threads}
use Rattle.tc_model.specs.Heads.{with_limit, default_config}
use Rattle.tc_model.specs.Input.{ThreadCall, Asked}
use Rattle.trace_text.specs.Lines.{lines_of}
use Rattle.trace_reader.specs.Limits.{most_lines, most_classes}
use Rattle.trace_reader.specs.declared.why.LineWhy.{LineWhy}
use Rattle.trace_reader.specs.declared.why.LineWhy.TheVariants as why
use Rattle.trace_reader.specs.declared.word.Word.{Word}
use Rattle.trace_reader.specs.declared.form.Form.{Form}
use Rattle.trace_reader.specs.declared.form.Form.TheVariants.{Head, Malloc, Free, Move, Release, Drain, Resize}
use Rattle.trace_reader.specs.Words.{word_of, is_head}
use Rattle.trace_reader.specs.Form.{has_fields, form_of}
use Rattle.trace_reader.specs.Labels.{is_allocated, is_freed}

-- what the lines so far say: what they ask for, whether one of them is no head, and each thread's pending move
pub record SoFar : Type 0 where
  pub asked : Asked
  pub late : Bool
  pub moves : List (Option MoveTo)

-- before the first line
abbrev pub nothing : SoFar
nothing = record { asked = record { config = default_config; calls = [] }; late = false; moves = replicate most_threads None }

-- a line: how many size classes there are, what the lines before it say, its number, and its fields
pub record Line : Type 0 where
  pub classes : ℕ
  pub before : SoFar
  pub number : ℕ
  pub fields : List (List ℕ)

-- what a line's first field names
abbrev pub first_word : List (List ℕ) → Option Word
first_word [] = None
first_word (field ∷ fields) = word_of field

-- what a line says, where its first field is a word and the fields behind it are that word's
abbrev pub line_form : List (List ℕ) → Option Form
line_form fields = option_and_then (λ word. form_of word (drop 1 fields)) (first_word fields)

-- the thread, the CPU and the class that a form names
abbrev pub thread_of : Form → Option ℕ
thread_of (Head head value) = None
thread_of (Malloc thread label size) = Some thread
thread_of (Free thread label) = Some thread
thread_of (Move thread before cpu) = Some thread
thread_of (Release thread pages) = Some thread
thread_of (Drain thread cpu) = Some thread
thread_of (Resize thread cpu class cap) = Some thread

abbrev pub cpu_of : Form → Option ℕ
cpu_of (Move thread before cpu) = Some cpu
cpu_of (Drain thread cpu) = Some cpu
cpu_of (Resize thread cpu class cap) = Some cpu
cpu_of form = None

abbrev pub class_of : Form → Option ℕ
class_of (Resize thread cpu class cap) = Some class
class_of form = None

-- whether there is a value that passes a test
abbrev pub is_some_and : {A : Type 0} → (A → Bool) → Option A → Bool
is_some_and test value = option_map_or test value false

-- whether a form names a thread, a CPU or a class that isn't there; a class number is at most 255
abbrev pub lacks_thread : Asked → Form → Bool
lacks_thread asked form = is_some_and (nat_le asked.config.threads) (thread_of form)

abbrev pub lacks_cpu : Asked → Form → Bool
lacks_cpu asked form = is_some_and (nat_le asked.config.cpus) (cpu_of form)

abbrev pub lacks_class : ℕ → Form → Bool
lacks_class classes form = is_some_and (nat_le (min classes most_classes)) (class_of form)

-- whether a form allocates under a label that an earlier allocation has, frees a label that no earlier allocation has,
-- and frees a label that an earlier free has
abbrev pub label_used : List ThreadCall → Form → Bool
label_used calls (Malloc thread label size) = is_allocated label calls
label_used calls form = false

abbrev pub label_unknown : List ThreadCall → Form → Bool
label_unknown calls (Free thread label) = not (is_allocated label calls)
label_unknown calls form = false

abbrev pub label_freed : List ThreadCall → Form → Bool
label_freed calls (Free thread label) = is_freed label calls
label_freed calls form = false

-- a rule on lines: what is wrong with a line that fails it, and which lines fail it
pub record Rule (L Why : Type 0) : Type 0 where
  pub why : Why
  pub fails : L → Bool

-- the rules, in the order in which they are tested
abbrev pub rules : List (Rule Line LineWhy)
rules =
    record { why = why.Lines; fails = λ line. nat_lt most_lines line.number }
    ∷ record { why = why.Word; fails = λ line. is_none (first_word line.fields) }
    ∷ record { why = why.HeadLate; fails = λ line. line.before.late && is_some_and is_head (first_word line.fields) }
    ∷ record { why = why.Fields; fails = λ line. is_some_and (λ word. not (has_fields word (drop 1 line.fields))) (first_word line.fields) }
    ∷ record { why = why.Number; fails = λ line. is_none (line_form line.fields) }
    ∷ record { why = why.Thread; fails = λ line. is_some_and (lacks_thread line.before.asked) (line_form line.fields) }
    ∷ record { why = why.Cpu; fails = λ line. is_some_and (lacks_cpu line.before.asked) (line_form line.fields) }
    ∷ record { why = why.Class; fails = λ line. is_some_and (lacks_class line.classes) (line_form line.fields) }
    ∷ record { why = why.LabelUsed; fails = λ line. is_some_and (label_used line.before.asked.calls) (line_form line.fields) }
    ∷ record { why = why.LabelUnknown; fails = λ line. is_some_and (label_unknown line.before.asked.calls) (line_form line.fields) }
    ∷ record { why = why.LabelFreed; fails = λ line. is_some_and (label_freed line.before.asked.calls) (line_form line.fields) }
    ∷ []

-- the verdict on a line by such rules: the first that it fails
abbrev pub verdict : {L Why : Type 0} → List (Rule L Why) → L → Option Why
verdict rules line = option_map (λ rule. rule.why) (find (λ rule. rule.fails line) rules)

-- what the lines say with a call more, which takes the thread's pending move
abbrev pub with_call : ℕ → ℕ → Call → SoFar → SoFar
with_call number thread call before = record {
  asked = record { config = before.asked.config; calls = before.asked.calls ++ record { thread = record { 0 = thread }; planned = record { line = number; call = call; moved = slice_index_or before.moves thread None } } ∷ [] };
  late = true;
  moves = slice_set before.moves thread None;
}

-- what the lines say with one more, of this number and form; a later move of a thread replaces an earlier one
abbrev pub with_form : ℕ → Form → SoFar → SoFar
with_form number (Head head value) before = record { asked = record { config = with_limit head value before.asked.config; calls = before.asked.calls }; late = before.late; moves = before.moves }
with_form number (Malloc thread label size) before = with_call number thread (call.Malloc (record { 0 = label }) size) before
with_form number (Free thread label) before = with_call number thread (call.Free (record { 0 = label })) before
with_form number (Move thread instruction cpu) before = record { asked = before.asked; late = true; moves = slice_set before.moves thread (Some (record { before = instruction; cpu = record { 0 = cpu } })) }
with_form number (Release thread pages) before = with_call number thread (call.Release pages) before
with_form number (Drain thread cpu) before = with_call number thread (call.Drain (record { 0 = cpu })) before
with_form number (Resize thread cpu class cap) before = with_call number thread (call.Resize (record { 0 = cpu }) (record { 0 = class }) cap) before

-- one line, by the verdict on it
abbrev pub read_line : Line → Result SoFar LineWhy
read_line line =
    option_map_or Err (verdict rules line)
    (Ok (option_map_or (λ form. with_form line.number form line.before) (line_form line.fields) line.before))

-- the first bad line, with the first rule that it fails
pub record BadLine (Why : Type 0) : Type 0 where
  pub line : ℕ
  pub why : Why

-- what comes behind a line of this number: a bad one is the last
abbrev pub and_then : {After Answer Why : Type 0} → ℕ → Result After Why → (After → Result Answer (BadLine Why)) → Result Answer (BadLine Why)
and_then number (Ok after) more = more after
and_then number (Err why) more = Err (record { line = number; why = why })

-- the lines from a number on, one after another
abbrev pub read_lines : ℕ → SoFar → ℕ → List (List (List ℕ)) → Result Asked (BadLine LineWhy)
read_lines classes before number [] = Ok before.asked
read_lines classes before number (fields ∷ lines) =
    and_then number (read_line (record { classes = classes; before = before; number = number; fields = fields }))
    (λ after. read_lines classes after (number + 1) lines)

-- what the text of a trace asks for, where there are so many size classes
abbrev pub asked_by : ℕ → List ℕ → Result Asked (BadLine LineWhy)
asked_by classes text = read_lines classes nothing 1 (lines_of text)
