-- The printed text of a finished run: a line for each call, five lines of summary, and a line for each hugepage.
use Rattle.std.specs.Prelude.{ℕ, ◌-◌, ◌*◌, ◌/◌, ◌^◌, ◌<◌, ◌==◌, Bool, true, false, List, [], ◌∷◌, ◌++◌, length, if◌then◌else◌, codes, decimal}
use Rattle.std.specs.List.{flat_map, enumerate_from}
use Rattle.tc_units.specs.Units.{page_bytes}
use Rattle.tc_units.specs.declared.rows.RowKind.{RowKind}
use Rattle.tc_units.specs.declared.rows.RowKind.TheVariants as kind
use Rattle.tc_units.specs.declared.rows.RowView.{RowView}
use Rattle.tc_model.specs.declared.calls.Call.{Call}
use Rattle.tc_model.specs.declared.calls.Call.TheVariants.{Malloc, Free, Release, Drain, Resize}
use Rattle.tc_model.specs.declared.answers.Answer.{Answer}
use Rattle.tc_model.specs.declared.answers.Answer.TheVariants.{Block, NoBlock, Freed, FreedNull, Released, Drained, Busy, CapSet, OverLimit, OverStatic}
use Rattle.tc_model.specs.declared.answers.CallLine.{CallLine}

-- words, each behind a space
abbrev pub spaced : List (List ℕ) → List ℕ
spaced words = flat_map (λ word. codes " " ++ word) words

-- a line: its first word, the others each behind a space, and a line feed
abbrev pub line_of : List ℕ → List (List ℕ) → List ℕ
line_of first others = first ++ spaced others ++ codes "\n"

-- the letter of a call's kind
abbrev pub letter_of : Call → List ℕ
letter_of (Malloc label size) = codes "a"
letter_of (Free label) = codes "f"
letter_of (Release pages) = codes "r"
letter_of (Drain cpu) = codes "d"
letter_of (Resize cpu class cap) = codes "z"

-- what a call names: its label, or its CPU, class and capacity
abbrev pub named_words : Call → List (List ℕ)
named_words (Malloc label size) = decimal label.0 ∷ []
named_words (Free label) = decimal label.0 ∷ []
named_words (Release pages) = []
named_words (Drain cpu) = decimal cpu.0 ∷ []
named_words (Resize cpu class cap) = decimal cpu.0 ∷ decimal class.0 ∷ decimal cap ∷ []

-- what a call answered
abbrev pub answer_words : Answer → List (List ℕ)
answer_words (Block addr len) = decimal addr.0 ∷ decimal len ∷ []
answer_words NoBlock = codes "none" ∷ []
answer_words (Freed addr) = decimal addr.0 ∷ []
answer_words FreedNull = codes "none" ∷ []
answer_words (Released pages) = decimal pages ∷ []
answer_words (Drained objects) = codes "ok" ∷ decimal objects ∷ []
answer_words (Busy owner) = codes "busy" ∷ decimal owner.0 ∷ []
answer_words CapSet = codes "ok" ∷ []
answer_words (OverLimit sum) = codes "overlimit" ∷ decimal sum ∷ []
answer_words (OverStatic cap) = codes "overstatic" ∷ decimal cap ∷ []

-- a call's line: its letter, its thread, what it names and what it answered
abbrev pub call_line : CallLine → List ℕ
call_line c = line_of (letter_of c.call) (decimal c.thread.0 ∷ named_words c.call ++ answer_words c.answer)

-- whether an answer is of a kind that this call can get
abbrev pub can_answer : Call → Answer → Bool
can_answer (Malloc label size) (Block addr len) = true
can_answer (Malloc label size) NoBlock = true
can_answer (Free label) (Freed addr) = true
can_answer (Free label) FreedNull = true
can_answer (Release pages) (Released unbacked) = true
can_answer (Drain cpu) (Drained objects) = true
can_answer (Drain cpu) (Busy owner) = true
can_answer (Resize cpu class cap) CapSet = true
can_answer (Resize cpu class cap) (Busy owner) = true
can_answer (Resize cpu class cap) (OverStatic most) = true
can_answer (Resize cpu class cap) (OverLimit sum) = true
can_answer call answer = false

-- each number that a line prints has 64 bits at most
abbrev pub IsSmall : ℕ → Type 0
IsSmall n = n < 2 ^ 64

abbrev pub NamesSmall : Call → Type 0
NamesSmall (Malloc label size) = IsSmall label.0
NamesSmall (Free label) = IsSmall label.0
NamesSmall (Release pages) = Unit {0}
NamesSmall (Drain cpu) = IsSmall cpu.0
NamesSmall (Resize cpu class cap) = IsSmall cpu.0 × IsSmall class.0 × IsSmall cap

abbrev pub AnswersSmall : Answer → Type 0
AnswersSmall (Block addr len) = IsSmall addr.0 × IsSmall len
AnswersSmall NoBlock = Unit {0}
AnswersSmall (Freed addr) = IsSmall addr.0
AnswersSmall FreedNull = Unit {0}
AnswersSmall (Released pages) = IsSmall pages
AnswersSmall (Drained objects) = IsSmall objects
AnswersSmall (Busy owner) = IsSmall owner.0
AnswersSmall CapSet = Unit {0}
AnswersSmall (OverLimit sum) = IsSmall sum
AnswersSmall (OverStatic cap) = IsSmall cap

pub record IsTellable (c : CallLine) : Type 0 where
  pub thread : IsSmall c.thread.0
  pub named : NamesSmall c.call
  pub answered : AnswersSmall c.answer

-- how much of the resident memory no live block uses, in thousandths, rounded down; 0 where none is resident
abbrev pub fragmentation : ℕ → ℕ → ℕ
fragmentation resident live_bytes =
    if resident == 0 then 0 else (resident * page_bytes - live_bytes) * 1000 / (resident * page_bytes)

-- the summary of a number of calls: live blocks and their bytes, pages of live runs, backed pages, fragmentation
abbrev pub summary_of : ℕ → ℕ → ℕ → ℕ → ℕ → List ℕ
summary_of calls live live_bytes used resident =
    line_of (codes "calls") (decimal calls ∷ [])
    ++ line_of (codes "live") (decimal live ∷ decimal live_bytes ∷ [])
    ++ line_of (codes "used") (decimal used ∷ [])
    ++ line_of (codes "resident") (decimal resident ∷ [])
    ++ line_of (codes "frag") (decimal (fragmentation resident live_bytes) ∷ [])

-- what a hugepage serves
abbrev pub kind_word : RowKind → List ℕ
kind_word kind.Free = codes "free"
kind_word kind.Filler = codes "filler"
kind_word kind.Run = codes "run"
kind_word kind.Region = codes "region"

-- its used pages, live runs, backed pages, longest free range, and 1 or 0 for the donated mark
abbrev pub measures : RowView → List (List ℕ)
measures row =
    decimal row.used ∷ decimal row.allocs ∷ decimal row.backed ∷ decimal row.longest ∷ decimal (if row.donated then 1 else 0) ∷ []

-- the line of the hugepage with a number
abbrev pub row_line : ℕ → RowView → List ℕ
row_line number row = line_of (codes "h") (decimal number ∷ kind_word row.kind ∷ measures row)

-- a line for each hugepage, which are numbered from 1
abbrev pub row_lines : List RowView → List ℕ
row_lines rows = flat_map (λ numbered. row_line numbered.0 numbered.1) (enumerate_from 1 rows)

-- the text of calls in the order in which they were decided, of what stands after them, and of the hugepages that are told
abbrev pub text_of : List CallLine → ℕ → ℕ → ℕ → ℕ → List RowView → List ℕ
text_of calls live live_bytes used resident rows =
    flat_map call_line calls ++ summary_of (length calls) live live_bytes used resident ++ row_lines rows
