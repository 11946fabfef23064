-- The rules of a journal, one by one, and the first line that fails with its first failing rule.
use Rattle.std.specs.Prelude.{ℕ, ◌+◌, ◌*◌, Bool, true, false, ◌==◌, ◌&&◌, not, nat_lt, nat_le, if◌then◌else◌, codes}
use Rattle.std.specs.Prelude.{List, [], ◌∷◌, ◌++◌, length, map, filter, slice_get, Option, Some, None, option_map, Result, Ok, Err}
use Rattle.std.specs.Option.{option_and_then, option_map_or}
use Rattle.std.specs.List.{list_any, before_first, range_with_len}
use Rattle.trace_text.specs.Lines.{lines_of}
use Rattle.std.specs.Str.{bytes_eq}
use Rattle.tc_units.specs.Units.{huge_bytes}
use Rattle.tc_units.specs.Classes.{length_of}
use Rattle.tc_units.specs.declared.spans.ClassRow.{ClassRow}
use Rattle.tc_model.specs.declared.calls.Call.{Call}
use Rattle.tc_model.specs.declared.calls.Call.TheVariants.{Malloc, Free}
use Rattle.tc_model.specs.declared.calls.Planned.{Planned}
use Rattle.tc_model.specs.declared.calls.Script.{Script}
use Rattle.tc_model.specs.declared.answers.Answer.{Answer}
use Rattle.tc_model.specs.declared.answers.Answer.TheVariants.{Block, NoBlock, Freed, FreedNull}
use Rattle.tc_model.specs.declared.answers.CallLine.{CallLine}
use Rattle.tc_model.specs.Blocks.{Extent, meets, blocks_after, answer_to, freed_in}
use Rattle.journal_audit.specs.declared.told.Told.{Told}
use Rattle.journal_audit.specs.declared.verdict.AuditWhy.{AuditWhy}
use Rattle.journal_audit.specs.declared.verdict.AuditWhy.TheVariants as why
use Rattle.journal_audit.specs.declared.verdict.Verdict.{Verdict}
use Rattle.journal_audit.specs.declared.verdict.Verdict.TheVariants.{Yes, No}
use Rattle.journal_audit.specs.Forms.{told_by, names, answer_of}

-- whether a line begins with the word `calls`: the lines of calls are those before the first such one
abbrev pub ends : List (List ℕ) → Bool
ends [] = false
ends (field ∷ fields) = bytes_eq field (codes "calls")

-- what each line of calls says, where it has the form of one
abbrev pub forms_in : List (List (List ℕ)) → List (Option Told)
forms_in lines = map told_by (before_first ends lines)

abbrev pub journal_of : List ℕ → List (Option Told)
journal_of text = forms_in (lines_of text)

-- what a journal is judged by: the hugepages of the arena, the rows of the class table, and each thread's script
pub record Plan : Type 0 where
  pub huge : ℕ
  pub rows : List ClassRow
  pub scripts : List Script

abbrev pub plan_of : ℕ → List ClassRow → List Script → Plan
plan_of huge rows scripts = record { huge = huge; rows = rows; scripts = scripts }

-- a thread's script, how many of some calls are the thread's, and the thread's next call behind these
abbrev pub script_at : List Script → ℕ → List Planned
script_at scripts thread = option_map_or (λ (s : Script). s.calls) (slice_get scripts thread) []

abbrev pub is_by : ℕ → CallLine → Bool
is_by thread c = c.thread.0 == thread

abbrev pub count_of : ℕ → List CallLine → ℕ
count_of thread calls = length (filter (is_by thread) calls)

abbrev pub next_call : List Script → List CallLine → ℕ → Option Call
next_call scripts earlier thread = option_map (λ (p : Planned). p.call) (slice_get (script_at scripts thread) (count_of thread earlier))

-- the answered call that a line tells: its thread's next one, where the line names that
abbrev pub line_of : Told → Call → CallLine
line_of told call = record { thread = record { 0 = told.thread }; call = call; answer = answer_of told.act }

abbrev pub call_told : List Script → List CallLine → Told → Option CallLine
call_told scripts earlier told =
    option_and_then (λ call. if names told.act call then Some (line_of told call) else None) (next_call scripts earlier told.thread)

-- whether a block has the rounded length of its request, lies in the arena, and meets a live one
abbrev pub has_length : List ClassRow → Call → Answer → Bool
has_length rows (Malloc label size) (Block addr len) = len == length_of rows size
has_length rows call answer = true

abbrev pub lies_in : ℕ → ℕ → ℕ → Bool
lies_in huge addr len = nat_lt 0 len && (nat_le huge_bytes addr && nat_le (addr + len) (huge_bytes * (huge + 1)))

abbrev pub is_in_arena : ℕ → Answer → Bool
is_in_arena huge (Block addr len) = lies_in huge addr.0 len
is_in_arena huge answer = true

abbrev pub overlaps : List Extent → Answer → Bool
overlaps blocks (Block addr len) = list_any (meets (record { addr = addr.0; len = len })) blocks
overlaps blocks answer = false

-- whether a free names the answer of an earlier line with its label, a null as a null, which no earlier line freed
abbrev pub gave : Option Answer → Answer → Bool
gave (Some (Block given len)) (Freed addr) = given.0 == addr.0
gave (Some NoBlock) FreedNull = true
gave given answer = false

abbrev pub frees_own : List CallLine → Call → Answer → Bool
frees_own earlier (Free label) (Freed addr) = not (freed_in label.0 earlier) && gave (answer_to label.0 earlier) (Freed addr)
frees_own earlier (Free label) FreedNull = not (freed_in label.0 earlier) && gave (answer_to label.0 earlier) FreedNull
frees_own earlier call answer = true

-- the first rule on an answered call that it fails, behind the calls before it
abbrev pub broken : Plan → List CallLine → Call → Answer → Option AuditWhy
broken plan earlier call answer =
    if not (has_length plan.rows call answer) then Some why.Length
    else (if not (is_in_arena plan.huge answer) then Some why.Arena
    else (if overlaps (blocks_after earlier) answer then Some why.Overlap
    else (if not (frees_own earlier call answer) then Some why.Address else None)))

-- the answered call that a line tells, or the first rule that the line fails
abbrev pub judged_call : Plan → List CallLine → Option CallLine → Result CallLine AuditWhy
judged_call plan earlier None = Err why.Order
judged_call plan earlier (Some c) = option_map_or Err (broken plan earlier c.call c.answer) (Ok c)

abbrev pub judged : Plan → List CallLine → Option Told → Result CallLine AuditWhy
judged plan earlier form =
    if nat_lt 1000000 (length earlier + 1) then Err why.Lines
    else option_map_or (λ told. judged_call plan earlier (call_told plan.scripts earlier told)) form (Err why.Form)

-- whether some script has a call left behind these
abbrev pub has_left : List Script → List CallLine → Bool
has_left scripts calls = list_any (λ thread. nat_lt (count_of thread calls) (length (script_at scripts thread))) (range_with_len 0 (length scripts))

-- the verdict where no line is left
abbrev pub at_end : List Script → List CallLine → Verdict
at_end scripts calls = if has_left scripts calls then No (length calls + 1) why.Missing else Yes (length calls)

-- the verdict on the lines that are left, behind the calls that the lines before them told
abbrev pub and_then : ℕ → Result CallLine AuditWhy → (CallLine → Verdict) → Verdict
and_then line (Ok c) more = more c
and_then line (Err reason) more = No line reason

abbrev pub audited : Plan → List CallLine → List (Option Told) → Verdict
audited plan earlier [] = at_end plan.scripts earlier
audited plan earlier (form ∷ forms) = and_then (length earlier + 1) (judged plan earlier form) (λ c. audited plan (earlier ++ c ∷ []) forms)
