-- What an audit comes to: a trace and then a journal are read, and the journal is judged by the trace. `yes` and the number
-- of its calls are printed, or the first line that fails ends the work.
use Rattle.std.specs.Prelude.{◌≡◌, ℕ, ◌≤◌, ◌++◌, true, List, [], length, Some, None, Result, Ok, Err, codes, decimal}
use Rattle.tc_units.specs.declared.spans.ClassRow.{ClassRow}
use Rattle.tc_model.specs.Input.{Input, Asked, scripts_of}
use Rattle.tc_ports.specs.Told.{Took}
use Rattle.tc_ports.specs.Ends.{Reading, Shelving, Writing}
use Rattle.tc_machine.specs.Inputs.{input_of}
use Rattle.journal_audit.specs.declared.verdict.AuditWhy.{AuditWhy}
use Rattle.journal_audit.specs.declared.verdict.Verdict as journal
use Rattle.journal_audit.specs.declared.verdict.Verdict.TheVariants.{Yes, No}
use Rattle.journal_audit.specs.Rules.{Plan, plan_of, journal_of, audited}
use Rattle.journal_audit.specs.Legal.{IsLegal, IsYesOnLegal}
use Rattle.tcreplay.specs.declared.outcome.End.{End}
use Rattle.tcreplay.specs.declared.outcome.End.TheVariants.{Done, AuditNo}
use Rattle.tcreplay.specs.declared.input.AuditJob.{AuditJob}
use Rattle.tcreplay.specs.Tasks.{Audit}
use Rattle.tcreplay.specs.Verdict.{Given, Verdict, and_then, read_of, refused, file_within, trace_limit}
use Rattle.tcreplay.specs.Reads.{AreTold, CutOff, HasRead, is_behind_run}
use Rattle.tcreplay.specs.Writes.{IsWritten, IsAnswer}

-- what is judged, and by what: the bytes of a journal, by the class table and what the trace asks for
pub record Case : Type 0 where
  pub input : Input
  pub journal : List ℕ

abbrev pub seen_case : AuditJob → Case
seen_case job = record { input = input_of job.table job.trace; journal = job.journal.items }

abbrev pub case_with : Given → List ClassRow → Asked → Result Case End
case_with given rows asked =
    and_then (λ journal. Ok (record { input = record { rows = rows; asked = asked }; journal = journal })) (file_within trace_limit given.file)

abbrev pub case_in : Given → Result Case End
case_in = read_of None case_with

-- the arena, the class table and the threads' scripts, by which a journal is judged
abbrev pub plan_in : Input → Plan
plan_in input = plan_of input.asked.config.huge input.rows (scripts_of input.asked)

abbrev pub verdict_in : Case → journal.Verdict
verdict_in case = audited (plan_in case.input) [] (journal_of case.journal)

-- a legal journal is told with the number of its calls; else the first line that fails is, with the first rule that it fails
abbrev pub yes_line : ℕ → List ℕ
yes_line calls = codes "yes " ++ decimal calls ++ codes "\n"

abbrev pub ended_by : journal.Verdict → Verdict
ended_by (Yes calls) = record { end = Done; order = []; text = yes_line calls }
ended_by (No line why) = refused (AuditNo line why)

abbrev pub case_verdict : Result Case End → Verdict
case_verdict (Err end) = refused end
case_verdict (Ok case) = ended_by (verdict_in case)

abbrev pub audit_verdict : Given → Verdict
audit_verdict given = case_verdict (case_in given)

-- the verdict on a journal is Yes exactly where that is legal and has no more lines of calls than a trace may have calls
abbrev pub IsJudgedRight : Case → Type 0
IsJudgedRight case = IsYesOnLegal (plan_in case.input) (journal_of case.journal) (verdict_in case)

-- What is printed says how many calls a journal tells that is legal.
pub record IsAuditHeadline (given : Given) (before after : Writing) : Type 0 where
  pub case : Case
  pub asked : case_in given ≡ Ok case
  pub calls : ℕ
  pub legal : IsLegal (plan_in case.input) (journal_of case.journal)
  pub count : length (journal_of case.journal) ≡ calls
  pub text : Took before.taken after.taken (yes_line calls)

-- What is told of a journal is the first line that fails, and then it isn't legal, or it has too many lines.
pub record IsAuditRefusal (given : Given) (line : ℕ) (why : AuditWhy) : Type 0 where
  pub case : Case
  pub asked : case_in given ≡ Ok case
  pub verdict : verdict_in case ≡ No line why
  pub illegal : length (journal_of case.journal) ≤ 1000000 → IsLegal (plan_in case.input) (journal_of case.journal) → ⊥

-- An audit was tried, with its trace, its files and its output before and after. It has no order.
pub record HasAudited (audit : Audit) (t u : Reading) (f g : Shelving) (before after : Writing) (end : End) (order : List ℕ) : Type 0 where
  pub given : Given
  pub told : AreTold audit.classes (Some audit.journal) f.files t.left given
  pub answer : IsAnswer (audit_verdict given) (CutOff None given t u f g end) end order
  pub no_order : order ≡ []
  pub read : HasRead None (Some audit.journal) given t u f g end
  pub out : IsWritten end (audit_verdict given).text before after
  pub law : is_behind_run end ≡ true → (case : Case) → case_in given ≡ Ok case → IsJudgedRight case
  pub headline : end ≡ Done → IsAuditHeadline given before after
  pub refusal : (line : ℕ) (why : AuditWhy) → end ≡ AuditNo line why → IsAuditRefusal given line why
