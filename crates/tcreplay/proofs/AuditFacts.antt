-- What an audit comes to, from what its steps come to.
use Rattle.std.proofs.Common.{◌≡◌, ℕ, List, [], length, Option, Some, None, Result, Ok, Err, refl, sym, ap, subst, ◌∙◌}
use Rattle.std.specs.Prelude.{IsErrAnd, IfOk, Vec}
use Rattle.std.specs.declared.alloc.AllocError.{AllocError}
use Rattle.std.specs.Global.{Global}
use Rattle.std.proofs.Common.{arith}
use Rattle.tc_units.specs.declared.spans.ClassRow.{ClassRow}
use Rattle.tc_model.specs.Input.{Asked, scripts_of}
use Rattle.tc_model.specs.declared.calls.Script.{Script}
use Rattle.tc_ports.specs.Told.{Took}
use Rattle.tc_ports.specs.Ends.{Reading, Shelving, Writing}
use Rattle.trace_reader.specs.declared.trace.Trace.{Trace}
use Rattle.tc_machine.specs.Inputs.{IsRead, asked_of, input_of}
use Rattle.journal_audit.specs.declared.verdict.AuditWhy.{AuditWhy}
use Rattle.journal_audit.specs.declared.verdict.Verdict as journal
use Rattle.journal_audit.specs.declared.verdict.Verdict.TheVariants.{Yes, No}
use Rattle.journal_audit.specs.Rules.{plan_of, journal_of, audited}
use Rattle.journal_audit.specs.Legal.{IsYesOnLegal}
use Rattle.tcreplay.specs.declared.outcome.End.{End}
use Rattle.tcreplay.specs.declared.outcome.End.TheVariants.{Done, AuditNo}
use Rattle.tcreplay.specs.declared.input.AuditJob.{AuditJob}
use Rattle.tcreplay.specs.Tasks.{Audit}
use Rattle.tcreplay.specs.Verdict.{Verdict, rows_in, file_within, trace_limit}
use Rattle.tcreplay.specs.Reads.{IsLoad, IsTraceRead, AreRead, CutOff, is_behind_run}
use Rattle.tcreplay.specs.Writes.{IsWritten, IsLastEnd, IsAnswer}
use Rattle.tcreplay.specs.Auditing.{Case, seen_case, case_with, case_in, plan_in, verdict_in, yes_line, ended_by, case_verdict, audit_verdict, IsJudgedRight, IsAuditHeadline, IsAuditRefusal, HasAudited}
use Rattle.tcreplay.proofs.EndFacts.{case_fails}
use Rattle.tcreplay.proofs.JobFacts.{IsEarly, not_run, cut_early, table_err, trace_err, read_with, file_err}
use Rattle.tcreplay.proofs.TriedFacts.{read_for, not_later}

-- Reading: the journal is the further file.
case_early : IsEarly None case_with
case_early given end is = case_fails is_behind_run given end not_run is

abbrev items_of : Vec ℕ Global → List ℕ
items_of v = v.items

abbrev journal_in : ℕ → Option (List ℕ) → Result (List ℕ) End
journal_in threads file = file_within trace_limit file

abbrev case_made : List ClassRow → Asked → List ℕ → Case
case_made rows asked journal = record { input = record { rows = rows; asked = asked }; journal = journal }

abbrev pub IsCaseRead : Audit → Reading → Reading → Shelving → Shelving → Result AuditJob End → Type 0
IsCaseRead audit t u f g result = AreRead None seen_case case_in audit.classes (Some audit.journal) t u f g result

module _ (audit : Audit) where
  pub case_table : (t : Reading) (f g : Shelving) (end : End) (result : Result AuditJob End) → IsErrAnd result (λ e. e ≡ end)
      → IsLoad (λ (rows : List ClassRow). rows) rows_in audit.classes f g (Err end) → IsCaseRead audit t t f g result
  case_table = table_err None case_with case_early seen_case audit.classes (Some audit.journal)

  pub case_trace : (t u : Reading) (f g : Shelving) (rows : List ClassRow) (end : End) (result : Result AuditJob End) → IsErrAnd result (λ e. e ≡ end)
      → IsLoad (λ (rows : List ClassRow). rows) rows_in audit.classes f g (Ok rows) → IsTraceRead None rows t u (Err end) → IsCaseRead audit t u f g result
  case_trace = trace_err None case_with case_early seen_case audit.classes (Some audit.journal)

  pub case_journal : (t u : Reading) (f g h : Shelving) (rows : List ClassRow) (trace : Trace) (end : End) (result : Result AuditJob End)
      → IsErrAnd result (λ e. e ≡ end) → IsLoad (λ (rows : List ClassRow). rows) rows_in audit.classes f g (Ok rows) → IsTraceRead None rows t u (Ok trace)
      → IsLoad items_of (file_within trace_limit) audit.journal g h (Err end) → IsCaseRead audit t u f h result
  case_journal = file_err None case_with case_early seen_case audit.classes (Some audit.journal) items_of journal_in case_made audit.journal refl (λ given rows asked. refl)

  pub case_ok : (t u : Reading) (f g h : Shelving) (rows : List ClassRow) (trace : Trace) (journal : Vec ℕ Global)
      → IsLoad (λ (rows : List ClassRow). rows) rows_in audit.classes f g (Ok rows) → IsTraceRead None rows t u (Ok trace)
      → IsLoad items_of (file_within trace_limit) audit.journal g h (Ok journal)
      → IsCaseRead audit t u f h (Ok (record { table = rows; trace = trace; journal = journal }))
  case_ok t u f g h rows trace journal = read_with None case_with case_early seen_case audit.classes (Some audit.journal) items_of journal_in case_made audit.journal refl (λ given rows asked. refl) t u f g h rows trace journal (record { table = rows; trace = trace; journal = journal }) refl

-- Judging: the scripts of a trace that was read are those that it asks for.
pub scripts_are : (classes : ℕ) (trace : Trace) → IsRead classes trace (asked_of trace) → scripts_of (asked_of trace) ≡ trace.scripts
scripts_are classes trace read = sym (ap (λ (t : Trace). t.scripts) read.is)

pub verdict_is : (job : AuditJob) → IsRead (length job.table) job.trace (asked_of job.trace)
    → audited (plan_of job.trace.config.huge job.table job.trace.scripts) [] (journal_of job.journal.items) ≡ verdict_in (seen_case job)
verdict_is job read = ap (λ scripts. audited (plan_of job.trace.config.huge job.table scripts) [] (journal_of job.journal.items)) (sym (scripts_are (length job.table) job.trace read))

pub judged_right : (job : AuditJob) (verdict : journal.Verdict) → IsRead (length job.table) job.trace (asked_of job.trace)
    → verdict ≡ audited (plan_of job.trace.config.huge job.table job.trace.scripts) [] (journal_of job.journal.items)
    → IsYesOnLegal (plan_of job.trace.config.huge job.table job.trace.scripts) (journal_of job.journal.items) verdict → IsJudgedRight (seen_case job)
judged_right job verdict read is right =
    subst (IsYesOnLegal (plan_in (input_of job.table job.trace)) (journal_of job.journal.items)) (is ∙ verdict_is job read)
    (subst (λ scripts. IsYesOnLegal (plan_of job.trace.config.huge job.table scripts) (journal_of job.journal.items) verdict) (sym (scripts_are (length job.table) job.trace read)) right)

pub right_of : (job : AuditJob) (rows : List ClassRow) (scripts : List Script) (bytes : List ℕ) (result : Result journal.Verdict AllocError)
    → rows ≡ job.table → scripts ≡ job.trace.scripts → bytes ≡ job.journal.items → IsRead (length job.table) job.trace (asked_of job.trace)
    → IfOk result (λ verdict. verdict ≡ audited (plan_of job.trace.config.huge rows scripts) [] (journal_of bytes)) → IfOk result (IsYesOnLegal (plan_of job.trace.config.huge rows scripts) (journal_of bytes)) → IfOk result (λ _. IsJudgedRight (seen_case job))
right_of job rows scripts bytes (Err e) table told text read is right = tt
right_of job rows scripts bytes (Ok verdict) table told text read is right =
    let huge : ℕ = job.trace.config.huge in
    let plan : plan_of huge rows scripts ≡ plan_of huge job.table job.trace.scripts = ap (λ r. plan_of huge r scripts) table ∙ ap (plan_of huge job.table) told in
    let same : audited (plan_of huge rows scripts) [] (journal_of bytes) ≡ audited (plan_of huge job.table job.trace.scripts) [] (journal_of job.journal.items) =
    ap (λ p. audited p [] (journal_of bytes)) plan ∙ ap (λ b. audited (plan_of huge job.table job.trace.scripts) [] (journal_of b)) text in
    judged_right job verdict read (is ∙ same) (subst (λ p. IsYesOnLegal p (journal_of job.journal.items) verdict) plan (subst (λ b. IsYesOnLegal (plan_of huge rows scripts) (journal_of b) verdict) text right))

-- The work ended with the reading, or memory ran out behind it.
module _ (audit : Audit) (t u : Reading) (f g : Shelving) (out : Writing) where
  stopped : (end : End) (order : List ℕ) → order ≡ [] → IsCaseRead audit t u f g (Err end) → HasAudited audit t u f g out out end order
  stopped end order none read = grind (arith, case_fails, not_run, cut_early, not_later)

-- The journal was judged.
module _ (audit : Audit) (t u : Reading) (f g : Shelving) (before after : Writing) (job : AuditJob) (verdict : journal.Verdict) (read : IsCaseRead audit t u f g (Ok job)) (is : verdict ≡ verdict_in (seen_case job)) (right : IsJudgedRight (seen_case job)) where
  abbrev case : Case
  case = seen_case job

  the_verdict : audit_verdict read.given ≡ ended_by verdict
  the_verdict = ap case_verdict read.answer ∙ ap ended_by (sym is)

  answered : (end : End) (order : List ℕ) → order ≡ [] → IsLastEnd (ended_by verdict).end end → IsAnswer (audit_verdict read.given) (CutOff None read.given t u f g end) end order
  answered end order none last = grind (arith, the_verdict)

  -- the end of a verdict that is Yes, or of one that is No
  legal_at : (calls : ℕ) → verdict ≡ Yes calls → Took before.taken after.taken (yes_line calls) → IsAuditHeadline read.given before after
  legal_at calls yes_ text =
      let legal = (right calls).0 (sym is ∙ yes_) in
      record { case = case; asked = read.answer; calls = calls; legal = legal.0; count = legal.1; text = text }

  refused_at : (line : ℕ) (why : AuditWhy) → verdict ≡ No line why → IsAuditRefusal read.given line why
  refused_at line why no_ =
      let here : verdict_in case ≡ No line why = sym is ∙ no_ in
      record {
        case = case;
        asked = read.answer;
        verdict = here;
        illegal = λ few legal. let there : verdict_in case ≡ Yes (length (journal_of case.journal)) = (right (length (journal_of case.journal))).1 (legal, refl, few) in
            let e : No line why ≡ Yes (length (journal_of case.journal)) = sym here ∙ there in cc;
      }

  took_at : (calls : ℕ) (end : End) → end ≡ Done → IsWritten end (yes_line calls) before after → Took before.taken after.taken (yes_line calls)
  took_at calls end done written = (subst (λ e. IsWritten e (yes_line calls) before after) done written).taken

  done_by : (v : journal.Verdict) → verdict ≡ v → (end : End) → IsLastEnd (ended_by v).end end → IsWritten end (ended_by v).text before after → end ≡ Done → IsAuditHeadline read.given before after
  done_by v e end last written done = grind (arith, legal_at, took_at)

  no_by : (v : journal.Verdict) → verdict ≡ v → (end : End) → IsLastEnd (ended_by v).end end → (line : ℕ) (why : AuditWhy) → end ≡ AuditNo line why → IsAuditRefusal read.given line why
  no_by v e end x3 line why told = grind (arith, refused_at)

  -- of the one case that was given
  right_for : (other : Case) → case_in read.given ≡ Ok other → IsJudgedRight other
  right_for other is_other =
      let e : case ≡ other = cc in
      subst IsJudgedRight e right

  judged_to : (end : End) (order : List ℕ) → order ≡ [] → IsLastEnd (ended_by verdict).end end → IsWritten end (ended_by verdict).text before after → HasAudited audit t u f g before after end order
  judged_to end order none last written = record {
    given = read.given;
    told = read.told;
    answer = answered end order none last;
    no_order = none;
    read = read_for None (Some audit.journal) read.given t u f g end read.read;
    out = subst (λ (v : Verdict). IsWritten end v.text before after) (sym the_verdict) written;
    law = λ _. right_for;
    headline = done_by verdict refl end last written;
    refusal = no_by verdict refl end last;
  }

  pub audited_judged : (end answered : End) (order : List ℕ) → answered ≡ end → order ≡ [] → IsLastEnd (ended_by verdict).end end
      → IsWritten end (ended_by verdict).text before after → HasAudited audit t u f g before after answered order
  audited_judged end answered order same none last written = subst (λ e. HasAudited audit t u f g before after e order) (sym same) (judged_to end order none last written)
