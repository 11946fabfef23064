-- What a try at a replay comes to, from what its steps come to.
use Rattle.std.proofs.Common.{◌≡◌, ℕ, true, false, List, [], Option, Some, None, Result, Ok, Err, sym, ap, subst, ◌∙◌, inl, inr, arith}
use Rattle.tc_units.specs.declared.spans.ClassRow.{ClassRow}
use Rattle.tc_model.specs.Input.{Asked}
use Rattle.tc_ports.specs.Told.{Took}
use Rattle.tc_ports.specs.Ends.{Reading, Shelving, Writing}
use Rattle.tcreplay.specs.declared.outcome.End.{End}
use Rattle.tcreplay.specs.declared.outcome.End.TheVariants.{Done}
use Rattle.tcreplay.specs.declared.input.Job.{Job}
use Rattle.tcreplay.specs.declared.run.Ran.{Ran}
use Rattle.tcreplay.specs.declared.run.Telling.{Telling}
use Rattle.tcreplay.specs.declared.run.Telling.TheVariants.{Whole}
use Rattle.tcreplay.specs.declared.task.Locks.{Locks}
use Rattle.tcreplay.specs.Machines.{Machine, machine_of, locks_for}
use Rattle.tcreplay.specs.Tasks.{Front, Replay, Schedule, file_of, locks_in}
use Rattle.tcreplay.specs.Verdict as verdict
use Rattle.tcreplay.specs.Verdict.{Given, Verdict, and_then, rows_in, asked_in, job_with, run_verdict, order_by, job_of}
use Rattle.tcreplay.specs.Reads.{IsMadeOf, HaveCome, AreGiven, CutOff, HasRead, IsJobRead, is_behind_run, seen_job}
use Rattle.tcreplay.specs.Ran.{seen_ran, IsRan, IsRanByThreads}
use Rattle.tcreplay.specs.Writes.{IsWritten, IsLastEnd, IsAnswer}
use Rattle.tcreplay.specs.Order.{IsCompleted, IsOrderOf}
use Rattle.tcreplay.specs.Replayed.{IsHeadline, HasTried, verdict_on}
use Rattle.tcreplay.proofs.EndFacts.{job_fails}
use Rattle.tcreplay.proofs.JobFacts.{not_run, cut_early, gone_for}
use Rattle.tcreplay.proofs.RunFacts.{completed_is}
use Rattle.tcreplay.proofs.RanFacts.{made_by, order_is, lawful, text_is, have_all_ended, told_scripts, told_blocks, legal_journal, its_run}

-- what was read without a refusal was read for any end
pub read_for : (runner : Option Front) (file : Option (List ℕ)) (given : Given) (t u : Reading) (f g : Shelving) (end : End)
    → HasRead runner file given t u f g Done → HasRead runner file given t u f g end
read_for runner file given t u f g end read = grind (arith, gone_for)

-- before a run nothing is written
pub untouched : (end : End) (text : List ℕ) (out : Writing) → is_behind_run end ≡ false → IsWritten end text out out
untouched end text out early = grind (arith)

pub not_later : (end : End) → is_behind_run end ≡ false → is_behind_run end ≡ true → ⊥
not_later end early later = let e : false ≡ true = sym early ∙ later in cc

-- before a run no picks came
none_came : (front : Front) (schedule : Schedule) (job : Result verdict.Job End) (came : List ℕ) → came ≡ [] → HaveCome (machine_of front) schedule job came
none_came front schedule job came none = grind (arith)

-- what was read is what a replay was given, of which no thread has run
given_to : (replay : Replay) (t u : Reading) (f g : Shelving) (result : Result Job End) (read : IsJobRead replay t u f g result) → AreGiven replay f.files t.left read.given
given_to replay t u f g result read = record { told = read.told; came = none_came replay.front replay.schedule (job_of replay read.given) read.given.came read.none_came }

-- the reading ended the work
pub tried_stopped : (replay : Replay) (t u : Reading) (f g : Shelving) (out : Writing) (end : End) (order : List ℕ) → order ≡ []
    → IsJobRead replay t u f g (Err end) → HasTried replay t u f g out out end order
tried_stopped replay t u f g out end order none read =
    let early : is_behind_run end ≡ false =
    grind (arith, job_fails is_behind_run replay read.given end not_run, not_run, cut_early (Some replay.front) read.given t u f g end) in
    grind (arith, given_to replay t u f g (Err end) read, untouched end (verdict_on replay read.given).text out early, not_later end early)

-- the same of what is answered then
pub tried_at : (replay : Replay) (t u : Reading) (f g : Shelving) (out : Writing) (end answered : End) (order : List ℕ) → answered ≡ end → order ≡ []
    → IsJobRead replay t u f g (Err end) → HasTried replay t u f g out out answered order
tried_at replay t u f g out end answered order same none read = subst (λ e. HasTried replay t u f g out out e order) (sym same) (tried_stopped replay t u f g out end order none read)

-- the text of a run that has ended was taken
took : (end : End) (text : List ℕ) (before after : Writing) → end ≡ Done → IsWritten end text before after → Took before.taken after.taken text
took end text before after done written = (subst (λ e. IsWritten e text before after) done written).taken

module _ (replay : Replay) (given : Given) (t u : Reading) (f g : Shelving) (before after : Writing) (job : verdict.Job) (ran : Ran) (end : End) (order : List ℕ)
    (told : AreGiven replay f.files t.left given) (asked : job_of replay given ≡ Ok job) (read : HasRead (Some replay.front) (file_of replay.schedule) given t u f g Done) (is : IsRan (machine_of replay.front) (Whole replay.rows replay.sample) job.input (order_by (machine_of replay.front).rules job) ran) (made : IsCompleted (machine_of replay.front) replay.schedule job (order_by (machine_of replay.front).rules job))
    (last : IsLastEnd ran.end end) (same : order ≡ ran.order.items) (written : IsWritten end ran.text.items before after) where
  verdict_is : verdict_on replay given ≡ seen_ran ran
  verdict_is = ap (run_verdict (machine_of replay.front) (Whole replay.rows replay.sample)) asked ∙ sym is.is

  answered : IsLastEnd ran.end end → IsAnswer (verdict_on replay given) (CutOff (Some replay.front) given t u f g end) end order
  answered (inl e) = inl (e ∙ sym (ap (λ (v : Verdict). v.end) verdict_is), same ∙ sym (ap (λ (v : Verdict). v.order) verdict_is))
  answered (inr failed) = inr (inr (failed.0, same ∙ sym (ap (λ (v : Verdict). v.order) verdict_is), ap (λ (v : Verdict). v.end) verdict_is ∙ failed.1))

  abbrev telling : Telling
  telling = Whole replay.rows replay.sample

  headline : end ≡ Done → IsHeadline (machine_of replay.front) replay given before after order
  headline done = record {
    job = job;
    asked = asked;
    order_is = order_is (machine_of replay.front) telling job ran end order is last same;
    ended = have_all_ended (machine_of replay.front) telling job ran end order is last same done;
    told = told_scripts (machine_of replay.front) telling job ran end order is last same done;
    text = subst (Took before.taken after.taken) (text_is (machine_of replay.front) telling job ran end order is last same done) (took end ran.text.items before after done written);
    blocks = told_blocks (machine_of replay.front) telling job ran end order is last same done;
    journal = legal_journal (machine_of replay.front) telling job ran end order is last same done;
    law = lawful (machine_of replay.front) telling job ran end order is last same;
  }

  -- of the one job that was given
  of_job : (p : verdict.Job → Type 0) → p job → (other : verdict.Job) → job_of replay given ≡ Ok other → p other
  of_job p holds other is_other = grind (arith)

  -- the run was made
  pub tried_by : HasTried replay t u f g before after end order
  tried_by = record {
    given = given;
    told = told;
    answer = answered last;
    read = read_for (Some replay.front) (file_of replay.schedule) given t u f g end read;
    out = subst (λ (v : Verdict). IsWritten end v.text before after) (sym verdict_is) written;
    law = λ _. of_job (λ (j : verdict.Job). (machine_of replay.front).lawful j.input order) (lawful (machine_of replay.front) telling job ran end order is last same);
    run = λ _. of_job (λ (j : verdict.Job). IsOrderOf (machine_of replay.front) replay.schedule j end order) (its_run (machine_of replay.front) telling job ran end order is last same replay.schedule made);
    headline = headline;
  }

-- without worker threads
alone_is : (m : Machine) (schedule : Schedule) (job : verdict.Job) (order : List ℕ) → locks_in schedule ≡ None → IsCompleted m schedule job order
alone_is m schedule job order alone = grind (arith)

pub tried_ran : (replay : Replay) (t u : Reading) (f g : Shelving) (before after : Writing) (job : Job) (ran : Ran) (end : End) (order : List ℕ)
    → locks_in replay.schedule ≡ None → IsJobRead replay t u f g (Ok job)
    → IsRan (machine_of replay.front) (Whole replay.rows replay.sample) (seen_job job).input (order_by (machine_of replay.front).rules (seen_job job)) ran → IsLastEnd ran.end end
    → order ≡ ran.order.items → IsWritten end ran.text.items before after → HasTried replay t u f g before after end order
tried_ran replay t u f g before after job ran end order alone read is last same written = tried_by replay read.given t u f g before after (seen_job job) ran end order (given_to replay t u f g (Ok job) read) read.answer read.read is (alone_is (machine_of replay.front) replay.schedule (seen_job job) (order_by (machine_of replay.front).rules (seen_job job)) alone) last same written

-- what was given, with the picks that came
abbrev given_with : Given → List ℕ → Given
given_with given came = record { table = given.table; trace = given.trace; file = given.file; came = came }

abbrev job_behind : verdict.Job → List ℕ → verdict.Job
job_behind job came = record { input = job.input; picks = came }

no_file : (schedule : Schedule) (locks : Locks) → locks_in schedule ≡ Some locks → file_of schedule ≡ None
no_file schedule locks threads = grind (arith)

abbrev job_made : List ClassRow → Asked → List ℕ → verdict.Job
job_made rows asked picks = record { input = record { rows = rows; asked = asked }; picks = picks }

-- without an order file, the job that is asked for has the picks that came
behind_asked : (replay : Replay) (given : Given) (came : List ℕ) (job : verdict.Job) (rows : List ClassRow) → file_of replay.schedule ≡ None
    → (asked : Result Asked End) → and_then (job_with replay given rows) asked ≡ Ok job
    → and_then (job_with replay (given_with given came) rows) asked ≡ Ok (job_behind job came)
behind_asked replay given came job rows none asked is = grind (arith)

behind_rows : (replay : Replay) (given : Given) (came : List ℕ) (job : verdict.Job) → file_of replay.schedule ≡ None → (rows : Result (List ClassRow) End)
    → and_then (λ rows. and_then (job_with replay given rows) (asked_in (Some replay.front) rows given.trace)) rows ≡ Ok job
    → and_then (λ rows. and_then (job_with replay (given_with given came) rows) (asked_in (Some replay.front) rows given.trace)) rows ≡ Ok (job_behind job came)
behind_rows replay given came job none (Err end) is = absurd (cc)
behind_rows replay given came job none (Ok rows) is = behind_asked replay given came job rows none (asked_in (Some replay.front) rows given.trace) is

came_is : (m : Machine) (schedule : Schedule) (locks : Locks) (job : verdict.Job) (came : List ℕ) → locks_in schedule ≡ Some locks
    → IsMadeOf m job.input came → HaveCome m schedule (Ok (job_behind job came)) came
came_is m schedule locks job came threads made = grind (arith)

completed_by : (m : Machine) (schedule : Schedule) (locks : Locks) (job : verdict.Job) (came : List ℕ) → locks_in schedule ≡ Some locks
    → IsMadeOf m job.input came → IsCompleted m schedule (job_behind job came) (order_by m.rules (job_behind job came))
completed_by m schedule locks job came threads made = grind (arith, completed_is)

-- with worker threads
pub tried_threads : (replay : Replay) (locks : Locks) (t u : Reading) (f g : Shelving) (before after : Writing) (job : Job) (ran : Ran) (end : End) (order : List ℕ) → locks_in replay.schedule ≡ Some locks → IsJobRead replay t u f g (Ok job) → IsRanByThreads (machine_of replay.front) (locks_for replay.front locks) (Whole replay.rows replay.sample) (seen_job job).input ran → IsLastEnd ran.end end → order ≡ ran.order.items → IsWritten end ran.text.items before after → HasTried replay t u f g before after end order
tried_threads replay locks t u f g before after job ran end order threads read by_threads last same written =
    let came : List ℕ = by_threads.came in
    let made = made_by replay.front (locks_for replay.front locks) (Whole replay.rows replay.sample) (seen_job job).input ran by_threads in
    let given : Given = given_with read.given came in
    let none : file_of replay.schedule ≡ None = no_file replay.schedule locks threads in
    let asked : job_of replay given ≡ Ok (job_behind (seen_job job) came) = behind_rows replay read.given came (seen_job job) none (rows_in read.given.table) read.answer in
    let told : AreGiven replay f.files t.left given = record { told = record { table = read.told.table; trace = read.told.trace; file = read.told.file }; came = subst (λ j. HaveCome (machine_of replay.front) replay.schedule j came) (sym asked) (came_is (machine_of replay.front) replay.schedule locks (seen_job job) came threads made) } in
    let had : HasRead (Some replay.front) (file_of replay.schedule) given t u f g Done = record { files = read.read.files; loads = read.read.loads; behind_run = read.read.behind_run; behind_file = read.read.behind_file; file_count = read.read.file_count; untouched = read.read.untouched; lost = read.read.lost; reads = read.read.reads; drained = read.read.drained; trace_count = read.read.trace_count } in
    tried_by replay given t u f g before after (job_behind (seen_job job) came) ran end order told asked had by_threads.whole (completed_by (machine_of replay.front) replay.schedule locks (seen_job job) came threads made) last same written
