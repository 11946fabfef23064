-- What a replay makes of its ends, and what it answers: that is its verdict, or something came between.
use Rattle.std.specs.Prelude.{◌≡◌, ℕ, true, List, Some, Ok}
use Rattle.tc_units.specs.Classes.{length_of}
use Rattle.tc_model.specs.Blocks.{IsBlockRun}
use Rattle.tc_model.specs.Run.{run}
use Rattle.tc_model.specs.Replays.{HaveEnded}
use Rattle.tc_ports.specs.Told.{Took}
use Rattle.tc_ports.specs.Ends.{Reading, Shelving, Writing}
use Rattle.alloc_rules.specs.Told.{TellsScripts}
use Rattle.journal_audit.specs.Rules.{journal_of}
use Rattle.journal_audit.specs.Legal.{IsLegal}
use Rattle.tcreplay.specs.declared.run.Telling.TheVariants.{Whole}
use Rattle.tcreplay.specs.declared.outcome.End.{End}
use Rattle.tcreplay.specs.declared.outcome.End.TheVariants.{Done}
use Rattle.tcreplay.specs.Tasks.{Replay, file_of}
use Rattle.tcreplay.specs.Machines.{Machine, machine_of}
use Rattle.tcreplay.specs.Verdict.{Given, Job, Verdict, job_of, order_by, run_verdict, text_with}
use Rattle.tcreplay.specs.Reads.{AreGiven, CutOff, HasRead, is_behind_run}
use Rattle.tcreplay.specs.Writes.{IsWritten, IsAnswer}
use Rattle.tcreplay.specs.Order.{IsOrderOf}
use Rattle.tcreplay.specs.Auditing.{plan_in}

-- what the machine of a replay comes to over what its inputs gave
abbrev pub verdict_on : Replay → Given → Verdict
verdict_on replay given = run_verdict (machine_of replay.front) (Whole replay.rows replay.sample) (job_of replay given)

-- The headline. What is printed is the text of the order that is answered with it; that order is the order file's, or the
-- worker threads', completed; in it every call has returned, and the calls that are told of each thread are its whole
-- script, in its order, on disjoint blocks of the machine's arena; where the arena has the hugepages that the trace says, the
-- lines of calls of that text are a legal journal of the trace; and the machine's law holds for it.
pub record IsHeadline (m : Machine) (replay : Replay) (given : Given) (before after : Writing) (order : List ℕ) : Type 0 where
  pub job : Job
  pub asked : job_of replay given ≡ Ok job
  pub order_is : order ≡ order_by m.rules job
  pub ended : HaveEnded (m.rules job.input) (run (m.rules job.input) order)
  pub told : TellsScripts job.input.asked (m.told job.input order).calls
  pub blocks : IsBlockRun (m.arena job.input) (length_of job.input.rows) (m.told job.input order).calls
  pub text : Took before.taken after.taken (text_with replay.rows replay.sample (m.told job.input order))
  pub journal : m.arena job.input ≡ job.input.asked.config.huge → IsLegal (plan_in job.input) (journal_of (text_with replay.rows replay.sample (m.told job.input order)))
  pub law : m.lawful job.input order

-- A replay was tried, with its trace, its files and its output before and after.
pub record HasTried (replay : Replay) (t u : Reading) (f g : Shelving) (before after : Writing) (end : End) (order : List ℕ) : Type 0 where
  pub given : Given
  pub told : AreGiven replay f.files t.left given
  pub answer : IsAnswer (verdict_on replay given) (CutOff (Some replay.front) given t u f g end) end order
  pub read : HasRead (Some replay.front) (file_of replay.schedule) given t u f g end
  pub out : IsWritten end (verdict_on replay given).text before after
  pub law : is_behind_run end ≡ true → (job : Job) → job_of replay given ≡ Ok job → (machine_of replay.front).lawful job.input order
  pub run : is_behind_run end ≡ true → (job : Job) → job_of replay given ≡ Ok job → IsOrderOf (machine_of replay.front) replay.schedule job end order
  pub headline : end ≡ Done → IsHeadline (machine_of replay.front) replay given before after order
