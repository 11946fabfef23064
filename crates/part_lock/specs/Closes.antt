-- What is left once every seat was joined.
use Rattle.std.specs.Prelude.{◌≡◌, ℕ, ◌+◌, ◌<◌, ◌≤◌, List, length, map, Some, slice_get}
use Rattle.tc_model.specs.declared.board.Act.{Act}
use Rattle.tc_model.specs.declared.board.Entry.{Entry}
use Rattle.tc_model.specs.Run.{Rules, World, start, run}
use Rattle.tc_model.specs.Steps.{AllMove}
use Rattle.tc_model.specs.Chains.{AreChainedFrom, IsPolite, threads_of}
use Rattle.tc_model.specs.Rises.{Has, Rising, AreApart, IsMerge}
use Rattle.part_lock.specs.declared.view.Key.{Key}
use Rattle.part_lock.specs.declared.view.Lead.{Lead}
use Rattle.part_lock.specs.declared.view.Work.{Work}
use Rattle.part_lock.specs.Lock.{Once, rank, of_thread, entry_of, entries_at, thread_of, sum_of, starved}

module _ {X P L : Type 0} where
  -- the run of acts by their threads
  abbrev pub run_of : (X → Rules P L) → Key X → List (Act P L) → World P L
  run_of mach key acts = run (mach key.machine) (threads_of acts)

  -- The entries of all parts, a list for each, are one chained list of acts, whose merge is a run of polite picks that move. The
  -- parts are that run's, and each seat that was joined has its own acts and its local of that run.
  pub record IsClosed (mach : X → Rules P L) (key : Key X) (m : Lead X P L) (parts : List P) (entries : List (List Entry)) : Type 0 where
    pub acts : List (Act P L)
    pub by_tickets : Rising rank acts
    pub near : (d : Act P L) → Has acts d → (d.ticket < key.events) × (d.place.0 < length parts) × Has m.threads d.thread
    pub few : length acts ≤ key.events
    pub chained : AreChainedFrom (mach key.machine) (start (mach key.machine)) acts
    pub listed : (i : ℕ) (xs : List Entry) → slice_get entries i ≡ Some xs → xs ≡ entries_at i acts
    pub apart : AreApart entries
    pub merged : (es : List Entry) → IsMerge entries es → es ≡ map entry_of acts
    pub polite : IsPolite (mach key.machine) (start (mach key.machine)) (threads_of acts)
    pub moves : AllMove (mach key.machine) (start (mach key.machine)) (threads_of acts)
    pub ends : parts ≡ (run_of mach key acts).parts
    pub lists : length entries ≡ length parts
    pub seats : (w : Work X P L) → Has m.kept w → (w.made ≡ of_thread w.thread acts) × (slice_get (run_of mach key acts).locals w.thread ≡ Some w.local)
    pub all : (t : ℕ) → Has m.threads t → (w : Work X P L) × Has m.kept w × (w.thread ≡ t)
    pub once : Once m.threads × Once (map thread_of m.kept)
    -- where some seat met the limit, all tickets below it are entries, but for as many as there are seats that met want of memory
    pub filled : (w : Work X P L) → Has m.kept w → w.cause ≡ 1 → key.events ≤ length acts + sum_of starved m.kept
