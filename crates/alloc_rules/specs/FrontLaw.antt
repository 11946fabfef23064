-- What contracts see of a front-end, and its law.
use Rattle.std.specs.Prelude.{◌≡◌, ◌≢◌, ℕ, ◌+◌, ◌<◌, ◌≤◌, ◌⊎◌, Bool, true, List, [], ◌∷◌, length, map, sum_by, Option, Some, None, IfSome, is_some, slice_get, slice_set}
use Rattle.std.specs.List.{range_with_len}
use Rattle.tc_units.specs.Bag.{Contents}
use Rattle.tc_units.specs.declared.units.Addr.{Addr}
use Rattle.tc_units.specs.declared.units.Class.{Class}
use Rattle.tc_model.specs.declared.calls.Call.{Call}
use Rattle.tc_model.specs.declared.calls.Call.TheVariants.{Drain, Resize}
use Rattle.tc_model.specs.declared.calls.Planned.{Planned}
use Rattle.tc_model.specs.declared.answers.Answer.{Answer}
use Rattle.tc_model.specs.Limits.{most_picks}
use Rattle.rseq_core.specs.declared.regs.Regs.{Regs}
use Rattle.rseq_core.specs.declared.regs.TheConstants.{HAND_ROOM, LOADED_ROOM}
use Rattle.rseq_core.specs.Bags.{room}
use Rattle.holdings.specs.Runs.{objects_at}
use Rattle.call_steps.specs.declared.step.Asking.{Asking}
use Rattle.call_steps.specs.declared.step.Serving.{Serving}
use Rattle.call_steps.specs.declared.step.Freeing.{Freeing}
use Rattle.call_steps.specs.declared.step.Giving.TheVariants as giving
use Rattle.call_steps.specs.declared.step.Next.{Next}
use Rattle.call_steps.specs.declared.step.Next.TheVariants as next
use Rattle.call_steps.specs.Fronts.{Left, FrontRules, AreEntries}
use Rattle.call_steps.specs.Local.{thread_no}
use Rattle.rseq_core.specs.Registers.{first_regs}
use Rattle.call_steps.specs.Calls.{About, Asks, Publishes, Frees, Other, HasNoLabel, about_giving}
use Rattle.call_steps.specs.Follows.{MayDecide}
use Rattle.call_steps.specs.Shapes.{most_slots}
use Rattle.call_steps.specs.Refusals.{is_refusal}
use Rattle.alloc_rules.specs.Standings.{Here, Later, Away, Standing, stand, at_row, at_next, regs_next}
use Rattle.alloc_rules.specs.Shapes.{IsAsked, HandAbout, IsLater, IsGiving}

-- the hand that a call has then, for a class
abbrev pub with_hand : Regs → Class → Contents Addr → Regs
with_hand g k hand = record g { class = k; hand = hand }

-- registers as an act of the front-end finds them: the thread's own, of a class of the table, with the hand of a row about this
pub record IsReady {P V R : Type 0} (r : FrontRules P V R) (t : ℕ) (g : Regs) (a : About) : Type 0 where
  pub thread : g.thread.0 ≡ t
  pub class : g.class.0 < length r.calls.rows
  pub room : room g.hand ≡ HAND_ROOM
  pub hand : HandAbout r.calls.rows g a

module _ {P V R : Type 0} (r : FrontRules P V R) (about : R → About) where
  -- What may come behind a row, whose act found these registers and left others: the same call goes on, or it is decided as it may.
  abbrev pub IsNext : R → Regs → Regs → Next R → Type 0
  IsNext row g new (next.Row to) = (about to ≡ about row) × HandAbout r.calls.rows new (about row)
  IsNext row g new (next.Serve a) = (about row ≡ Asks a) × (0 < length new.hand.items) × (length new.hand.items ≤ LOADED_ROOM)
  IsNext row g new (next.Fetch a) = (about row ≡ Asks a) × (new.hand.items ≡ [])
  IsNext row g new (next.Give v) = (about row ≡ about_giving about v) × (length new.hand.items ≤ most_slots) × IsGiving r.calls.rows about new.hand.items v
  IsNext row g new (next.Gave (giving.Rest s)) = (about row ≡ Publishes s) × (new.hand.items ≡ [])
  IsNext row g new (next.Gave (giving.Freed f)) = (about row ≡ Frees f) × (new.hand.items ≡ [])
  IsNext row g new (next.Gave (giving.Row k to)) = (about row ≡ about to) × (new.hand.items ≡ []) × IsLater r.calls.rows about k to
  IsNext row g new (next.Gave giving.End) = (about row ≡ Other None) × (new.hand.items ≡ [])
  IsNext row g new (next.Publish s) = (about row ≡ Publishes s) × (new.hand.items ≡ [])
  IsNext row g new (next.Freed f) = (about row ≡ Frees f) × (new.hand.items ≡ [])
  IsNext row g new (next.Decide answer None) = MayDecide (about row) answer × (new.hand.items ≡ g.hand.items) × (new.hand.items ≡ [])
  IsNext row g new (next.Decide answer (Some to)) = MayDecide (about row) answer × (new.hand.items ≡ g.hand.items) × (about to ≡ Other None)
  IsNext row g new next.End = (about row ≡ Other None) × (new.hand.items ≡ [])

  -- An act of a row moves objects of the registers' class alone, and those between its part and the hand alone; it keeps the
  -- thread, the hand's room, and the class where the call has a label or objects are in hand.
  pub record IsAct (p : P) (g : Regs) (row : R) (x : Left P V R) : Type 0 where
    pub thread : x.regs.thread ≡ g.thread
    pub room : room x.regs.hand ≡ room g.hand
    pub low : x.regs.class.0 < length r.calls.rows
    pub class : (x.regs.class ≡ g.class) ⊎ ((x.regs.hand.items ≡ []) × HasNoLabel (about row))
    pub others : (k n : ℕ) → k ≢ g.class.0 → r.stored x.part k n ≡ r.stored p k n
    pub moves : (n : ℕ) → r.stored x.part g.class.0 n + objects_at n x.regs.hand.items ≡ r.stored p g.class.0 n + objects_at n g.hand.items
    pub next : IsNext row g x.regs x.next

-- the part of a row is there, and the act fits
pub record FitsAt {P V R : Type 0} (r : FrontRules P V R) (fits : P → V → Regs → R → Type 0) (ps : List P) (v : V) (g : Regs) (row : R) : Type 0 where
  pub part : P
  pub there : slice_get ps (r.place v g row) ≡ Some part
  pub fit : fits part v g row

-- a call of the front-end's own
abbrev pub IsOwn : Call → Type 0
IsOwn (Drain cpu) = Unit {0}
IsOwn (Resize cpu class cap) = Unit {0}
IsOwn call = ⊥

-- a planned call that is none of its own
abbrev pub IsNotOwn : Planned → Type 0
IsNotOwn p = IsOwn p.call → ⊥

-- what is refused is refused by a row that may
abbrev pub RefusesAs : {R : Type 0} → (R → Answer → Bool) → R → Next R → Type 0
RefusesAs refuses row (next.Decide answer to) = is_refusal answer ≡ true → refuses row answer ≡ true
RefusesAs refuses row other = Unit {0}

-- a thread before its first call
abbrev pub idle : {P V R : Type 0} → FrontRules P V R → ℕ → Standing V R
idle r t = stand (r.seats t) (first_regs (thread_no t)) 0 Away

-- The law of a front-end with its invariant after so many picks, over all its parts and all threads. Here an entry, and an
-- act elsewhere, change the standing of thread t alone.
pub record IsLawful {P V R : Type 0} (r : FrontRules P V R) (about : R → About) (planned : Planned → Type 0) (Holds : ℕ → List P → List (Standing V R) → Type 0) (fits : P → V → Regs → R → Type 0) : Type 0 where
  -- it holds at the start, for any number of threads, where no part has an object
  pub start : (threads : ℕ) → Holds 0 r.parts (map (idle r) (range_with_len 0 threads))
  pub none : (k n : ℕ) → sum_by (λ p. r.stored p k n) r.parts ≡ 0
  pub split : r.split ≤ length r.parts
  -- where it holds, the part of a row is there and fits
  pub ready : (n : ℕ) (ps : List P) (us : List (Standing V R)) (t : ℕ) (v : V) (g : Regs) (count : ℕ) (row : R) → n ≤ most_picks → count ≤ n → Holds n ps us → slice_get us t ≡ Some (stand v g count (Here row)) → IsReady r t g (about row) → FitsAt r fits ps v g row
  -- its act moves objects and goes on as it may
  pub does : (n : ℕ) (ps : List P) (us : List (Standing V R)) (t : ℕ) (p : P) (v : V) (g : Regs) (count : ℕ) (row : R) → n ≤ most_picks → count ≤ n → Holds n ps us → slice_get us t ≡ Some (stand v g count (Here row)) → slice_get ps (r.place v g row) ≡ Some p → IsReady r t g (about row)
      → IsAct r about p g row (r.acts p v g row)
  -- and keeps the invariant
  pub acts : (n : ℕ) (ps : List P) (us : List (Standing V R)) (t : ℕ) (p : P) (v : V) (g : Regs) (count : ℕ) (row : R) → n ≤ most_picks → count ≤ n → Holds n ps us → slice_get us t ≡ Some (stand v g count (Here row)) → slice_get ps (r.place v g row) ≡ Some p → IsReady r t g (about row)
      → (let x = r.acts p v g row in Holds (n + 1) (slice_set ps (r.place v g row) x.part) (slice_set us t (stand x.seat (regs_next x.regs x.next) (count + 1) (at_next x.next))))
  -- so do acts elsewhere, which are picks too: they may change the hand and the class, and come to a row that was to come later
  pub passes : (n : ℕ) (ps : List P) (us : List (Standing V R)) → Holds n ps us → Holds (n + 1) ps us
  pub away : (n : ℕ) (ps : List P) (us : List (Standing V R)) (t : ℕ) (v : V) (g : Regs) (count more : ℕ) (k : Class) (hand : Contents Addr) → count ≤ more → k.0 < length r.calls.rows → room hand ≡ room g.hand → Holds n ps (slice_set us t (stand v g count Away))
      → Holds n ps (slice_set us t (stand v (with_hand g k hand) more Away))
  pub waits : (n : ℕ) (ps : List P) (us : List (Standing V R)) (t : ℕ) (v : V) (g : Regs) (count more : ℕ) (j : Class) (row : R) (hand : Contents Addr) → count ≤ more → room hand ≡ room g.hand → Holds n ps (slice_set us t (stand v g count (Later j row)))
      → Holds n ps (slice_set us t (stand v (with_hand g g.class hand) more (Later j row)))
  pub back : (n : ℕ) (ps : List P) (us : List (Standing V R)) (t : ℕ) (v : V) (g : Regs) (count more : ℕ) (k : Class) (row : R) (hand : Contents Addr) → count ≤ more → room hand ≡ room g.hand → hand.items ≡ [] → Holds n ps (slice_set us t (stand v g count (Later k row)))
      → Holds n ps (slice_set us t (stand v (with_hand g k hand) more (Here row)))
  -- and entries: the begin of a call, or of none, which has executed nothing; the rows with which calls begin and go on; and the one
  -- behind a call's end
  pub begins : (n : ℕ) (ps : List P) (us : List (Standing V R)) (t : ℕ) (v : V) (g : Regs) (count : ℕ) (o : Option Planned) → IfSome o planned → g.hand.items ≡ [] → Holds n ps (slice_set us t (stand v g count Away)) → Holds n ps (slice_set us t (stand (r.calls.begins v o) g count Away))
  pub restarts : (n : ℕ) (ps : List P) (us : List (Standing V R)) (t : ℕ) (v : V) (g : Regs) (count : ℕ) → Holds n ps (slice_set us t (stand v g count Away)) → Holds n ps (slice_set us t (stand v (record g { ran = 0 }) count Away))
  pub firsts : (n : ℕ) (ps : List P) (us : List (Standing V R)) (t : ℕ) (v : V) (g : Regs) (count : ℕ) (a : Asking) → IsAsked r.calls.rows g a → g.hand.items ≡ [] → Holds n ps (slice_set us t (stand v g count Away)) → Holds n ps (slice_set us t (stand v (record (r.calls.to_first g) { ran = 0 }) count (at_row (r.calls.first v a))))
  pub rests : (n : ℕ) (ps : List P) (us : List (Standing V R)) (t : ℕ) (v : V) (g : Regs) (count : ℕ) (s : Serving) → 0 < length g.hand.items → length g.hand.items ≤ LOADED_ROOM → Holds n ps (slice_set us t (stand v g count Away)) → Holds n ps (slice_set us t (stand v (r.calls.to_rest g) count (at_row (r.calls.rest v s))))
  pub frees : (n : ℕ) (ps : List P) (us : List (Standing V R)) (t : ℕ) (v : V) (g : Regs) (count : ℕ) (f : Freeing) → g.hand.items ≡ f.addr ∷ [] → Holds n ps (slice_set us t (stand v g count Away)) → Holds n ps (slice_set us t (stand v (r.calls.to_free g) count (at_row (r.calls.free v f))))
  pub others_begin : (n : ℕ) (ps : List P) (us : List (Standing V R)) (t : ℕ) (v : V) (g : Regs) (count : ℕ) (p : Planned) → planned p → IsOwn p.call → g.hand.items ≡ [] → Holds n ps (slice_set us t (stand v g count Away)) → Holds n ps (slice_set us t (stand v (record (r.calls.to_other p.call g) { ran = 0 }) count (at_row (r.calls.other v p.call))))
  pub lasts : (n : ℕ) (ps : List P) (us : List (Standing V R)) (t : ℕ) (v : V) (g : Regs) (count : ℕ) → g.hand.items ≡ [] → Holds n ps (slice_set us t (stand v g count Away)) → Holds n ps (slice_set us t (stand v g count (at_row (r.calls.last v))))
  -- they are about their calls, and keep what is in hand; a call of the front-end's own has a row, and a class of the table
  pub entries : AreEntries r.calls about
  pub other_class : (p : Planned) (g : Regs) → planned p → IsOwn p.call → (r.calls.to_other p.call g).class.0 < length r.calls.rows
  pub other_there : (v : V) (p : Planned) → planned p → IsOwn p.call → is_some (r.calls.other v p.call) ≡ true
  -- no row refuses a call but as it may
  pub refuses : (p : P) (v : V) (g : Regs) (row : R) → RefusesAs r.refuses row (r.acts p v g row).next
