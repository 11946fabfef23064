-- Each line of a generated trace is good, so the trace is valid.
use Rattle.std.proofs.Common.{◌≡◌, ℕ, zero, suc, ◌+◌, ◌/◌, ◌%◌, ◌<◌, ◌≤◌, ◌==◌, Bool, true, false, if◌then◌else◌, List, [], ◌∷◌, ◌++◌, length, Some, None, is_ok, IsOk, option_to_list, refl, sym, ap, ◌∙◌, subst, arith, rules}
use Rattle.std.proofs.lemmas.Bool.{eqb-true, false≢true}
use Rattle.std.proofs.lemmas.List.Sums.{fold-append}
use Rattle.std.proofs.lemmas.Nat.{mod_below}
use Rattle.trace_reader.specs.declared.form.Form.{Form}
use Rattle.trace_reader.specs.declared.form.Form.TheVariants.{Move}
use Rattle.trace_reader.specs.Form.{is_head_form, IsInRange}
use Rattle.trace_reader.specs.Steps.{Fits}
use Rattle.trace_reader.specs.Reading.{SoFar, with_form, asked_by}
use Rattle.trace_gen.specs.declared.kind.Kind.{Kind}
use Rattle.trace_gen.specs.declared.kind.Kind.TheVariants.{Malloc, Free, Drain, Release}
use Rattle.trace_gen.specs.Draws.{draw}
use Rattle.trace_gen.specs.Generated.{State, drawn, cpus_of, heads_of, call_line, after_call, freed_place, next_kind, state_at, lines_of, lines_before}
use Rattle.trace_gen.specs.Said.{Said, none_said, with_line, with_lines, AreGood}
use Rattle.trace_gen.specs.TraceText.{trace_text}
use Rattle.trace_gen.proofs.CallSteps.{more_labels, AreGood-append}
use Rattle.trace_gen.proofs.Draws.{thread-below, cpu-below, size_of-below, free-has_label}
use Rattle.trace_gen.proofs.Labels.{AreLive, AreLive-none, is_live, AreLive-malloc, AreLive-free, AreLive-other}
use Rattle.trace_gen.proofs.LinesRead.{IsReadAs, are_read_as}

-- behind these lines a generator's next call may stand: they set its limits, and these labels are live and to come
record AreBefore (threads : ℕ) (said : Said) (live : List ℕ) (next : ℕ) : Type 0 where
  threads_are : said.sofar.asked.config.threads ≡ threads
  cpus_are : said.sofar.asked.config.cpus ≡ cpus_of threads
  labels : AreLive said.sofar.asked.calls live next

-- so they may with these
record AreNext (threads : ℕ) (said : Said) (lines : List Form) (live : List ℕ) (next : ℕ) : Type 0 where
  good : AreGood said lines
  before : AreBefore threads (with_lines said lines) live next

-- a line that is no head leaves the limits
same_limits : (number : ℕ) (form : Form) (before : SoFar) → is_head_form form ≡ false → (with_form number form before).asked.config ≡ before.asked.config
same_limits number form before none = grind (arith)

never_head : (is late : Bool) → is ≡ false → is ≡ true → late ≡ false
never_head is late none head = absurd (false≢true (sym none ∙ head))

-- one line more
line_next : (threads : ℕ) (said : Said) (live : List ℕ) (next : ℕ) (live' : List ℕ) (next' : ℕ) (form : Form) → AreBefore threads said live next → said.number ≤ 1000000 → is_head_form form ≡ false → IsInRange form
    → ((classes : ℕ) → Fits classes said.sofar.asked form) → AreLive (with_form said.number form said.sofar).asked.calls live' next' → AreNext threads said (form ∷ []) live' next'
line_next threads said live next live' next' form are few none range fits labels =
    let same = same_limits said.number form said.sofar none in
    record {
      good = (record { few = few; early = never_head (is_head_form form) said.sofar.late none; range = range; fits = fits }, tt);
      before = record { threads_are = ap (λ config. config.threads) same ∙ are.threads_are; cpus_are = ap (λ config. config.cpus) same ∙ are.cpus_are; labels = labels };
    }

-- one call more
call_next : (threads : ℕ) (said : Said) (s : State) (kind : Kind) (thread : ℕ) → 1 ≤ threads → AreBefore threads said s.live s.next → said.number ≤ 1000000 → thread < threads → s.next < 1000000
    → (kind ≡ Free → 0 < length s.live) → AreNext threads said (call_line (cpus_of threads) thread kind s ∷ []) (after_call kind s).live (after_call kind s).next
call_next threads said s Malloc thread some are within there room has =
    line_next threads said s.live s.next _ _ (call_line (cpus_of threads) thread Malloc s) are within refl (room, size_of-below 0 1 s.number)
    (λ classes. (omega (arith, are.threads_are), (are.labels.fresh s.next (omega arith)).0))
    (AreLive-malloc said.sofar.asked.calls _ s.live s.next are.labels (λ label. refl) (λ label. refl))
call_next threads said s Free thread some are within there room has =
    let inside : freed_place s < length s.live = mod_below (draw 0 s.number) (length s.live) (has refl) in
    let live = is_live said.sofar.asked.calls s.live s.next (freed_place s) are.labels inside in
    line_next threads said s.live s.next _ _ (call_line (cpus_of threads) thread Free s) are within refl (omega (arith, live.below))
    (λ classes. (omega (arith, are.threads_are), live.allocated, live.kept))
    (AreLive-free said.sofar.asked.calls _ s.live s.next (freed_place s) are.labels inside (λ label. refl) (λ label. refl))
call_next threads said s Drain thread some are within there room has =
    let cpu = cpu-below threads 0 s.number some in
    line_next threads said s.live s.next _ _ (call_line (cpus_of threads) thread Drain s) are within refl tt
    (λ classes. (omega (arith, are.threads_are), omega (arith, cpu, are.cpus_are)))
    (AreLive-other said.sofar.asked.calls _ s.live s.next are.labels (λ label. refl) (λ label. refl))
call_next threads said s Release thread some are within there room has =
    line_next threads said s.live s.next _ _ (call_line (cpus_of threads) thread Release s) are within refl (omega arith)
    (λ classes. omega (arith, are.threads_are))
    (AreLive-other said.sofar.asked.calls _ s.live s.next are.labels (λ label. refl) (λ label. refl))

-- the state at which a call draws, and its lines, by whether it is preempted
abbrev drawing : Bool → State → State
drawing turn s = if turn then drawn 4 s else drawn 2 s

abbrev moving : ℕ → State → Form
moving threads s = Move (draw 0 s.number % threads) (draw 0 (drawn 2 s).number % 8 + 1) (draw 1 (drawn 2 s).number % cpus_of threads)

abbrev lines_with : ℕ → Bool → State → List Form
lines_with threads turn s =
    option_to_list (if turn then Some (moving threads s) else None) ++ call_line (cpus_of threads) (draw 0 s.number % threads) (next_kind s) (drawing turn s) ∷ []

-- one call more with its preemption, if it has one
step_next : (threads : ℕ) (said : Said) (s : State) (turn : Bool) → 1 ≤ threads → AreBefore threads said s.live s.next → said.number + 1 ≤ 1000000 → s.next < 1000000
    → AreNext threads said (lines_with threads turn s) (after_call (next_kind s) (drawing turn s)).live (after_call (next_kind s) (drawing turn s)).next
step_next threads said s true some are within room =
    let there = thread-below threads 0 s.number some in
    let cpu = cpu-below threads 1 (drawn 2 s).number some in
    let moved = line_next threads said s.live s.next s.live s.next (moving threads s) are (omega arith) refl (omega arith, omega arith)
    (λ classes. (omega (arith, there, are.threads_are), omega (arith, cpu, are.cpus_are))) are.labels in
    let called = call_next threads (with_line said (moving threads s)) (drawn 4 s) (next_kind s) (draw 0 s.number % threads) some moved.before within there room (free-has_label (draw 1 s.number % 100) s.live) in
    record { good = (moved.good.0, called.good); before = called.before }
step_next threads said s false some are within room =
    call_next threads said (drawn 2 s) (next_kind s) (draw 0 s.number % threads) some are (omega arith) (thread-below threads 0 s.number some) room (free-has_label (draw 1 s.number % 100) s.live)

-- what the heads and the lines of the first calls say
abbrev pub said_before : ℕ → ℕ → ℕ → Said
said_before seed threads i = with_lines none_said (lines_before seed threads i)

-- they are good; they have few lines, and take one label each at most
record AreCalls (seed threads i : ℕ) : Type 0 where
  good : AreGood none_said (lines_before seed threads i)
  before : AreBefore threads (said_before seed threads i) (state_at seed i).live (state_at seed i).next
  few : (said_before seed threads i).number ≤ i + i / 10 + 4
  next : (state_at seed i).next ≤ i

few_more : (threads i : ℕ) (said : Said) (s : State) (turn : Bool) → (i % 10 == 9) ≡ turn → said.number ≤ i + i / 10 + 4 → (with_lines said (lines_with threads turn s)).number ≤ suc i + suc i / 10 + 4
few_more threads i said s true is few = omega (arith, eqb-true (i % 10) 9 is)
few_more threads i said s false is few = omega arith

pub heads_good : (threads : ℕ) → 1 ≤ threads → threads ≤ 64 → AreGood none_said (heads_of threads)
heads_good threads some few = search rules

after_next : (seed threads i : ℕ) → 1 ≤ threads → i < 500000 → AreCalls seed threads i
    → AreNext threads (said_before seed threads i) (lines_of threads i (state_at seed i)) (state_at seed (suc i)).live (state_at seed (suc i)).next
after_next seed threads i some within calls =
    step_next threads (said_before seed threads i) (state_at seed i) (i % 10 == 9) some calls.before (omega (arith, calls.few)) (omega (arith, calls.next))

calls_good : (seed threads i : ℕ) → 1 ≤ threads → threads ≤ 64 → i ≤ 500000 → AreCalls seed threads i
calls_good seed threads zero some few within = record {
  good = heads_good threads some few;
  before = record { threads_are = refl; cpus_are = refl; labels = AreLive-none };
  few = omega arith;
  next = omega arith;
}
calls_good seed threads (suc i) some few within =
    let calls = calls_good seed threads i some few (omega arith) in
    let s = state_at seed i in
    let lines = lines_of threads i s in
    let after = after_next seed threads i some (omega arith) calls in
    let joined : said_before seed threads (suc i) ≡ with_lines (said_before seed threads i) lines = fold-append with_line none_said (lines_before seed threads i) lines in
    let P : Said → Type 0 = λ said. AreBefore threads said (state_at seed (suc i)).live (state_at seed (suc i)).next in
    record {
      good = AreGood-append none_said (lines_before seed threads i) lines calls.good after.good;
      before = subst P (sym joined) after.before;
      few = subst (λ (said : Said). said.number ≤ suc i + suc i / 10 + 4) (sym joined) (few_more threads i (said_before seed threads i) s (i % 10 == 9) refl calls.few);
      next = omega (arith, more_labels i s (state_at seed (suc i)) calls.next refl);
    }

-- the lines of the next call are good
pub lines_good : (said : Said) (s : State) (seed threads i : ℕ) → 1 ≤ threads → threads ≤ 64 → i < 500000 → said ≡ said_before seed threads i → s ≡ state_at seed i
    → AreGood said (lines_of threads i s)
lines_good said s seed threads i some few within says at =
    let next = after_next seed threads i some within (calls_good seed threads i some few (omega arith)) in
    subst (λ (t : State). AreGood said (lines_of threads i t)) (sym at) (subst (λ (t : Said). AreGood t (lines_of threads i (state_at seed i))) (sym says) next.good)

-- the whole trace
pub trace_read : (seed calls threads classes : ℕ) → 1 ≤ threads → threads ≤ 64 → calls ≤ 500000 → IsReadAs classes (trace_text seed calls threads) (said_before seed threads calls)
trace_read seed calls threads classes some few within =
    are_read_as classes (lines_before seed threads calls) (calls_good seed threads calls some few within).good

pub valid_trace : (seed calls threads classes : ℕ) → 1 ≤ threads → threads ≤ 64 → calls ≤ 500000 → IsOk (asked_by classes (trace_text seed calls threads))
valid_trace seed calls threads classes some few within = ap is_ok (trace_read seed calls threads classes some few within).asked
