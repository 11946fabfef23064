-- Which allocations of a run are sampled, with which weight, and which of these samples are live after its calls.
use Rattle.std.specs.Prelude.{◌≡◌, ℕ, ◌+◌, ◌-◌, ◌*◌, ◌/◌, ◌^◌, ◌<◌, ◌≤◌, ◌==◌, nat_lt, not, List, [], ◌∷◌, ◌++◌, length, take, map, filter, fold, max, sum_by, Any, None, false, if◌then◌else◌}
use Rattle.std.specs.List.{position_or_len, range_with_len}
use Rattle.tc_units.specs.declared.units.Label.{Label}
use Rattle.tc_model.specs.Blocks.{answer_to, freed_in}
use Rattle.tc_model.specs.declared.calls.Call.{Call}
use Rattle.tc_model.specs.declared.calls.Call.TheVariants.{Malloc, Free, Release, Drain, Resize}
use Rattle.tc_model.specs.declared.answers.Answer.{Answer}
use Rattle.tc_model.specs.declared.answers.Answer.TheVariants.{Block}
use Rattle.tc_model.specs.declared.answers.CallLine.{CallLine}
use Rattle.heap_sample.specs.declared.sample.Sample.{Sample}
use Rattle.heap_sample.specs.declared.sample.Peak.{Peak}

-- the bytes that an allocation asked for where it got a block; no other call asks for any
abbrev pub bytes_asked : Call → Answer → ℕ
bytes_asked (Malloc label size) (Block addr len) = size
bytes_asked call answer = 0

-- what a thread's allocations that got a block asked for, together
abbrev pub asked_by : ℕ → List CallLine → ℕ
asked_by thread calls = sum_by (λ c. if c.thread.0 == thread then bytes_asked c.call c.answer else 0) calls

-- How many bytes an allocation stands for that raises its thread's sum from one number to another: as many steps as
-- the sum has passed.
abbrev pub weight_of : ℕ → ℕ → ℕ → ℕ
weight_of step before after = (after / step - before / step) * step

-- the sample under a label of a block that got so many bytes, where its size takes the sum past a step
abbrev pub sampled : ℕ → ℕ → Label → ℕ → ℕ → List (ℕ × Sample)
sampled step before label size len =
    if nat_lt (before / step) ((before + size) / step)
    then (label.0, record { len = len; weight = weight_of step before (before + size) }) ∷ []
    else []

-- the sample that a call gives, if any: an allocation that got a block may give one
abbrev pub sample_under : ℕ → ℕ → Call → Answer → List (ℕ × Sample)
sample_under step before (Malloc label size) (Block addr len) = sampled step before label size len
sample_under step before call answer = []

-- the sample of a call behind earlier ones, if it gives one
abbrev pub sample_of : ℕ → List CallLine → CallLine → List (ℕ × Sample)
sample_of step earlier c = sample_under step (asked_by c.thread.0 earlier) c.call c.answer

-- the samples of calls behind earlier ones
abbrev pub samples_behind : ℕ → List CallLine → List CallLine → List (ℕ × Sample)
samples_behind step earlier [] = []
samples_behind step earlier (c ∷ later) = sample_of step earlier c ++ samples_behind step (earlier ++ c ∷ []) later

-- the samples of calls, each with its label
abbrev pub samples : ℕ → List CallLine → List (ℕ × Sample)
samples step calls = samples_behind step [] calls

-- the samples of one thread's calls, among those of all threads
abbrev pub samples_by : ℕ → ℕ → List CallLine → List CallLine → List (ℕ × Sample)
samples_by thread step earlier [] = []
samples_by thread step earlier (c ∷ later) =
    (if c.thread.0 == thread then sample_of step earlier c else []) ++ samples_by thread step (earlier ++ c ∷ []) later

-- the samples whose label none of the calls frees
abbrev pub live_samples : ℕ → List CallLine → List (ℕ × Sample)
live_samples step calls = filter (λ s. not (freed_in s.0 calls)) (samples step calls)

-- what samples stand for, together
abbrev pub weight_in : List (ℕ × Sample) → ℕ
weight_in live = sum_by (λ s. s.1.weight) live

-- The same samples, each as often, in any order: each sum over the ones is that over the others.
abbrev pub AreSame : List (ℕ × Sample) → List (ℕ × Sample) → Type 0
AreSame ones others = (f : ℕ × Sample → ℕ) → sum_by f ones ≡ sum_by f others

-- whether some sample has a label
abbrev pub HasLabel : List (ℕ × Sample) → ℕ → Type 0
HasLabel live label = Any (λ s. s.0 ≡ label) live

-- what the live samples stand for after so many of the calls
abbrev pub weight_after : ℕ → List CallLine → ℕ → ℕ
weight_after step calls k = weight_in (live_samples step (take k calls))

-- The peak is the greatest of the weights after each number of calls, from none to all, with the least number that reaches
-- it: by its value, and as what holds of it.
abbrev pub peak_of : ℕ → List CallLine → Peak
peak_of step calls =
    let weights = map (weight_after step calls) (range_with_len 0 (length calls + 1)) in
    let greatest = fold max 0 weights in
    record { bytes = greatest; call = position_or_len (λ weight. weight == greatest) weights }

pub record IsPeak (step : ℕ) (calls : List CallLine) (peak : Peak) : Type 0 where
  pub within : peak.call ≤ length calls
  pub reached : weight_after step calls peak.call ≡ peak.bytes
  pub greatest : (k : ℕ) → k ≤ length calls → weight_after step calls k ≤ peak.bytes
  pub first : (k : ℕ) → k < peak.call → weight_after step calls k < peak.bytes

-- a label is new behind earlier calls: none allocates under it or frees it
pub record IsNew (earlier : List CallLine) (label : ℕ) : Type 0 where
  pub not_answered : answer_to label earlier ≡ None
  pub not_freed : freed_in label earlier ≡ false

-- the most calls of a run
abbrev pub most_calls : ℕ
most_calls = 1000000

-- the most bytes that a request asks for
abbrev pub most_size : ℕ
most_size = 2 ^ 40

-- an allocation's label is new, and its size is one that a request may have
abbrev pub IsFirstUse : List CallLine → Call → Type 0
IsFirstUse earlier (Malloc label size) = IsNew earlier label.0 × (size ≤ most_size)
IsFirstUse earlier (Free label) = Unit {0}
IsFirstUse earlier (Release pages) = Unit {0}
IsFirstUse earlier (Drain cpu) = Unit {0}
IsFirstUse earlier (Resize cpu class cap) = Unit {0}

-- an allocation's label is none of a live sample, and its size is one that a request may have
abbrev pub IsFresh : List (ℕ × Sample) → Call → Type 0
IsFresh live (Malloc label size) = (¬ (HasLabel live label.0)) × (size ≤ most_size)
IsFresh live (Free label) = Unit {0}
IsFresh live (Release pages) = Unit {0}
IsFresh live (Drain cpu) = Unit {0}
IsFresh live (Resize cpu class cap) = Unit {0}
