-- What a profile is, and when it is the profile of the calls of a run.
use Rattle.std.specs.Prelude.{◌≡◌, ℕ, ◌+◌, ◌<◌, List, ◌∷◌, ◌++◌, length, filter, not, nat_lt, slice_index, slice_set, if◌then◌else◌}
use Rattle.tc_model.specs.declared.answers.CallLine.{CallLine}
use Rattle.heap_sample.specs.declared.sample.Sample.{Sample}
use Rattle.heap_sample.specs.declared.sample.Peak.{Peak}
use Rattle.tc_model.specs.Blocks.{frees}
use Rattle.heap_sample.specs.Samples.{bytes_asked, asked_by, sample_under, live_samples, weight_in, AreSame, IsPeak, IsFirstUse}

-- what a profile has noted: its step, what each thread asked for, the live samples in any order, each with its label,
-- how many calls came, and the peak
pub record Noted : Type 0 where
  pub step : ℕ
  pub asked : List ℕ
  pub live : List (ℕ × Sample)
  pub calls : ℕ
  pub peak : Peak

-- What a call makes of a profile: its thread's sum rises, its sample comes to the live ones and that of the label that it
-- frees goes, and the peak is that of the calls so far.
pub record Follows (old : Noted) (c : CallLine) (new : Noted) : Type 0 where
  pub step : new.step ≡ old.step
  pub asked : new.asked ≡ slice_set old.asked c.thread.0 (slice_index old.asked c.thread.0 + bytes_asked c.call c.answer)
  pub live : AreSame new.live (sample_under old.step (slice_index old.asked c.thread.0) c.call c.answer ++ filter (λ s. not (frees s.0 c.call)) old.live)
  pub calls : new.calls ≡ old.calls + 1
  pub peak : new.peak ≡ (if nat_lt old.peak.bytes (weight_in new.live) then record { bytes = weight_in new.live; call = new.calls } else old.peak)

-- A profile is that of calls where its samples, sums and peak are theirs.
pub record IsProfileOf (calls : List CallLine) (noted : Noted) : Type 0 where
  pub asked : (thread : ℕ) → thread < length noted.asked → slice_index noted.asked thread ≡ asked_by thread calls
  pub live : AreSame noted.live (live_samples noted.step calls)
  pub count : noted.calls ≡ length calls
  pub peak : IsPeak noted.step calls noted.peak

-- Calls whose allocations each have a label that no earlier call has, and a size that a trace may have.
abbrev pub AreFirstUses : List CallLine → Type 0
AreFirstUses calls = (earlier : List CallLine) (c : CallLine) (later : List CallLine) → earlier ++ c ∷ later ≡ calls → IsFirstUse earlier c.call
