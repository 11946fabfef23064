-- A thread's samples don't depend on how others came between.
use Rattle.std.specs.Prelude.{◌≡◌, ℕ, ◌==◌, List, [], filter}
use Rattle.tc_model.specs.declared.answers.CallLine.{CallLine}
use Rattle.heap_sample.specs.Samples.{samples, samples_by}

-- the samples of a thread among all calls are those of its own calls alone
abbrev pub ThreadsAreApart : Type 0
ThreadsAreApart = (step thread : ℕ) (calls : List CallLine) → samples_by thread step [] calls ≡ samples step (filter (λ c. c.thread.0 == thread) calls)
