-- Calls on a heap one after another, computed from the definitions alone.
use Rattle.std.proofs.Common.{ℕ, ◌++◌, List, [], ◌∷◌, Option, Some, None, fold, get_or}
use Rattle.tc_units.specs.declared.spans.Run.{Run}
use Rattle.heap_rules.specs.declared.config.HeapConfig.{HeapConfig}
use Rattle.heap_rules.specs.Heap.{Heap, opened, run_at, used_pages, backed_pages}
use Rattle.heap_rules.specs.New.{Placed, new}
use Rattle.heap_rules.specs.Free.{freed}
use Rattle.heap_rules.specs.Release.{release}

-- a new run of n pages, a free of the run that the nth call that placed one gave, a release of n pages
pub data Call : Type 0 where
  New : ℕ → Call
  Free : ℕ → Call
  Release : ℕ → Call

-- the heap after some calls, the runs that were placed, and the answers: first pages, 0 for none, and released pages
pub record Told : Type 0 where
  pub heap : Heap
  pub runs : List Run
  pub answers : List ℕ

abbrev pub told_new : Told → Option Placed → Told
told_new t None = record t { answers = t.answers ++ 0 ∷ [] }
told_new t (Some p) = record { heap = p.heap; runs = t.runs ++ p.run ∷ []; answers = t.answers ++ p.run.first.0 ∷ [] }

abbrev pub told : Told → Call → Told
told t (New n) = told_new t (new t.heap n)
told t (Free k) = record t { heap = freed t.heap (get_or t.runs k (run_at 0 0)) }
told t (Release n) = let r = release t.heap n in record t { heap = r.heap; answers = t.answers ++ r.pages ∷ [] }

-- the limits of a heap: hugepages, cache, region, slack and window
abbrev pub limits : ℕ → ℕ → ℕ → ℕ → ℕ → HeapConfig
limits huge cache region slack window = record { huge = huge; cache = cache; region = region; slack = slack; window = window }

-- the answers, used pages and backed pages
pub record Summary : Type 0 where
  pub answers : List ℕ
  pub used : ℕ
  pub resident : ℕ

abbrev pub summary_of : Told → Summary
summary_of t = record { answers = t.answers; used = used_pages t.heap; resident = backed_pages t.heap }

abbrev pub after : HeapConfig → List Call → Told
after config calls = fold told (record { heap = opened config; runs = []; answers = [] }) calls

abbrev pub summary : HeapConfig → List Call → Summary
summary config calls = summary_of (after config calls)

abbrev pub sums : List ℕ → ℕ → ℕ → Summary
sums answers used resident = record { answers = answers; used = used; resident = resident }
