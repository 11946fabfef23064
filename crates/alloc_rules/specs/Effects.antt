-- What an act at the heap, or at a shard, does there.
use Rattle.std.specs.Prelude.{◌≡◌, ◌↔◌, ℕ}
use Rattle.tc_model.specs.declared.answers.Answer.TheVariants.{Released as Unbacked}
use Rattle.heap_rules.specs.Heap.{Heap}
use Rattle.heap_rules.specs.ReleaseDoes.{Unbacks}
use Rattle.class_shard.specs.Shard.{Shard, IsEmpty}
use Rattle.call_steps.specs.declared.step.Asking.{Asking}
use Rattle.call_steps.specs.declared.step.Step.TheVariants as does
use Rattle.call_steps.specs.declared.step.HeapStep.TheVariants as heap
use Rattle.call_steps.specs.declared.step.ShardStep.TheVariants as shard
use Rattle.call_steps.specs.Local.{Local}
use Rattle.call_steps.specs.Calls.{About}
use Rattle.call_steps.specs.Fronts.{FrontRules}
use Rattle.alloc_rules.specs.declared.part.Part.{Part}
use Rattle.alloc_rules.specs.declared.part.Part.TheVariants as part
use Rattle.alloc_rules.specs.Machine.{after}
use Rattle.alloc_rules.specs.Answers.{Decides}

-- An act that is to release n pages unbacks them in the heap, as many or all that it may, and its answer is their number.
pub record Releases {P V R : Type 0} (before : Heap) (n : ℕ) (l : Local V R) (left : Part P × Local V R) : Type 0 where
  pub heap : Heap
  pub told : ℕ
  pub part : left.0 ≡ part.Heap heap
  pub answer : Decides l left.1 (Unbacked told)
  pub does : Unbacks before n (record { heap = heap; pages = told })

module _ {P V R : Type 0} (r : FrontRules P V R) (about : R → About) where
  abbrev pub ReleasesThere : Heap → Local V R → Type 0
  ReleasesThere h l = (n : ℕ) → l.step ≡ does.Heap (heap.Unback n) → Releases h n l (after r about (part.Heap h) l)

  -- An act that is to fetch misses, so that a new span is asked for, exactly where its shard has nothing to give.
  abbrev pub FindsThere : Shard → Local V R → Type 0
  FindsThere x l = (a : Asking) → l.step ≡ does.Shard (shard.Fetch a) → ((after r about (part.Shard x) l).1.step ≡ does.Heap (heap.NewSpan a)) ↔ IsEmpty x
