-- The first act of a call, over any front-end: it is of that call, and decides nothing before it is done. How a call ends.
use Rattle.std.proofs.Common.{◌≡◌, ℕ, ◌+◌, true, List, drop, Option, Some, refl, arith, ◌<◌, is_some, option_map, slice_get, IfSome}
use Rattle.alloc_rules.proofs.Common.{eq-eqb, class_of, Class, Label, Call, Malloc, Free, Release, Drain, Resize, Planned, asking, publishing, got, gets}
use Rattle.alloc_rules.proofs.Common.{Step, FrontCalls, AreEntries, IsEntry, step_or, first_of_call, first_act, About, undecided, option_map_or}
use Rattle.alloc_rules.proofs.Common.{Asking, New, Regs, Local, next_call, under, call_about, IsOf, doing_of, doing_about, IsOwn, is_under_way}
use Rattle.call_steps.specs.declared.step.Step.TheVariants as does
use Rattle.call_steps.specs.declared.step.ShardStep.TheVariants as shard

-- the first act of an allocation and its registers, by its class, if it has one
abbrev pub first_of_malloc : {V R : Type 0} → FrontCalls V R → V → Option Class → Label → ℕ → Step R
first_of_malloc e v k label size =
    let a : Asking = record { label = label; size = size } in option_map_or (λ k. step_or (does.Shard (shard.Fetch a)) (e.first v a)) k (does.Heap (New label size))

abbrev pub regs_of_malloc : {V R : Type 0} → FrontCalls V R → Option Class → Regs → Regs
regs_of_malloc e k r = option_map_or (λ k. e.to_first (record r { class = k })) k r

-- a call ends: a row of the front-end comes first, if there is one
abbrev pub closes : {V R : Type 0} → FrontCalls V R → Local V R → Option R → Local V R
closes e l row = option_map_or (λ row. record l { step = does.Front row }) row (next_call e (record l { ended = l.ended + 1 }) l.rest)

-- a call that isn't decided isn't counted as one that is
pub undecided_under : {R : Type 0} (about : R → About) (s : Step R) → is_some (undecided about s) ≡ true → under about s ≡ 0
undecided_under about s is = grind arith

-- a call of the front-end's own has a row, as its law has it for calls that are planned
abbrev pub HasRow : {V R : Type 0} → FrontCalls V R → V → Option Planned → Type 0
HasRow e v o = IfSome o (λ (p : Planned). IsOwn p.call → is_some (e.other v p.call) ≡ true)

-- A call's first act: it asks for the label that the call allocates, publishes none, and is of the call.
pub record IsFirst {R : Type 0} (about : R → About) (call : Call) (s : Step R) : Type 0 where
  pub asks : (x : ℕ) → asking x (doing_of about s) ≡ got x call
  pub publishes : (x : ℕ) → publishing x (doing_of about s) ≡ 0
  pub of : (c : Call) → undecided about s ≡ Some c → call ≡ c
  pub under : under about s ≡ 0

-- a row of the front-end is about what another step is, so it does for it
entry_first : {R : Type 0} (about : R → About) (call : Call) (a : About) (other : Step R) (o : Option R) → IsEntry about a o → call_about a ≡ Some call
    → ((x : ℕ) → asking x (doing_about a) ≡ got x call) → ((x : ℕ) → publishing x (doing_about a) ≡ 0) → IsFirst about call other → IsFirst about call (step_or other o)
entry_first about call a other o entry of asks publishes first = grind arith

module _ {V R : Type 0} (e : FrontCalls V R) (about : R → About) (entries : AreEntries e about) (v : V) where
  first_malloc : (c : Option Class) (label : Label) (size : ℕ) → IsFirst about (Malloc label size) (first_of_malloc e v c label size)
  first_malloc c label size = grind (arith, entry_first)

  first_own : (call : Call) → ((x : ℕ) → got x call ≡ 0) → IsFirst about call (step_or does.Ended (e.other v call))
  first_own call none = grind (arith, entry_first)

  pub first_call : (call : Call) → IsFirst about call (first_of_call e v call)
  first_call (Malloc label size) = first_malloc (class_of e.rows size) label size
  first_call (Free label) = record { asks = λ x. refl; publishes = λ x. refl; of = λ c is. cc; under = refl }
  first_call (Release pages) = record { asks = λ x. refl; publishes = λ x. refl; of = λ c is. cc; under = refl }
  first_call (Drain cpu) = first_own (Drain cpu) (λ x. refl)
  first_call (Resize cpu class cap) = first_own (Resize cpu class cap) (λ x. refl)

  pub first_is_of : (o : Option Planned) → IsOf about (first_act e v o) (option_map (λ (p : Planned). p.call) o)
  first_is_of o c is = grind (arith, first_call)

  pub first_under : (o : Option Planned) → under about (first_act e v o) ≡ 0
  first_under o = grind (arith, first_call)

  -- and a call is under way
  malloc_way : (c : Option Class) (label : Label) (size : ℕ) (o : Option R) → is_under_way (step_or (does.Shard (shard.Fetch (record { label = label; size = size }))) o) ≡ true
  malloc_way c label size o = grind arith

  call_way : (call : Call) → (IsOwn call → is_some (e.other v call) ≡ true) → is_under_way (first_of_call e v call) ≡ true
  call_way call there = grind (arith, malloc_way)

  pub next_way : (o : Option Planned) → HasRow e v o → is_under_way (first_act e v o) ≡ is_some (option_map (λ (p : Planned). p.call) o)
  next_way o there = grind (arith, call_way)

  -- what is asked for and published then
  pub next_weighs : (x : ℕ) (rest : List Planned)
      → (asking x (doing_of about (first_act e v (slice_get rest 0))) + gets x (drop 1 rest) ≡ gets x rest) × (publishing x (doing_of about (first_act e v (slice_get rest 0))) ≡ 0)
  next_weighs x rest = grind (arith, first_call)

  pub asks_first : (o : Option Planned) (label : Label) (size : ℕ) → option_map (λ (p : Planned). p.call) o ≡ Some (Malloc label size) → 0 < asking label.0 (doing_of about (first_act e v o))
  asks_first o label size is = grind (arith, eq-eqb, first_call)
