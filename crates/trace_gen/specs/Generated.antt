-- The generated trace as values: the lines of each call, as functions of its draws and of the live labels.
use Rattle.std.specs.Prelude.{ℕ, zero, suc, ◌+◌, ◌*◌, ◌/◌, ◌%◌, ◌==◌, nat_lt, not, ◌&&◌, List, [], ◌∷◌, ◌++◌, length, slice_index, if◌then◌else◌, Option, None, Some, option_to_list}
use Rattle.std.specs.List.{swap_remove}
use Rattle.tc_model.specs.declared.config.Head.TheVariants.{Cpus, Threads, Huge}
use Rattle.trace_reader.specs.declared.form.Form.{Form}
use Rattle.trace_reader.specs.declared.form.Form.TheVariants as form
use Rattle.trace_gen.specs.declared.kind.Kind.{Kind}
use Rattle.trace_gen.specs.declared.kind.Kind.TheVariants as kind
use Rattle.trace_gen.specs.Draws.{number_after, draw}

-- between two draws: the number behind which the next one comes, the live labels, and the next label
pub record State : Type 0 where
  pub number : ℕ
  pub live : List ℕ
  pub next : ℕ

-- the state after n draws
abbrev pub drawn : ℕ → State → State
drawn n s = record s { number = number_after n s.number }

-- half as many CPUs as threads, rounded up
abbrev pub cpus_of : ℕ → ℕ
cpus_of threads = (threads + 1) / 2

-- what kind of call a number from 0 to 99 stands for
abbrev pub kind_of : ℕ → List ℕ → Kind
kind_of chance live =
    if nat_lt chance 45 && not (length live == 0) then kind.Free
    else (if chance == 98 then kind.Drain else (if chance == 99 then kind.Release else kind.Malloc))

-- the bytes of a request: of 16 requests 12 have 1 to 1024, 3 have 0 to 32767 and 1 has up to 524272
abbrev pub size_of : ℕ → ℕ → ℕ
size_of scale drawn = if nat_lt scale 12 then drawn % 1024 + 1 else (if scale == 15 then drawn * 16 else drawn)

-- the place of the label that is freed
abbrev pub freed_place : State → ℕ
freed_place s = draw 0 s.number % length s.live

-- the line of a call of thread t
abbrev pub call_line : ℕ → ℕ → Kind → State → Form
call_line cpus t kind.Malloc s = form.Malloc t s.next (size_of (draw 0 s.number % 16) (draw 1 s.number))
call_line cpus t kind.Free s = form.Free t (slice_index s.live (freed_place s))
call_line cpus t kind.Drain s = form.Drain t (draw 0 s.number % cpus)
call_line cpus t kind.Release s = form.Release t (draw 0 s.number % 1000)

-- what stands behind it: an allocation's label is the last live one, and the last one takes the place of the freed one
abbrev pub after_call : Kind → State → State
after_call kind.Malloc s = record { number = number_after 2 s.number; live = s.live ++ s.next ∷ []; next = s.next + 1 }
after_call kind.Free s = record { number = number_after 1 s.number; live = swap_remove s.live (freed_place s) (slice_index s.live (freed_place s)); next = s.next }
after_call kind.Drain s = drawn 1 s
after_call kind.Release s = drawn 1 s

-- the kind of the call, by the second of its draws; the first is for its thread
abbrev pub next_kind : State → Kind
next_kind s = kind_of (draw 1 s.number % 100) s.live

-- every tenth call is preempted before one of its first eight instructions, by two draws
abbrev pub preempting : ℕ → ℕ → ℕ → State → Option Form
preempting cpus t i s = if i % 10 == 9 then Some (form.Move t (draw 0 s.number % 8 + 1) (draw 1 s.number % cpus)) else None

-- the state at which the call itself draws
abbrev pub at_call : ℕ → State → State
at_call i s = if i % 10 == 9 then drawn 4 s else drawn 2 s

-- the lines of call i
abbrev pub lines_of : ℕ → ℕ → State → List Form
lines_of threads i s =
    let cpus = cpus_of threads in
    let t = draw 0 s.number % threads in
    option_to_list (preempting cpus t i (drawn 2 s)) ++ call_line cpus t (next_kind s) (at_call i s) ∷ []

-- the state before call i
abbrev pub state_at : ℕ → ℕ → State
state_at seed zero = record { number = seed; live = []; next = 0 }
state_at seed (suc i) = after_call (next_kind (state_at seed i)) (at_call i (state_at seed i))

-- the heads: CPUs, threads, and 1024 hugepages
abbrev pub heads_of : ℕ → List Form
heads_of threads = form.Head Cpus (cpus_of threads) ∷ form.Head Threads threads ∷ form.Head Huge 1024 ∷ []

-- the heads, and the lines of the first calls
abbrev pub lines_before : ℕ → ℕ → ℕ → List Form
lines_before seed threads zero = heads_of threads
lines_before seed threads (suc i) = lines_before seed threads i ++ lines_of threads i (state_at seed i)
