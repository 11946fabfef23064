-- What a call line says: its thread, what it names of its call, and the answer. All numbers are canonical decimals of at
-- most 64 bits.
use Rattle.std.specs.Prelude.{ℕ, Bool, true, false, ◌==◌, ◌&&◌, List, [], ◌∷◌, drop, slice_get, Option, Some, None, if◌then◌else◌, codes, option_map}
use Rattle.std.specs.Option.{option_and_then}
use Rattle.std.specs.Str.{bytes_eq}
use Rattle.tc_units.specs.Decimal.{number_of}
use Rattle.tc_model.specs.declared.calls.Call.{Call}
use Rattle.tc_model.specs.declared.calls.Call.TheVariants as call
use Rattle.tc_model.specs.declared.answers.Answer.{Answer}
use Rattle.tc_model.specs.declared.answers.Answer.TheVariants as answer
use Rattle.journal_audit.specs.declared.told.Place.{Place}
use Rattle.journal_audit.specs.declared.told.Drained.{Drained}
use Rattle.journal_audit.specs.declared.told.Drained.TheVariants as drained
use Rattle.journal_audit.specs.declared.told.Resized.{Resized}
use Rattle.journal_audit.specs.declared.told.Resized.TheVariants as resized
use Rattle.journal_audit.specs.declared.told.Act.{Act}
use Rattle.journal_audit.specs.declared.told.Act.TheVariants.{Malloc, Free, Release, Drain, Resize}
use Rattle.journal_audit.specs.declared.told.Told.{Told}

-- the number of a field
abbrev pub number : List ℕ → Option ℕ
number field = number_of 18446744073709551615 field

-- what stands in a line whose first field is a number, by that number
abbrev pub with_number : {A : Type 0} → List (List ℕ) → (ℕ → Option A) → Option A
with_number fields said = option_and_then said (option_and_then number (slice_get fields 0))

-- `ADDR LEN`, or `none`
abbrev pub place_by : List (List ℕ) → Option (Option Place)
place_by (word ∷ []) = if bytes_eq word (codes "none") then Some None else None
place_by (addr ∷ len ∷ []) = option_and_then (λ a. option_map (λ n. Some (record { addr = a; len = n })) (number len)) (number addr)
place_by fields = None

-- `ADDR`, or `none`
abbrev pub address_by : List (List ℕ) → Option (Option ℕ)
address_by (field ∷ []) = if bytes_eq field (codes "none") then Some None else option_map (λ addr. Some addr) (number field)
address_by fields = None

-- `ok OBJECTS`, or `busy OWNER`
abbrev pub drained_by : List (List ℕ) → Option Drained
drained_by (word ∷ field ∷ []) =
    if bytes_eq word (codes "ok") then option_map (λ n. drained.Objects n) (number field)
    else (if bytes_eq word (codes "busy") then option_map (λ n. drained.Busy n) (number field) else None)
drained_by fields = None

-- `ok`, `busy OWNER`, `overstatic CAP` or `overlimit SUM`
abbrev pub resized_by : List (List ℕ) → Option Resized
resized_by (word ∷ []) = if bytes_eq word (codes "ok") then Some resized.Set else None
resized_by (word ∷ field ∷ []) =
    if bytes_eq word (codes "busy") then option_map (λ n. resized.Busy n) (number field)
    else (if bytes_eq word (codes "overstatic") then option_map (λ n. resized.OverStatic n) (number field)
    else (if bytes_eq word (codes "overlimit") then option_map (λ n. resized.OverLimit n) (number field) else None))
resized_by fields = None

-- The fields behind the thread, by the kind of the call.
-- `L ADDR LEN`, or `L none`
abbrev pub malloc_by : List (List ℕ) → Option Act
malloc_by fields = with_number fields (λ label. option_map (λ block. Malloc label block) (place_by (drop 1 fields)))

-- `L ADDR`, or `L none`
abbrev pub free_by : List (List ℕ) → Option Act
free_by fields = with_number fields (λ label. option_map (λ addr. Free label addr) (address_by (drop 1 fields)))

-- `PAGES`
abbrev pub release_by : List (List ℕ) → Option Act
release_by (field ∷ []) = option_map (λ pages. Release pages) (number field)
release_by fields = None

-- `C ok OBJECTS`, or `C busy OWNER`
abbrev pub drain_by : List (List ℕ) → Option Act
drain_by fields = with_number fields (λ cpu. option_map (λ answer. Drain cpu answer) (drained_by (drop 1 fields)))

-- `C K N` with `ok`, `busy OWNER`, `overstatic CAP` or `overlimit SUM` behind it
abbrev pub resize_by : List (List ℕ) → Option Act
resize_by fields =
    with_number fields (λ cpu.
    with_number (drop 1 fields) (λ class.
    with_number (drop 2 fields) (λ cap.
    option_map (λ answer. Resize cpu class cap answer) (resized_by (drop 3 fields)))))

-- the kind of a call, by its letter
abbrev pub act_by : List ℕ → List (List ℕ) → Option Act
act_by letter fields =
    if bytes_eq letter (codes "a") then malloc_by fields
    else (if bytes_eq letter (codes "f") then free_by fields
    else (if bytes_eq letter (codes "r") then release_by fields
    else (if bytes_eq letter (codes "d") then drain_by fields
    else (if bytes_eq letter (codes "z") then resize_by fields else None))))

-- what a line says, where it has the form of a call's line: a letter, a thread, and what the kind of call has behind them
abbrev pub told_by : List (List ℕ) → Option Told
told_by [] = None
told_by (letter ∷ fields) = with_number fields (λ thread. option_map (λ act. record { thread = thread; act = act }) (act_by letter (drop 1 fields)))

-- whether a line names this call; of a release it names nothing
abbrev pub names : Act → Call → Bool
names (Malloc label block) (call.Malloc l size) = label == l.0
names (Free label addr) (call.Free l) = label == l.0
names (Release pages) (call.Release wanted) = true
names (Drain cpu answer) (call.Drain c) = cpu == c.0
names (Resize cpu class cap answer) (call.Resize c k n) = (cpu == c.0) && (class == k.0) && (cap == n)
names act call = false

-- the answer that a line tells
abbrev pub malloc_answer : Option Place → Answer
malloc_answer None = answer.NoBlock
malloc_answer (Some place) = answer.Block (record { 0 = place.addr }) place.len

abbrev pub free_answer : Option ℕ → Answer
free_answer None = answer.FreedNull
free_answer (Some addr) = answer.Freed (record { 0 = addr })

abbrev pub answer_of : Act → Answer
answer_of (Malloc label block) = malloc_answer block
answer_of (Free label addr) = free_answer addr
answer_of (Release pages) = answer.Released pages
answer_of (Drain cpu (drained.Objects n)) = answer.Drained n
answer_of (Drain cpu (drained.Busy owner)) = answer.Busy (record { 0 = owner })
answer_of (Resize cpu class cap resized.Set) = answer.CapSet
answer_of (Resize cpu class cap (resized.Busy owner)) = answer.Busy (record { 0 = owner })
answer_of (Resize cpu class cap (resized.OverStatic most)) = answer.OverStatic most
answer_of (Resize cpu class cap (resized.OverLimit sum)) = answer.OverLimit sum
