-- What the draws of a generated trace give stays in bounds.
use Rattle.std.proofs.Common.{◌≡◌, ℕ, ◌+◌, ◌*◌, ◌%◌, ◌<◌, ◌≤◌, ◌==◌, ◌&&◌, not, nat_lt, Bool, true, if◌then◌else◌, List, [], ◌∷◌, length, arith}
use Rattle.std.proofs.lemmas.Nat.{mod_below}
use Rattle.trace_gen.specs.declared.kind.Kind.TheVariants.{Malloc, Free, Drain, Release}
use Rattle.trace_gen.specs.Draws.{next_number, number_after, draw}
use Rattle.trace_gen.specs.Generated.{cpus_of, kind_of, size_of}

-- a draw is at most 32767
next_number-below : (x : ℕ) → next_number x < 2147483648
unfolding next_number
next_number-below x = mod_below (x * 1103515245 + 12345) 2147483648 (omega arith)

pub draw-below : (n x : ℕ) → draw n x < 32768
draw-below n x = omega (arith, next_number-below (number_after n x))

-- a number drawn for a thread, or for a CPU, is one
pub thread-below : (threads n x : ℕ) → 1 ≤ threads → draw n x % threads < threads
thread-below threads n x some = mod_below (draw n x) threads some

pub cpu-below : (threads n x : ℕ) → 1 ≤ threads → draw n x % cpus_of threads < cpus_of threads
cpu-below threads n x some = mod_below (draw n x) (cpus_of threads) (omega arith)

-- a request has few bytes
size-below : (small large : Bool) (drawn : ℕ) → drawn < 32768 → (if small then drawn % 1024 + 1 else (if large then drawn * 16 else drawn)) ≤ 1099511627776
size-below small large drawn few = grind (arith)

pub size_of-below : (n m x : ℕ) → size_of (draw n x % 16) (draw m x) ≤ 1099511627776
size_of-below n m x = size-below (nat_lt (draw n x % 16) 12) (draw n x % 16 == 15) (draw m x) (draw-below m x)

-- only where a label is live is a call a free
none_is_freed : (few last one : Bool) → (if few && not true then Free else (if last then Drain else (if one then Release else Malloc))) ≡ Free → ⊥
none_is_freed x0 x1 x2 is = grind (arith)

pub free-has_label : (chance : ℕ) (live : List ℕ) → kind_of chance live ≡ Free → 0 < length live
free-has_label chance [] is = absurd (none_is_freed (nat_lt chance 45) (chance == 98) (chance == 99) is)
free-has_label chance (label ∷ live) is = omega arith
