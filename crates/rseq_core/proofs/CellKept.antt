-- One instruction keeps what registers and row say of each other, and moves objects between hand and row.
use Rattle.std.proofs.Common.{◌≡◌, ℕ, ◌+◌, ◌-◌, ◌<◌, ◌≤◌, Bool, true, false, cond, eqb, ltb, List, [], ◌∷◌, ◌++◌}
use Rattle.std.proofs.Common.{length, take, get_or, reverse, min, sum_by, Option, Some, refl, ap, subst, arith, append_assoc}
use Rattle.std.specs.List.{slice_set}
use Rattle.std.proofs.lemmas.Bool.{cond_both, ltb-true, ltb-false}
use Rattle.std.proofs.lemmas.Bool.Decides.{nat_tests}
use Rattle.std.proofs.lemmas.List.{append-nil, reverse-append, take_more, take_more_set, take-set-le, length-set, length-append, length-take, length-reverse}
use Rattle.std.proofs.lemmas.List.Sums.{sum_by-append, sum_by-take-drop}
use Rattle.tc_units.specs.declared.units.Addr.{Addr}
use Rattle.cpu_slab.specs.Slots.{SlabRow, null, held}
use Rattle.cpu_slab.specs.Sound.{IsSoundRow}
use Rattle.rseq_core.specs.declared.sequence.Pc.{Pc}
use Rattle.rseq_core.specs.declared.sequence.Pc.TheVariants.{Header, Test, Copy, Commit}
use Rattle.rseq_core.specs.declared.sequence.Seq.{Seq}
use Rattle.rseq_core.specs.declared.sequence.Reply.{Reply}
use Rattle.rseq_core.specs.declared.sequence.Reply.TheVariants.{Empty, Full, Stopped}
use Rattle.rseq_core.specs.declared.regs.Regs.{Regs}
use Rattle.rseq_core.specs.Tables.{Cell, goes, closes, counted, cell, wanted, is_pop}
use Rattle.rseq_core.specs.Agrees.{HasLoaded, HasStored, HasCopied, Agrees, IsAtRest, IsSilent, Does}

-- what an instruction does to a row and registers
pub record CellOk (stopped pops : Bool) (old : SlabRow) (r : Regs) (c : Cell) : Type 0 where
  pub row : IsSoundRow c.row
  pub cap : c.row.cap ≡ old.cap
  pub slots : length c.row.slots ≡ length old.slots
  pub size : c.row.size ≡ old.size
  pub batch : c.row.batch ≡ old.batch
  pub agrees : Agrees pops c.row c.regs c.regs.pc
  pub thread : c.regs.thread ≡ r.thread
  pub class : c.regs.class ≡ r.class
  pub seq : c.regs.seq ≡ r.seq
  pub epoch : c.regs.epoch ≡ r.epoch
  pub does : Does stopped old r c c.reply

pub sum_by-reverse : (f : Addr → ℕ) (xs : List Addr) → sum_by f (reverse xs) ≡ sum_by f xs
sum_by-reverse f [] = refl
sum_by-reverse f (y ∷ ys) = omega (arith, ap (sum_by f) (reverse-append (y ∷ []) ys), sum_by-append f (reverse ys) (y ∷ []), sum_by-append f (y ∷ []) ys, sum_by-reverse f ys)

-- the next copy, or the commit
pub copied_at : (pops : Bool) (row : SlabRow) (r : Regs) (n : ℕ) (pc : Pc) → HasCopied pops row r n → HasCopied pops row (record r { pc = pc; ran = r.ran + 1 }) n
copied_at true row r n pc has = record { top = has.top; filled = has.filled; count = has.count; done = has.done; loaded = has.loaded }
copied_at false row r n pc has = record { top = has.top; free = has.free; count = has.count; some = has.some; done = has.done; nothing = has.nothing; stored = has.stored }

all_copied : (pops : Bool) (row : SlabRow) (r : Regs) (n : ℕ) → HasCopied pops row r n → r.count ≤ n → HasCopied pops row r r.count
all_copied true row r n has all = let e : n ≡ r.count = omega (arith, has.done) in subst (λ k. HasLoaded row r k) e has
all_copied false row r n has all = let e : n ≡ r.count = omega (arith, has.done) in subst (λ k. HasStored row r k) e has

next_agrees : (pops : Bool) (row : SlabRow) (r : Regs) (n : ℕ) → HasCopied pops row r n → (b : Bool) → ltb n r.count ≡ b
    → Agrees pops row (record r { pc = cond b (Copy n) Commit; ran = r.ran + 1 }) (cond b (Copy n) Commit)
next_agrees pops row r n has true is = (copied_at pops row r n (Copy n) has, ltb-true n r.count is)
next_agrees pops row r n has false is = copied_at pops row r r.count Commit (all_copied pops row r n has (ltb-false n r.count is))

load_at : (slots loaded whole : List Addr) (m n : ℕ) → m + 1 ≡ n → m < length slots
    → take n slots ++ reverse loaded ≡ whole → take m slots ++ reverse (loaded ++ get_or slots m null ∷ []) ≡ whole
load_at slots loaded whole m n next within so_far = grind (arith, take_more slots m null within, reverse-append loaded, append_assoc (take m slots))

store_at : (slots hand : List Addr) (top done m : ℕ) → top + done ≡ m → m < length slots → done < length hand → take m slots ≡ take top slots ++ take done hand
    → take (m + 1) (slice_set slots m (get_or hand done null)) ≡ take top (slice_set slots m (get_or hand done null)) ++ take (done + 1) hand
store_at slots hand top done m at within some so_far = grind (arith, take-set-le, take_more, take_more_set, append_assoc)

silent : (row : SlabRow) (r : Regs) (c : Cell) → held c.row ≡ held row → c.regs.hand.items ≡ r.hand.items → IsSilent row r c
silent row r c row_same hand = record { row = row_same; hand = hand }

-- an instruction that leaves the row as it was, and the registers of the same sequence
row_kept : (stopped pops : Bool) (row : SlabRow) (r : Regs) (c : Cell) → IsSoundRow row → row ≡ c.row → c.regs.thread ≡ r.thread → c.regs.class ≡ r.class → c.regs.seq ≡ r.seq → c.regs.epoch ≡ r.epoch
    → Agrees pops row c.regs c.regs.pc → Does stopped row r c c.reply → CellOk stopped pops row r c
row_kept stopped pops row r c ok same thread class seq epoch agrees does =
    record { row = rw (← same) ok; cap = rw (← same) refl; slots = rw (← same) refl; size = rw (← same) refl; batch = rw (← same) refl; agrees = rw (← same) agrees; thread = thread; class = class; seq = seq; epoch = epoch; does = does }

-- the test closes the sequence, or counts the objects that it moves
pub test_cell : (P : Cell → Type 0) (stopped pops : Bool) (row : SlabRow) (r : Regs) → P (closes row r Empty) → P (closes row r Full)
    → ((n : ℕ) → P (counted row r n)) → P (cell stopped pops row r Test)
test_cell P stopped pops row r none full goes = grind (arith)

-- The rows of the table.
begin_ok : (stopped pops : Bool) (row : SlabRow) (r : Regs) → IsSoundRow row → r.loaded.items ≡ [] → CellOk stopped pops row r (goes row r Header)
begin_ok stopped pops row r ok nothing = row_kept stopped pops row r (goes row r Header) ok refl refl refl refl refl nothing (record { row = refl; hand = refl })

closes_ok : (stopped pops : Bool) (row : SlabRow) (r : Regs) (reply : Reply) → IsSoundRow row
    → Does stopped row r (closes row r reply) (Some reply) → CellOk stopped pops row r (closes row r reply)
closes_ok stopped pops row r reply ok does = row_kept stopped pops row r (closes row r reply) ok refl refl refl refl refl refl does

header_ok : (stopped pops : Bool) (row : SlabRow) (r : Regs) → IsSoundRow row → r.loaded.items ≡ [] → CellOk stopped pops row r (cell stopped pops row r Header)
header_ok true pops row r ok nothing = closes_ok true pops row r Stopped ok (record { row = refl; hand = refl }, refl)
header_ok false pops row r ok nothing = row_kept false pops row r (cell false pops row r Header) ok refl refl refl refl refl (refl, nothing) (record { row = refl; hand = refl })

counted_ok : (stopped pops : Bool) (row : SlabRow) (r : Regs) (k : ℕ) → IsSoundRow row → HasCopied pops row (record r { count = k }) 0 → CellOk stopped pops row r (counted row r k)
counted_ok stopped pops row r k ok has =
    let next = next_agrees pops row (record r { count = k }) 0 has (ltb 0 k) refl in row_kept stopped pops row r (counted row r k) ok refl refl refl refl refl next (record { row = refl; hand = refl })

pub wanted_some : (s : Seq) (hand : List Addr) → is_pop s ≡ false → wanted s hand ≤ length hand
wanted_some s hand is = grind (arith)

pub first_loaded : (row : SlabRow) (r : Regs) → r.top ≡ row.top → 0 < r.top → r.loaded.items ≡ [] → HasLoaded row (record r { count = min (wanted r.seq r.hand.items) r.top }) 0
first_loaded row r top filled nothing = grind (arith, append-nil)

pub first_stored : (row : SlabRow) (r : Regs) → r.top ≡ row.top → r.top < row.cap → r.loaded.items ≡ []
    → wanted r.seq r.hand.items ≤ length r.hand.items → HasStored row (record r { count = min (wanted r.seq r.hand.items) (row.cap - r.top) }) 0
first_stored row r top free nothing some = grind (arith, append-nil)

below : (a b : ℕ) → a ≤ b → eqb a b ≡ false → a < b
below a b most apart = grind (arith, nat_tests)

test_ok : (stopped pops : Bool) (row : SlabRow) (r : Regs) → IsSoundRow row → pops ≡ is_pop r.seq → r.top ≡ row.top → r.loaded.items ≡ [] → CellOk stopped pops row r (cell stopped pops row r Test)
test_ok stopped pops row r ok way top nothing = grind (arith, nat_tests, cond_both, closes_ok, counted_ok, first_loaded, first_stored, below, wanted_some)

pub copy_ok : (stopped pops : Bool) (row : SlabRow) (r : Regs) (done : ℕ) → IsSoundRow row → HasCopied pops row r done → done < r.count → CellOk stopped pops row r (cell stopped pops row r (Copy done))
copy_ok stopped pops row r done ok has more = grind (arith, load_at, next_agrees, row_kept, length-set, store_at, take-set-le)

pub loaded_length : (slots loaded : List Addr) (top n : ℕ) → n ≤ top → top ≤ length slots → take (top - n) slots ++ reverse loaded ≡ take top slots → length loaded ≡ n
loaded_length slots loaded top n low within is =
    omega (arith, ap length is, length-append (take (top - n) slots) (reverse loaded), length-reverse loaded, length-take (top - n) slots, length-take top slots)

pub commit_ok : (stopped pops : Bool) (row : SlabRow) (r : Regs) → IsSoundRow row → HasCopied pops row r r.count → CellOk stopped pops row r (cell stopped pops row r Commit)
commit_ok stopped pops row r ok has = grind (arith, loaded_length)

pub cell_ok : (stopped pops : Bool) (row : SlabRow) (r : Regs) (pc : Pc) → IsSoundRow row
    → pops ≡ is_pop r.seq → Agrees pops row r pc → CellOk stopped pops row r (cell stopped pops row r pc)
cell_ok stopped pops row r pc ok way has = grind (arith, begin_ok, header_ok, test_ok, copy_ok, commit_ok)

-- and so it only moves objects: any sum over them stays
silent_moves : (f : Addr → ℕ) (row : SlabRow) (r : Regs) (c : Cell) → IsSilent row r c → sum_by f (held c.row) + sum_by f c.regs.hand.items ≡ sum_by f (held row) + sum_by f r.hand.items
silent_moves f row r c is = omega (arith, ap (sum_by f) is.row, ap (sum_by f) is.hand)

pub does_moves : (f : Addr → ℕ) (stopped : Bool) (row : SlabRow) (r : Regs) (c : Cell) (o : Option Reply)
    → Does stopped row r c o → sum_by f (held c.row) + sum_by f c.regs.hand.items ≡ sum_by f (held row) + sum_by f r.hand.items
does_moves f stopped row r c o is = grind (arith, silent_moves, sum_by-append, sum_by-reverse, sum_by-take-drop)

-- where a stopper stands, a sequence at rest stays so, and the row stays as it is
pub record RestsThen (old : SlabRow) (c : Cell) : Type 0 where
  pub rests : IsAtRest c.regs.pc
  pub row : c.row ≡ old

pub cell_rests : (pops : Bool) (row : SlabRow) (r : Regs) (pc : Pc) → IsAtRest pc → RestsThen row (cell true pops row r pc)
cell_rests pops row r x3 rests = grind (arith)
