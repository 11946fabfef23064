-- What is said of a current thread's registers is enough for its next instruction, which keeps all room.
use Rattle.std.proofs.Common.{◌≡◌, ℕ, ◌≤◌, Bool, true, List, length, refl, arith}
use Rattle.std.proofs.lemmas.List.{length-append, length-drop}
use Rattle.tc_units.specs.declared.units.Addr.{Addr}
use Rattle.tc_units.specs.Bag.{Contents}
use Rattle.cpu_slab.specs.Slots.{SlabRow}
use Rattle.cpu_slab.specs.Sound.{IsSoundRow}
use Rattle.rseq_core.specs.declared.sequence.Pc.{Pc}
use Rattle.rseq_core.specs.declared.sequence.Reply.{Reply}
use Rattle.rseq_core.specs.declared.regs.Regs.{Regs}
use Rattle.rseq_core.specs.Bags.{room, appended, without_first, emptied}
use Rattle.rseq_core.specs.Tables.{wanted, closes, cell}
use Rattle.rseq_core.specs.Agrees.{HasLoaded, HasStored, Agrees, CanLoad, CanStore, IsAble}
use Rattle.rseq_core.proofs.CellKept.{loaded_length, test_cell}

-- room for all that a pop wants
pub record HasPopRoom (r : Regs) : Type 0 where
  pub loaded : wanted r.seq r.hand.items ≤ room r.loaded
  pub hand : wanted r.seq r.hand.items ≤ r.hand.spare

can_load : (row : SlabRow) (r : Regs) (n : ℕ) → HasLoaded row r n → CanLoad row r
can_load row r n has = record { top = has.top; fits = omega (arith, has.count) }

can_store : (row : SlabRow) (r : Regs) (n : ℕ) → IsSoundRow row → HasStored row r n → CanStore row r
can_store row r n ok has = record { top = has.top; fits = omega (arith, has.count, has.top, ok.top); some = has.some }

has_length : (row : SlabRow) (r : Regs) (n : ℕ) → IsSoundRow row → HasLoaded row r n → length r.loaded.items ≡ n
has_length row r n ok has = loaded_length row.slots r.loaded.items r.top n (omega (arith, has.done, has.count)) (omega (arith, has.top, ok.top, ok.cap)) has.loaded

pub able_from_agrees : (pops : Bool) (row : SlabRow) (r : Regs) (pc : Pc) → IsSoundRow row → (pops ≡ true → HasPopRoom r) → Agrees pops row r pc → IsAble pops row r pc
able_from_agrees pops row r pc ok rooms has = grind (arith, can_load, has_length, can_store)

-- all room stays
pub record KeepsRoom (r new : Regs) : Type 0 where
  pub hand : room new.hand ≡ room r.hand
  pub loaded : room new.loaded ≡ room r.loaded

room_appended : (bag : Contents Addr) (objects : List Addr) → length objects ≤ bag.spare → room (appended bag objects) ≡ room bag
room_appended bag objects low = omega (arith, length-append bag.items objects)

room_without : (bag : Contents Addr) (n : ℕ) → n ≤ length bag.items → room (without_first n bag) ≡ room bag
room_without bag n low = omega (arith, length-drop n bag.items)

room_emptied : (bag : Contents Addr) → room (emptied bag) ≡ room bag
room_emptied bag = omega arith

closes_room : (row : SlabRow) (r : Regs) (reply : Reply) → KeepsRoom r (closes row r reply).regs
closes_room row r reply = record { hand = refl; loaded = room_emptied r.loaded }

pub cell_room : (stopped pops : Bool) (row : SlabRow) (r : Regs) (pc : Pc) → IsAble pops row r pc → KeepsRoom r (cell stopped pops row r pc).regs
cell_room stopped pops row r pc able = grind (arith, room_emptied, test_cell, closes_room, room_appended, room_without)
