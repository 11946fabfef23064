-- What a current thread's registers say of the row of its sequence, and what a sequence does to row and hand.
use Rattle.std.specs.Prelude.{◌≡◌, ℕ, ◌+◌, ◌-◌, ◌<◌, ◌≤◌, Bool, true, false, List, [], ◌++◌, length, take, drop, reverse, min, Option, Some, None}
use Rattle.tc_units.specs.declared.units.Addr.{Addr}
use Rattle.cpu_slab.specs.Slots.{SlabRow, held}
use Rattle.rseq_core.specs.declared.sequence.Pc.{Pc}
use Rattle.rseq_core.specs.declared.sequence.Pc.TheVariants.{Begin, Header, Test, Copy, Commit}
use Rattle.rseq_core.specs.declared.sequence.Reply.{Reply}
use Rattle.rseq_core.specs.declared.sequence.Reply.TheVariants.{Popped, Pushed, Empty, Full, Stopped}
use Rattle.rseq_core.specs.declared.regs.Regs.{Regs}
use Rattle.rseq_core.specs.Tables.{Cell, wanted}

-- So many are loaded, where there are objects: with what is below them, they are the objects.
pub record HasLoaded (row : SlabRow) (r : Regs) (n : ℕ) : Type 0 where
  pub top : r.top ≡ row.top
  pub filled : 0 < r.top
  pub count : r.count ≡ min (wanted r.seq r.hand.items) r.top
  pub done : n ≤ r.count
  pub loaded : take (r.top - n) row.slots ++ reverse r.loaded.items ≡ take r.top row.slots

-- So many are stored above the objects, where there is capacity: the first of the hand.
pub record HasStored (row : SlabRow) (r : Regs) (n : ℕ) : Type 0 where
  pub top : r.top ≡ row.top
  pub free : r.top < row.cap
  pub count : r.count ≡ min (wanted r.seq r.hand.items) (row.cap - r.top)
  pub some : r.count ≤ length r.hand.items
  pub done : n ≤ r.count
  pub nothing : r.loaded.items ≡ []
  pub stored : take (r.top + n) row.slots ≡ take r.top row.slots ++ take n r.hand.items

abbrev pub HasCopied : Bool → SlabRow → Regs → ℕ → Type 0
HasCopied true row r done = HasLoaded row r done
HasCopied false row r done = HasStored row r done

-- Past Header the register is the top. Past Test the count fits, and what is copied are these objects.
abbrev pub Agrees : Bool → SlabRow → Regs → Pc → Type 0
Agrees pops row r Begin = r.loaded.items ≡ []
Agrees pops row r Header = r.loaded.items ≡ []
Agrees pops row r Test = (r.top ≡ row.top) × (r.loaded.items ≡ [])
Agrees pops row r (Copy done) = HasCopied pops row r done × (done < r.count)
Agrees pops row r Commit = HasCopied pops row r r.count

-- no sequence is past Header
abbrev pub IsAtRest : Pc → Type 0
IsAtRest Begin = Unit {0}
IsAtRest Header = Unit {0}
IsAtRest Test = ⊥
IsAtRest (Copy done) = ⊥
IsAtRest Commit = ⊥

-- What the instruction of a current thread asks of the row: its register is the top, its count fits, and there is room.
pub record CanLoad (row : SlabRow) (r : Regs) : Type 0 where
  pub top : r.top ≡ row.top
  pub fits : r.count ≤ r.top

pub record CanStore (row : SlabRow) (r : Regs) : Type 0 where
  pub top : r.top ≡ row.top
  pub fits : r.top + r.count ≤ row.cap
  pub some : r.count ≤ length r.hand.items

abbrev pub IsAble : Bool → SlabRow → Regs → Pc → Type 0
IsAble pops row r Begin = Unit {0}
IsAble pops row r Header = Unit {0}
IsAble pops row r Test = r.top ≡ row.top
IsAble true row r (Copy done) = CanLoad row r × (done < r.count) × (0 < r.loaded.spare)
IsAble false row r (Copy done) = CanStore row r × (done < r.count)
IsAble true row r Commit = CanLoad row r × (length r.loaded.items ≤ r.hand.spare)
IsAble false row r Commit = CanStore row r

-- Nothing is done to objects and hand.
pub record IsSilent (old : SlabRow) (r : Regs) (c : Cell) : Type 0 where
  pub row : held c.row ≡ held old
  pub hand : c.regs.hand.items ≡ r.hand.items

-- There are objects, and as many as are wanted, or all, come to the hand, last first.
pub record IsPop (old : SlabRow) (r : Regs) (c : Cell) : Type 0 where
  pub got : List Addr
  pub filled : 0 < old.top
  pub some : length got ≡ min (wanted r.seq r.hand.items) old.top
  pub row : held old ≡ held c.row ++ reverse got
  pub hand : c.regs.hand.items ≡ r.hand.items ++ got

-- There is capacity, and as many objects as are wanted, or as there is capacity for, go from the front of the hand.
pub record IsPush (old : SlabRow) (r : Regs) (c : Cell) (n : ℕ) : Type 0 where
  pub free : old.top < old.cap
  pub some : n ≡ min (wanted r.seq r.hand.items) (old.cap - old.top)
  pub few : n ≤ length r.hand.items
  pub row : held c.row ≡ held old ++ take n r.hand.items
  pub hand : c.regs.hand.items ≡ drop n r.hand.items

-- An instruction with no reply does nothing to objects and hand; one with a reply does the whole sequence, or nothing.
abbrev pub Does : Bool → SlabRow → Regs → Cell → Option Reply → Type 0
Does stopped old r c None = IsSilent old r c
Does stopped old r c (Some Stopped) = IsSilent old r c × (stopped ≡ true)
Does stopped old r c (Some Empty) = IsSilent old r c × (held old ≡ [])
Does stopped old r c (Some Full) = IsSilent old r c × (old.top ≡ old.cap)
Does stopped old r c (Some Popped) = IsPop old r c
Does stopped old r c (Some (Pushed n)) = IsPush old r c n
