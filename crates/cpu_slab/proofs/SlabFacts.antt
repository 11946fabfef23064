-- What a change of one class makes of a slab, over values.
use Rattle.std.proofs.Common.{◌≡◌, ◌≢◌, ℕ, zero, suc, ◌+◌, ◌*◌, ◌<◌, ◌≤◌, inl, inr, ◌⊎◌, List, [], ◌∷◌, ◌++◌, length, get_or, refl, ap, ◌∙◌, arith}
use Rattle.std.specs.List.{slice_set, flat_map}
use Rattle.std.proofs.lemmas.Bool.{cases_eq}
use Rattle.std.proofs.lemmas.List.{length-set, get_or-set_same, get_or-set_other}
use Rattle.std.proofs.lemmas.List.Sums.{sum_by-set}
use Rattle.std.proofs.lemmas.List.Elements.{All-set}
use Rattle.tc_units.specs.declared.units.Addr.{Addr}
use Rattle.cpu_slab.specs.Slots.{SlabRow, CpuSlab, no_row, row_at, with_cap, with_row, with_slot, with_top}
use Rattle.cpu_slab.specs.Growth.{used}
use Rattle.cpu_slab.specs.Sound.{IsSoundRow, IsSoundSlab}

-- rows after a write
pub row_same : (rows : List SlabRow) (k : ℕ) (row : SlabRow) → k < length rows → get_or (slice_set rows k row) k no_row ≡ row
row_same rows k row low = get_or-set_same rows k row no_row low

pub row_other : (rows : List SlabRow) (k j : ℕ) (row : SlabRow) → j ≢ k → get_or (slice_set rows k row) j no_row ≡ get_or rows j no_row
row_other rows k j row apart = get_or-set_other rows k j row no_row apart

-- the row of a class is sound and has its slots
pub row_sound : (slab : CpuSlab) (k : ℕ) → IsSoundSlab slab → k < length slab.rows → IsSoundRow (row_at slab k)
row_sound slab k sound low = sound.rows k no_row low

pub row_slots : (slab : CpuSlab) (k : ℕ) → IsSoundSlab slab → k < length slab.rows → length (row_at slab k).slots ≡ slab.most
row_slots slab k sound low = sound.slots k no_row low

-- one row is written
pub used_set : (rows : List SlabRow) (k : ℕ) (row : SlabRow) → k < length rows
    → used (slice_set rows k row) + (get_or rows k no_row).cap * (get_or rows k no_row).size ≡ used rows + row.cap * row.size
used_set rows k row low = sum_by-set (λ (r : SlabRow). r.cap * r.size) rows k row no_row low

-- a row is written that keeps its capacity and size
pub used_same : (rows : List SlabRow) (k : ℕ) (row : SlabRow) → k < length rows → row.cap ≡ (get_or rows k no_row).cap → row.size ≡ (get_or rows k no_row).size
    → used (slice_set rows k row) ≡ used rows
used_same rows k row low cap size = grind (arith, used_set)

-- a slab is sound where the row that is written is
pub sound_with : (slab : CpuSlab) (k : ℕ) (row : SlabRow) → IsSoundSlab slab → IsSoundRow row → length row.slots ≡ slab.most
    → used (slice_set slab.rows k row) ≤ slab.limit → IsSoundSlab (with_row slab k row)
sound_with slab k row sound ok slots budget =
    record {
      limits = record { classes = omega (arith, length-set slab.rows k row, sound.limits.classes); some = sound.limits.some; most = sound.limits.most; limit = sound.limits.limit };
      rows = All-set IsSoundRow slab.rows k row ok sound.rows;
      slots = All-set (λ (r : SlabRow). length r.slots ≡ slab.most) slab.rows k row slots sound.slots;
      budget = budget;
    }

-- one slot is stored
pub sound_stored : (slab : CpuSlab) (k i : ℕ) (a : Addr) → k < length slab.rows → IsSoundSlab slab → IsSoundSlab (with_slot slab k i a)
sound_stored slab k i a low sound = grind (arith, length-set, row_slots, row_sound, sound_with, used_same)

-- a top is set
pub sound_top : (slab : CpuSlab) (k n : ℕ) → k < length slab.rows → n ≤ (row_at slab k).cap → IsSoundSlab slab → IsSoundSlab (with_top slab k n)
sound_top slab k n low within sound = grind (arith, row_slots, row_sound, sound_with, used_same)

-- a capacity is set
pub sound_cap : (slab : CpuSlab) (k n : ℕ) → k < length slab.rows → (row_at slab k).top ≤ n → n ≤ slab.most → used (with_cap slab k n).rows ≤ slab.limit → IsSoundSlab slab → IsSoundSlab (with_cap slab k n)
sound_cap slab k n low above below budget sound = grind (arith, row_slots, sound_with, row_sound)

-- what a function of rows gives, joined, stays where it is the same of the row written
pub flat_map-set_same : {A : Type 0} (f : SlabRow → List A) (rows : List SlabRow) (k : ℕ) (row : SlabRow) → f row ≡ f (get_or rows k no_row)
    → flat_map f (slice_set rows k row) ≡ flat_map f rows
flat_map-set_same f [] k row same = refl
flat_map-set_same f (r ∷ rs) zero row same = ap (λ xs. xs ++ flat_map f rs) same
flat_map-set_same f (r ∷ rs) (suc k) row same = ap (λ xs. f r ++ xs) (flat_map-set_same f rs k row same)

-- what is said of each row stays where it is said of the row written
field_by : {A : Type 0} (f : SlabRow → A) (rows : List SlabRow) (k : ℕ) (row : SlabRow) → k < length rows → f row ≡ f (get_or rows k no_row)
    → (j : ℕ) → (j ≡ k) ⊎ (j ≡ k → ⊥) → f (get_or (slice_set rows k row) j no_row) ≡ f (get_or rows j no_row)
field_by f rows k row low same j (inl is) = rw is (ap f (row_same rows k row low) ∙ same)
field_by f rows k row low same j (inr apart) = ap f (row_other rows k j row apart)

pub field_same : {A : Type 0} (f : SlabRow → A) (rows : List SlabRow) (k : ℕ) (row : SlabRow) → k < length rows → f row ≡ f (get_or rows k no_row)
    → (j : ℕ) → f (get_or (slice_set rows k row) j no_row) ≡ f (get_or rows j no_row)
field_same f rows k row low same j = field_by f rows k row low same j (cases_eq j k)

-- tops among them
pub tops_same : (rows : List SlabRow) (k : ℕ) (row : SlabRow) → k < length rows → row.top ≡ (get_or rows k no_row).top
    → (j : ℕ) → (get_or (slice_set rows k row) j no_row).top ≡ (get_or rows j no_row).top
tops_same rows k row low top j = field_same (λ (r : SlabRow). r.top) rows k row low top j
