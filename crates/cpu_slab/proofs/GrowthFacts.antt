-- Growth changes capacities alone, and stays in the budget.
use Rattle.std.proofs.Common.{◌≡◌, ◌≢◌, ℕ, zero, suc, ◌+◌, ◌-◌, ◌*◌, ◌/◌, ◌%◌, ◌<◌, ◌≤◌, eqb, leb, ltb, List, [], ◌∷◌, length, map, get_or}
use Rattle.std.proofs.Common.{Option, Some, None, unwrap_or, option_map, option_and_then, refl, arith, min}
use Rattle.std.specs.List.{flat_map}
use Rattle.std.specs.Int.{div_ceil}
use Rattle.std.proofs.lemmas.Bool.{cond_both, eqb-false}
use Rattle.std.proofs.lemmas.List.{length-set, length-map}
use Rattle.std.proofs.lemmas.Bool.Decides.{nat_tests}
use Rattle.cpu_slab.specs.declared.marks.Unused.{Unused}
use Rattle.cpu_slab.specs.Slots.{SlabRow, CpuSlab, no_row, row_at, with_cap}
use Rattle.cpu_slab.specs.Slots as slots
use Rattle.cpu_slab.specs.Growth.{used, rise, unused, preferred, victim, given_up, widened, roomy, grown}
use Rattle.cpu_slab.specs.Sound.{IsSoundSlab}
use Rattle.cpu_slab.proofs.SlabFacts.{row_other, row_sound, row_slots, used_set, sound_cap, flat_map-set_same, field_same, tops_same}

-- The victim is another class that is there.
abbrev pub IsOther : ℕ → ℕ → Option Unused → Type 0
IsOther k n None = Unit {0}
IsOther k n (Some best) = (best.class ≢ k) × (best.class < n)

preferred_other : (k n : ℕ) (one : Unused) (o : Option Unused) → one.class ≢ k → one.class < n → IsOther k n o → IsOther k n (preferred (Some one) o)
preferred_other k n one None apart low is = (apart, low)
preferred_other k n one (Some later) apart low is = cond_both (ltb one.bytes later.bytes) (Some later) (Some one) (IsOther k n) (λ e. is) (λ e. (apart, low))

victim_from : (k n i : ℕ) (bytes : List ℕ) → i + length bytes ≤ n → IsOther k n (victim k i bytes)
victim_from k n i [] low = tt
victim_from k n i (b ∷ bs) low = grind (arith, cond_both, eqb, eqb-false, preferred_other, (victim_from k n (i + 1) bs (omega arith)))

pub victim_other : (rows : List SlabRow) (k : ℕ) → IsOther k (length rows) (victim k 0 (map unused rows))
victim_other rows k = victim_from k (length rows) 0 (map unused rows) (omega (arith, length-map rows unused))

add_mul : (a b c : ℕ) → (a + b) * c ≡ a * c + b * c
add_mul a b c = omega arith

some_place : (r size : ℕ) → r < size → r ≤ min 1 r * size
some_place zero size below = omega arith
some_place (suc r) size below = let one : min 1 (suc r) ≡ 1 = omega arith in rw one (omega arith)

-- whole places of a size have at least the bytes that were asked for
pub rounded_up : (bytes size : ℕ) → 0 < size → bytes ≤ div_ceil bytes size * size
rounded_up bytes size some = omega (arith, add_mul (bytes / size) (min 1 (bytes % size)) size, some_place (bytes % size) size (omega arith))

-- a lower capacity frees its places
pub freed_by : (slab : CpuSlab) (v s short : ℕ) → v < length slab.rows → s ≤ (row_at slab v).cap → short ≤ s * (row_at slab v).size
    → used (with_cap slab v ((row_at slab v).cap - s)).rows + short ≤ used slab.rows
freed_by slab v s short low has enough = grind (arith, add_mul, used_set)

-- Capacities alone differ, and the slab is sound.
pub record KeepsObjects (slab new : CpuSlab) : Type 0 where
  pub sound : IsSoundSlab new
  pub classes : length new.rows ≡ length slab.rows
  pub most : new.most ≡ slab.most
  pub limit : new.limit ≡ slab.limit
  pub tops : (j : ℕ) → (row_at new j).top ≡ (row_at slab j).top
  pub held : (j : ℕ) → slots.held (row_at new j) ≡ slots.held (row_at slab j)
  pub objects : flat_map slots.held new.rows ≡ flat_map slots.held slab.rows

pub keeps_same : (slab : CpuSlab) → IsSoundSlab slab → KeepsObjects slab slab
keeps_same slab sound = record { sound = sound; classes = refl; most = refl; limit = refl; tops = λ j. refl; held = λ j. refl; objects = refl }

pub keeps_cap : (slab : CpuSlab) (k n : ℕ) → k < length slab.rows → (row_at slab k).top ≤ n → n ≤ slab.most → used (with_cap slab k n).rows ≤ slab.limit → IsSoundSlab slab
    → KeepsObjects slab (with_cap slab k n)
keeps_cap slab k n low above below budget sound = grind (
  arith,
  sound_cap slab k n low above below budget sound,
  length-set slab.rows k,
  tops_same slab.rows k,
  field_same slots.held slab.rows k,
  flat_map-set_same slots.held slab.rows k,
)

keeps_then : (slab mid new : CpuSlab) → KeepsObjects slab mid → KeepsObjects mid new → KeepsObjects slab new
keeps_then slab mid new a b = grind (arith, b.tops, a.tops, b.held, a.held)

-- there is room for the growth of class k, and class k is as it was
pub record IsRoomy (slab : CpuSlab) (k need : ℕ) (rows : List SlabRow) : Type 0 where
  pub keeps : KeepsObjects slab (record slab { rows = rows })
  pub room : used rows + need ≤ slab.limit
  pub same : get_or rows k no_row ≡ row_at slab k

abbrev pub IsRoomyIf : CpuSlab → ℕ → ℕ → Option (List SlabRow) → Type 0
IsRoomyIf slab k need None = Unit {0}
IsRoomyIf slab k need (Some rows) = IsRoomy slab k need rows

-- the bytes that are short of what is needed
abbrev short_of : CpuSlab → ℕ → ℕ
short_of slab need = need - (slab.limit - used slab.rows)

-- what the victim gives up, if there is one
abbrev taken : CpuSlab → ℕ → Option Unused → Option (List SlabRow)
taken slab need o = option_and_then (λ (best : Unused). given_up slab.rows best.class (div_ceil (short_of slab need) (row_at slab best.class).size)) o

taken_ok : (slab : CpuSlab) (k need : ℕ) (o : Option Unused) → IsSoundSlab slab → IsOther k (length slab.rows) o → IsRoomyIf slab k need (taken slab need o)
taken_ok slab k need None sound is = tt
taken_ok slab k need (Some best) sound is = grind (arith, nat_tests, row_sound, cond_both, freed_by, rounded_up, keeps_cap, row_slots, row_other)

pub roomy_ok : (slab : CpuSlab) (k need : ℕ) → IsSoundSlab slab → IsRoomyIf slab k need (roomy slab k need)
roomy_ok slab k need sound =
    let o : Option Unused = victim k 0 (map unused slab.rows) in
    cond_both (leb need (slab.limit - used slab.rows)) (Some slab.rows) (taken slab need o) (IsRoomyIf slab k need) (λ e. grind (arith, nat_tests, keeps_same))
    (λ e. taken_ok slab k need o sound (victim_other slab.rows k))

-- a class grows where there is room
pub wider_used : (slab : CpuSlab) (k : ℕ) → k < length slab.rows → used (widened k slab.rows) ≡ used slab.rows + rise (row_at slab k) * (row_at slab k).size
wider_used slab k low = grind (arith, used_set, add_mul)

-- the bytes of a class's growth
abbrev rise_bytes : CpuSlab → ℕ → ℕ
rise_bytes slab k = rise (row_at slab k) * (row_at slab k).size

widened_ok : (slab : CpuSlab) (k : ℕ) → k < length slab.rows → used slab.rows + rise_bytes slab k ≤ slab.limit → IsSoundSlab slab → KeepsObjects slab (record slab { rows = widened k slab.rows })
widened_ok slab k low room sound = grind (arith, row_sound slab k sound low, keeps_cap slab k, row_slots slab k sound low, wider_used slab k low)

growth_by : (slab : CpuSlab) (k : ℕ) (o : Option (List SlabRow)) → k < length slab.rows → IsSoundSlab slab → IsRoomyIf slab k (rise_bytes slab k) o
    → KeepsObjects slab (record slab { rows = unwrap_or (option_map (widened k) o) slab.rows })
growth_by slab k None low sound is = keeps_same slab sound
growth_by slab k (Some rows) low sound is =
    let mid : CpuSlab = record slab { rows = rows } in
    grind (arith, keeps_then slab mid, widened_ok mid k)

-- growth changes capacities alone
pub grown_keeps : (slab : CpuSlab) (k : ℕ) → k < length slab.rows → IsSoundSlab slab → KeepsObjects slab (grown slab k)
grown_keeps slab k low sound =
    let new : Option (List SlabRow) = roomy slab k (rise_bytes slab k) in
    cond_both (eqb (rise (row_at slab k)) 0) None (option_map (widened k) new) (λ o. KeepsObjects slab (record slab { rows = unwrap_or o slab.rows }))
    (λ e. keeps_same slab sound) (λ e. growth_by slab k new low sound (roomy_ok slab k (rise_bytes slab k) sound))

-- another class is as it was after one gave up places
pub gave_other : (rows : List SlabRow) (v k s : ℕ) → v ≢ k → get_or (unwrap_or (given_up rows v s) rows) k no_row ≡ get_or rows k no_row
gave_other rows v k s apart = grind (arith, cond_both, leb, row_other, unwrap_or)
