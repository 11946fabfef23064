-- A slab at its opening.
use Rattle.std.proofs.Common.{◌≡◌, ℕ, ◌<◌, List, [], ◌∷◌, length, map, get_or, replicate, All, refl, sym, ap, ◌∙◌, arith}
use Rattle.std.specs.Simd.Lanes.{zip2}
use Rattle.std.proofs.lemmas.List.{length-map, length-replicate}
use Rattle.std.proofs.lemmas.List.Elements.{All-map}
use Rattle.std.proofs.lemmas.List.Sums.{sum_by-cons}
use Rattle.tc_units.specs.declared.spans.ClassRow.{ClassRow}
use Rattle.cpu_slab.specs.declared.marks.ClassMarks.{ClassMarks}
use Rattle.cpu_slab.specs.Slots.{SlabRow, null, empty_row, opened}
use Rattle.cpu_slab.specs.Growth.{used}
use Rattle.cpu_slab.specs.Sound.{AreSlabLimits, IsSoundRow, IsSoundSlab}
use Rattle.cpu_slab.specs.Layout.{row_of, slab_of, IsLaidOut}
use Rattle.cpu_slab.proofs.LaidOut.{laid_out}
use Rattle.tc_units.specs.declared.units.Addr.{Addr}

used_opened : (most : ℕ) (rows : List ClassRow) → used (map (empty_row most) rows) ≡ 0
used_opened most [] = refl
used_opened most (row ∷ rows) = grind (arith, used_opened most rows, sum_by-cons)

each_opened : (most : ℕ) (P : SlabRow → Type 0) (rows : List ClassRow) → ((row : ClassRow) → 0 < row.size → P (empty_row most row))
    → All (λ (row : ClassRow). 0 < row.size) rows → All P (map (empty_row most) rows)
each_opened most P rows made sizes = All-map P (empty_row most) rows (λ k d low. made (get_or rows k d) (sizes k d low))

pub sound_opened : (rows : List ClassRow) (most limit : ℕ) → AreSlabLimits (length rows) most limit → All (λ (row : ClassRow). 0 < row.size) rows → IsSoundSlab (opened rows most limit)
sound_opened rows most limit limits sizes =
    record {
      limits = record { classes = omega (arith, length-map rows (empty_row most), limits.classes); some = limits.some; most = limits.most; limit = limits.limit };
      rows = each_opened most IsSoundRow rows (λ row some. record { top = omega arith; cap = omega arith; size = some }) sizes;
      slots = each_opened most (λ (row : SlabRow). length row.slots ≡ most) rows (λ row some. length-replicate most null) sizes;
      budget = omega (arith, used_opened most rows);
    }

-- the numbers of a class at the opening
abbrev pub first_marks : ClassRow → ClassMarks
first_marks row = record { size = row.size; batch = row.batch; cap = 0; top = 0 }

rows_opened : (most : ℕ) (rows : List ClassRow)
    → zip2 row_of (map first_marks rows) (replicate (length rows) (replicate most null)) ≡ map (empty_row most) rows
rows_opened most [] = refl
rows_opened most (row ∷ rows) = ap (λ rs. empty_row most row ∷ rs) (rows_opened most rows)

-- a representation of them
module _ (rows : List ClassRow) (most limit : ℕ) {marks : List ClassMarks} {slots : List (List Addr)}
    (marks_are : marks ≡ map first_marks rows) (slots_are : slots ≡ replicate (length rows) (replicate most null)) where
  pub opened_is : slab_of most limit marks slots ≡ opened rows most limit
  opened_is = rw (marks_are, slots_are) (ap (λ (rs : List SlabRow). record { most = most; limit = limit; rows = rs }) (rows_opened most rows))

  pub opened_out : AreSlabLimits (length rows) most limit → All (λ (row : ClassRow). 0 < row.size) rows → IsLaidOut most limit 0 marks slots
  opened_out limits sizes =
      let classes : length marks ≡ length rows = ap length marks_are ∙ length-map rows first_marks in
      let count : length slots ≡ length rows = ap length slots_are ∙ length-replicate (length rows) (replicate most null) in
      let sound = sound_opened rows most limit limits sizes in
      laid_out marks slots opened_is (count ∙ sym classes) (sym (used_opened most rows)) sound
