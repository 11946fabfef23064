-- What a read or a write of the representation is to the slab that it means.
use Rattle.std.proofs.Common.{◌≡◌, ℕ, zero, suc, ◌-◌, ◌*◌, ◌<◌, List, [], ◌∷◌, length, get_or, map, refl, sym, ap, ◌∙◌, subst, arith}
use Rattle.std.specs.List.{slice_set}
use Rattle.std.specs.Simd.Lanes.{zip2}
use Rattle.std.proofs.lemmas.List.{length-set, set-get_or}
use Rattle.std.proofs.lemmas.Simd.{length-zip2, get_or-zip2}
use Rattle.tc_units.specs.declared.units.Addr.{Addr}
use Rattle.cpu_slab.specs.declared.marks.ClassMarks.{ClassMarks}
use Rattle.cpu_slab.specs.Slots.{SlabRow, CpuSlab, no_row, row_at, with_row, with_slot, with_top, with_cap}
use Rattle.cpu_slab.specs.Growth.{used, unused}
use Rattle.cpu_slab.specs.Sound.{IsSoundSlab}
use Rattle.cpu_slab.specs.Layout.{AreMarksOf, row_of, slab_of, IsLaidOut}

abbrev pub no_marks : ClassMarks
no_marks = record { size = 0; batch = 0; cap = 0; top = 0 }

-- the marks and the slots of one class change
set-rows : (marks : List ClassMarks) (slots : List (List Addr)) (k : ℕ) (m : ClassMarks) (xs : List Addr)
    → zip2 row_of (slice_set marks k m) (slice_set slots k xs) ≡ slice_set (zip2 row_of marks slots) k (row_of m xs)
set-rows [] slots k m xs = refl
set-rows (n ∷ ns) [] zero m xs = refl
set-rows (n ∷ ns) [] (suc k) m xs = refl
set-rows (n ∷ ns) (ys ∷ yss) zero m xs = refl
set-rows (n ∷ ns) (ys ∷ yss) (suc k) m xs = ap (λ rows. row_of n ys ∷ rows) (set-rows ns yss k m xs)

map-unused : (marks : List ClassMarks) (slots : List (List Addr)) → length slots ≡ length marks
    → map (λ (m : ClassMarks). (m.cap - m.top) * m.size) marks ≡ map unused (zip2 row_of marks slots)
map-unused [] slots e = refl
map-unused (m ∷ ms) [] e = absurd (omega (arith, e))
map-unused (m ∷ ms) (xs ∷ xss) e = ap (λ ns. (m.cap - m.top) * m.size ∷ ns) (map-unused ms xss (omega (arith, e)))

-- the representation of a sound slab whose bytes are counted
pub laid_out : {most limit sum : ℕ} (marks : List ClassMarks) (slots : List (List Addr)) {slab : CpuSlab} → slab_of most limit marks slots ≡ slab
    → length slots ≡ length marks → sum ≡ used slab.rows → IsSoundSlab slab → IsLaidOut most limit sum marks slots
laid_out marks slots is classes counted sound =
    record { classes = classes; counted = counted ∙ sym (ap (λ (s : CpuSlab). used s.rows) is); sound = subst IsSoundSlab (sym is) sound }

-- a representation that means a slab
module _ {most limit sum : ℕ} (marks : List ClassMarks) (slots : List (List Addr)) {slab : CpuSlab} (is : slab_of most limit marks slots ≡ slab)
    (laid : IsLaidOut most limit sum marks slots) where
  pub read_unused : map (λ (m : ClassMarks). (m.cap - m.top) * m.size) marks ≡ map unused slab.rows
  read_unused = map-unused marks slots laid.classes ∙ ap (λ (s : CpuSlab). map unused s.rows) is

  -- the sum that was counted
  pub counted_is : sum ≡ used slab.rows
  counted_is = laid.counted ∙ ap (λ (s : CpuSlab). used s.rows) is

  module _ (k : ℕ) (low : k < length slab.rows) where
    -- a class of the slab has marks and slots
    pub marks_low : k < length marks
    marks_low = omega (arith, low, length-zip2 row_of marks slots (sym laid.classes), ap (λ (s : CpuSlab). length s.rows) is)

    pub slots_low : k < length slots
    slots_low = omega (arith, marks_low, laid.classes)

    pub read_row : (m : ClassMarks) (xs : List Addr) → row_at slab k ≡ row_of (get_or marks k m) (get_or slots k xs)
    read_row m xs = ap (λ (s : CpuSlab). row_at s k) (sym is) ∙ get_or-zip2 row_of marks slots k m xs no_row marks_low slots_low

    pub read_marks : (m : ClassMarks) → m ≡ get_or marks k m → AreMarksOf m (row_at slab k)
    read_marks m read = grind (arith, read_row m [])

    -- A slot is stored.
    pub slot_stored : (xs : List Addr) (i : ℕ) (a : Addr) → xs ≡ get_or slots k xs
        → slab_of most limit marks (slice_set slots k (slice_set xs i a)) ≡ with_slot slab k i a
    slot_stored xs i a read = grind (arith, set-get_or marks k no_marks, set-rows, read_row no_marks xs)

    -- The marks change.
    marks_set : (m new : ClassMarks) (row : SlabRow → SlabRow) → ((xs : List Addr) → row_of new xs ≡ row (row_of m xs)) → m ≡ get_or marks k m
        → slab_of most limit (slice_set marks k new) slots ≡ with_row slab k (row (row_at slab k))
    marks_set m new row same read = grind (arith, set-get_or slots k [], set-rows, read_row m [], same)

    pub top_set : (n : ℕ) (m : ClassMarks) → m ≡ get_or marks k m → slab_of most limit (slice_set marks k (record m { top = n })) slots ≡ with_top slab k n
    top_set n m read = marks_set m (record m { top = n }) (λ r. record r { top = n }) (λ xs. refl) read

    pub cap_set : (n : ℕ) (m : ClassMarks) → m ≡ get_or marks k m → slab_of most limit (slice_set marks k (record m { cap = n })) slots ≡ with_cap slab k n
    cap_set n m read = marks_set m (record m { cap = n }) (λ r. record r { cap = n }) (λ xs. refl) read

  -- it is laid out after the marks of a class changed
  pub laid_out_marks : {new : CpuSlab} {more : ℕ} (k : ℕ) (m : ClassMarks) → slab_of most limit (slice_set marks k m) slots ≡ new
      → more ≡ used new.rows → IsSoundSlab new → IsLaidOut most limit more (slice_set marks k m) slots
  laid_out_marks k m is' counted sound = laid_out (slice_set marks k m) slots is' (laid.classes ∙ sym (length-set marks k m)) counted sound
