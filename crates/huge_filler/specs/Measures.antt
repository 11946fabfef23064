-- The measures of the filler's hugepages: which of them is preferred, and which gives pages up first.
use Rattle.std.specs.Prelude.{◌≡◌, ◌≢◌, ℕ, ◌-◌, ◌<◌, ◌≤◌, Bool, true, List, length, Option, Some, None, sum_by, slice_set, if◌then◌else◌}
use Rattle.std.specs.Ordering.{nat_cmp, ordering_then, is_lt}
use Rattle.tc_units.specs.Units.{huge_pages}
use Rattle.tc_units.specs.declared.units.Huge.{Huge}
use Rattle.heap_rules.specs.Numbered.{at_number}
use Rattle.heap_rules.specs.GiveUp.{SpareRow, gives_before}
use Rattle.huge_filler.specs.declared.measures.Measures.{Measures}

-- The filler is a list with a place for each hugepage of the arena: hugepage h, from 1 on, stands at place h - 1, and there
-- is nothing where it isn't the filler's.
abbrev pub measures_at : List (Option Measures) → ℕ → Option Measures
measures_at rows h = at_number None rows h

abbrev pub with_measures : List (Option Measures) → ℕ → Option Measures → List (Option Measures)
with_measures rows h its = slice_set rows (h - 1) its

-- the free pages of donated hugepages
abbrev pub free_of_donated : Option Measures → ℕ
free_of_donated None = 0
free_of_donated (Some its) = if its.donated then huge_pages - its.used else 0

abbrev pub donated_free : List (Option Measures) → ℕ
donated_free rows = sum_by free_of_donated rows

-- whether hugepage g, with its measures, is preferred to hugepage h: the order of the filler's rows
abbrev pub prefers : ℕ → Measures → ℕ → Measures → Bool
prefers g a h b = is_lt (ordering_then (nat_cmp a.tier b.tier) (ordering_then (nat_cmp a.longest b.longest) (ordering_then (nat_cmp b.allocs a.allocs) (nat_cmp g h))))

-- a hugepage of the filler with n adjacent unused pages that is preferred to each other one that has so many
pub record IsPreferred (rows : List (Option Measures)) (n : ℕ) (huge : Huge) : Type 0 where
  pub measures : Measures
  pub from : 0 < huge.0
  pub to : huge.0 ≤ length rows
  pub row : measures_at rows huge.0 ≡ Some measures
  pub room : n ≤ measures.longest
  pub first : (h : ℕ) (its : Measures) → measures_at rows h ≡ Some its → n ≤ its.longest → h ≢ huge.0 → prefers huge.0 measures h its ≡ true

-- the row of a hugepage for giving up
abbrev pub spare_row : ℕ → Measures → SpareRow
spare_row h its = record { number = h; used = its.used; spare = its.spare }

-- a hugepage of the filler with a spare page that gives before each other one that has some
pub record IsCandidate (rows : List (Option Measures)) (huge : Huge) : Type 0 where
  pub measures : Measures
  pub from : 0 < huge.0
  pub to : huge.0 ≤ length rows
  pub row : measures_at rows huge.0 ≡ Some measures
  pub some : 0 < measures.spare
  pub first : (h : ℕ) (its : Measures) → measures_at rows h ≡ Some its → 0 < its.spare → h ≢ huge.0 → gives_before (spare_row h its) (spare_row huge.0 measures) ≡ true
