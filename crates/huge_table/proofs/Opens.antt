-- A table at its opening.
use Rattle.std.proofs.Common.{◌≡◌, ℕ, false, Bool, get_or, replicate, refl, inl, inr, arith}
use Rattle.huge_table.proofs.Common.{cases_lt, length-replicate, get_or-replicate, get_or_past, length-map-range_with_len, Hugepage}
use Rattle.huge_table.proofs.Common.{untouched, opened, at-place, bit, by_bits, table_of, Means, Inside, same_pages, nat_tests}
use Rattle.heap_rules.specs.declared.config.HeapConfig.{HeapConfig}
use Rattle.huge_table.proofs.Pages.{at-table}

pub none_of : {X : Type 0} (n k : ℕ) (x : X) → get_or (replicate n x) k x ≡ x
none_of n k x = elim (cases_lt k n) [ inl inside ↦ get_or-replicate n k x x inside | inr past ↦ get_or_past (replicate n x) k x (let size = length-replicate n x in omega arith) ]

untouched_is : (g s b : Bool) (x : Hugepage) → g ≡ false → s ≡ false → b ≡ false → by_bits g s b x ≡ untouched
untouched_is g s b x p q r = rw (p, q, r) refl

pub opens : (t : Inside) → ((h : ℕ) → bit t.grouped h ≡ false) → ((h : ℕ) → bit t.shared h ≡ false) → ((h : ℕ) → bit t.backed h ≡ false) →
    ((page : ℕ) → bit t.used page ≡ false) → ((page : ℕ) → bit t.begins page ≡ false) → ((page : ℕ) → bit t.ends page ≡ false) → (config : HeapConfig) →
    config.huge ≡ t.huge → Means (table_of t) (opened config)
opens t grouped shared backed used begins ends config same =
    grind (arith, nat_tests, length-map-range_with_len, length-replicate, same_pages, at-table, untouched_is, at-place, none_of)
