-- What is noted of a hugepage, by what it serves.
use Rattle.std.proofs.Common.{◌≡◌, ℕ, Bool, true, ap, arith}
use Rattle.huge_table.proofs.Common.{or_right, Hugepage, is_free, is_filler, is_region, Table, IsSpan, is_even, shares, is_shared, is_Free, is_Region}
use Rattle.heap_rules.proofs.Fillers.{is_Filler}
use Rattle.heap_rules.proofs.Places.{at}

pub free_shared : (x : Hugepage) → is_free x ≡ true → is_shared x ≡ true
free_shared x e = ap shares (is_Free x.kind e)

pub filler_shared : (x : Hugepage) → is_filler x ≡ true → is_shared x ≡ true
filler_shared x e = ap shares (is_Filler x.kind e)

pub region_shared : (x : Hugepage) → is_region x ≡ true → is_shared x ≡ true
region_shared x e = ap shares (is_Region x.kind e)

pub region_even : (x : Hugepage) → is_region x ≡ true → is_even x ≡ true
region_even x e = or_right (is_free x) (is_region x) e

-- a span of as many hugepages, of which more is said, or less
pub span_of : (t : Table) (first many many' : ℕ) (test test' : Hugepage → Bool) → many ≡ many' → ((x : Hugepage) → test x ≡ true → test' x ≡ true) →
    IsSpan t first many test → IsSpan t first many' test'
span_of t first many many' test test' e less span = record { from = span.from; to = omega (arith, span.to); all = λ h a b. less (at t.pages h) (span.all h a (omega arith)) }
