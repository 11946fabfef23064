-- The live blocks as entries of an ordered map.
use Rattle.std.proofs.Common.{◌≡◌, ℕ, ◌+◌, ◌-◌, ◌<◌, ◌≤◌, Bool, true, false, not, ◌||◌, nat_lt, cond, List, [], ◌∷◌, ◌++◌, length, filter, refl, sym, ap}
use Rattle.std.proofs.Common.{◌∙◌, inl, inr, arith, length-append}
use Rattle.std.specs.Prelude.{All}
use Rattle.std.specs.List.{list_any}
use Rattle.std.specs.Map.{remove_entry}
use Rattle.std.specs.BTreeMap.{insert_entry, is_at}
use Rattle.std.specs.BTreeMap.Range.{range_contains}
use Rattle.std.specs.declared.ops.Bound.TheVariants.{Excluded, Unbounded}
use Rattle.std.specs.Ordering.{nat_cmp, is_eq}
use Rattle.std.specs.Cmp.{nat_cmp_is}
use Rattle.std.proofs.lemmas.Bool.{cases_Bool, cases_lt, cases_order, and_left, and_right, lt-ltb, le-ltb, ltb-true, eq-eqb, ne_eqb, cond-true, cond-false}
use Rattle.std.proofs.lemmas.List.Elements.{All-cons, All-head, All-tail, All-nil, filter_agree}
use Rattle.std.proofs.lemmas.Bool.Decides.{nat_tests}
use Rattle.tc_model.specs.Blocks.{Extent, with_block, without_block, meets}
use Rattle.journal_audit.specs.Spread.{IsSpread, extents_of}
use Rattle.journal_audit.proofs.Spreads.{they_meet}

abbrev pub extent : ℕ × ℕ → Extent
extent e = record { addr = e.0; len = e.1 }

-- a block that meets none is inserted as in the list of blocks
pub inserted : (es : List (ℕ × ℕ)) (addr len : ℕ) → 0 < len → IsSpread (extents_of es)
    → list_any (meets (record { addr = addr; len = len })) (extents_of es) ≡ false
    → extents_of (insert_entry nat_cmp es addr len) ≡ with_block (record { addr = addr; len = len }) (extents_of es)
inserted [] addr len some spread apart = refl
inserted (e ∷ es) addr len some spread apart = grind (arith, nat_tests, inserted es addr len some spread.2, cases_order addr e.0, they_meet)

-- the one that begins at an address is taken away as there
none_to_take : (addr : ℕ) (bs : List Extent) → All (λ (b : Extent). addr < b.addr) bs → without_block addr bs ≡ bs
none_to_take addr [] all = refl
none_to_take addr (b ∷ bs) all = grind (arith, nat_tests, none_to_take addr bs (All-tail (λ (b : Extent). addr < b.addr) b bs all), All-head, All-tail)

bytes : (bs : List Extent) → IsSpread bs → All (λ (b : Extent). 0 < b.len) bs
bytes [] spread = All-nil (λ (b : Extent). 0 < b.len)
bytes (b ∷ bs) spread = All-cons (λ (b : Extent). 0 < b.len) b bs spread.0 (bytes bs spread.2)

pub removed : (es : List (ℕ × ℕ)) (addr : ℕ) → IsSpread (extents_of es) → extents_of (remove_entry (is_at (nat_cmp addr)) es) ≡ without_block addr (extents_of es)
removed [] addr spread = refl
removed (e ∷ es) addr spread = grind (arith, cases_order, cond, eq-eqb, extent, extents_of, is_at, is_eq, nat_cmp, nat_cmp_is, ne_eqb, none_to_take, not, remove_entry, without_block, (removed es addr spread.2))

-- The entries that begin before an end.
abbrev pub before : ℕ → ℕ × ℕ → Bool
before end e = nat_lt e.0 end

first_in : (end : ℕ) (e : ℕ × ℕ) (es : List (ℕ × ℕ)) → before end e ≡ true → filter (before end) (e ∷ es) ≡ e ∷ filter (before end) es
first_in end e es first = cond-true (before end e) (e ∷ filter (before end) es) (filter (before end) es) first

left_out : (end : ℕ) (e : ℕ × ℕ) (es : List (ℕ × ℕ)) → before end e ≡ false → filter (before end) (e ∷ es) ≡ filter (before end) es
left_out end e es behind = cond-false (before end e) (e ∷ filter (before end) es) (filter (before end) es) behind

-- a block whose end is by where a block begins doesn't meet it
not_met : (x : Extent) (e : ℕ × ℕ) → before (x.addr + x.len) e ≡ false → meets x (extent e) ≡ false
not_met x e behind = and_right (nat_lt x.addr (e.0 + e.1)) (before (x.addr + x.len) e) behind

pub in_range : (end : ℕ) (es : List (ℕ × ℕ)) → filter (λ (e : ℕ × ℕ). range_contains nat_cmp Unbounded (Excluded end) e.0) es ≡ filter (before end) es
in_range end es = grind (arith, nat_tests, filter_agree, cases_order)

-- where there are none, none is met
pub none_met : (x : Extent) (es : List (ℕ × ℕ)) → filter (before (x.addr + x.len)) es ≡ [] → list_any (meets x) (extents_of es) ≡ false
none_met x [] none = refl
none_met x (e ∷ es) none = grind (arith, before, cases_Bool, extents_of, filter, first_in, left_out, list_any, meets, not_met, (none_met x es))

-- what holds of all holds of the last of them
pub of_last : (P : Extent → Type 0) (end : ℕ) (es t : List (ℕ × ℕ)) (last : ℕ × ℕ) → All P (extents_of es) → filter (before end) es ≡ t ++ last ∷ []
    → P (extent last)
of_last P end [] t last all is = absurd (omega (arith, ap length is, length-append t (last ∷ [])))
of_last P end (e ∷ es) [] last all is =
    elim (cases_Bool (before end e)) [
      | inl first ↦ grind (arith, first_in end e es first, P, All-head P (extent e) (extents_of es) all)
      | inr behind ↦ of_last P end es [] last (All-tail P (extent e) (extents_of es) all) (sym (left_out end e es behind) ∙ is)
    ]
of_last P end (e ∷ es) (f ∷ t) last all is =
    elim (cases_Bool (before end e)) [
      | inl first ↦
          grind (arith, of_last P end es t last (All-tail P (extent e) (extents_of es) all), first_in end e es first, All-tail P (extent e) (extents_of es) all)
      | inr behind ↦ of_last P end es (f ∷ t) last (All-tail P (extent e) (extents_of es) all) (sym (left_out end e es behind) ∙ is)
    ]

-- the last one that begins before a block's end meets it exactly where it ends behind the block's address
meets_last : (x b : Extent) → 0 < b.len → nat_lt b.addr (x.addr + x.len) ≡ true → meets x b ≡ nat_lt (x.addr - b.addr) b.len
meets_last x b some first = grind (arith, and_left, cases_lt, le-ltb, lt-ltb, ltb-true, they_meet)

-- so it alone tells whether any is met
pub last_met : (x : Extent) (es t : List (ℕ × ℕ)) (last : ℕ × ℕ) → IsSpread (extents_of es) → filter (before (x.addr + x.len)) es ≡ t ++ last ∷ []
    → list_any (meets x) (extents_of es) ≡ nat_lt (x.addr - last.0) last.1
last_met x [] t last spread is = absurd (omega (arith, ap length is, length-append t (last ∷ [])))
last_met x (e ∷ es) [] last spread is =
    elim (cases_Bool (before (x.addr + x.len) e)) [
      | inl first ↦ grind (arith, nat_tests, first_in (x.addr + x.len) e es first, none_met x es, meets_last x (extent e) spread.0 first)
      | inr behind ↦
          ap (λ b. b || list_any (meets x) (extents_of es)) (not_met x e behind) ∙ last_met x es [] last spread.2 (sym (left_out (x.addr + x.len) e es behind) ∙ is)
    ]
  where
    or_false : (b : Bool) → (b || false) ≡ b
    or_false true = refl
    or_false false = refl
last_met x (e ∷ es) (f ∷ t) last spread is = grind (
  arith,
  nat_tests,
  last_met x es t last spread.2,
  last_met x es (f ∷ t) last spread.2,
  first_in (x.addr + x.len) e es,
  of_last (λ (b : Extent). 0 < b.len) (x.addr + x.len) es t last (bytes (extents_of es) spread.2),
  bytes (extents_of es) spread.2,
  of_last (λ (b : Extent). e.0 + e.1 ≤ b.addr) (x.addr + x.len) es t last spread.1,
  and_left (nat_lt x.addr (e.0 + e.1)) (before (x.addr + x.len) e),
  not_met x e,
  left_out (x.addr + x.len) e es,
)
