-- Blocks that are apart, with one more and with one taken away.
use Rattle.std.proofs.Common.{◌≡◌, ℕ, ◌+◌, ◌<◌, ◌≤◌, true, false, not, nat_lt, eqb, List, [], ◌∷◌, Some, None, refl, sym, subst, inl, inr, arith, ◌⊎◌}
use Rattle.std.specs.Prelude.{◌==◌, All, find}
use Rattle.std.specs.List.{list_any}
use Rattle.std.proofs.lemmas.Bool.{cases_Bool, and_cases, and_from, ltb-true, ltb-false, lt-ltb, eq-eqb, ne_eqb, or_parts, cond-true, cond-false}
use Rattle.std.proofs.lemmas.Bool.Decides.{nat_tests}
use Rattle.std.proofs.lemmas.List.Elements.{All-nil, All-cons, All-filter, All-weaker}
use Rattle.tc_units.proofs.SortedFacts.{All-with_item}
use Rattle.tc_model.specs.Blocks.{Extent, with_block, without_block, meets}
use Rattle.journal_audit.specs.Spread.{IsSpread}

-- two blocks that don't meet: one ends by where the other begins
pub one_ends : (a b : Extent) → meets a b ≡ false → (b.addr + b.len ≤ a.addr) ⊎ (a.addr + a.len ≤ b.addr)
one_ends a b apart = grind (arith, and_cases, ltb-false)

pub they_meet : (a b : Extent) → a.addr < b.addr + b.len → b.addr < a.addr + a.len → meets a b ≡ true
they_meet a b before behind = and_from _ _ (lt-ltb a.addr (b.addr + b.len) before) (lt-ltb b.addr (a.addr + a.len) behind)

-- a block that meets none stands between those before and behind it
pub spread_with : (x : Extent) (bs : List Extent) → 0 < x.len → list_any (meets x) bs ≡ false → IsSpread bs → IsSpread (with_block x bs)
spread_with x [] some apart spread = (some, All-nil (λ (c : Extent). x.addr + x.len ≤ c.addr), tt)
spread_with x (b ∷ bs) some apart spread =
    let parts : (meets x b ≡ false) × (list_any (meets x) bs ≡ false) = or_parts (meets x b) (list_any (meets x) bs) apart in
    elim (cases_Bool (nat_lt x.addr b.addr)) [
      | inl before ↦
          let less = ltb-true x.addr b.addr before in
          let end : x.addr + x.len ≤ b.addr = elim (one_ends x b parts.0) [ inl wrong ↦ absurd (omega (arith, wrong, less)) | inr is ↦ is ] in
          let first : All (λ (c : Extent). x.addr + x.len ≤ c.addr) (b ∷ bs) =
          All-cons (λ (c : Extent). x.addr + x.len ≤ c.addr) b bs end
          (All-weaker (λ (c : Extent). b.addr + b.len ≤ c.addr) (λ (c : Extent). x.addr + x.len ≤ c.addr) (λ c is. omega (arith, is, end)) bs spread.1) in
          subst IsSpread (sym (cond-true (nat_lt x.addr b.addr) (x ∷ b ∷ bs) (b ∷ with_block x bs) before)) (some, first, spread)
      | inr behind ↦
          let more = ltb-false x.addr b.addr behind in
          let end : b.addr + b.len ≤ x.addr = elim (one_ends x b parts.0) [ inl is ↦ is | inr wrong ↦ absurd (omega (arith, wrong, more, some)) ] in
          let first = All-with_item (λ (c : Extent). c.addr) (λ (c : Extent). b.addr + b.len ≤ c.addr) x bs end spread.1 in
          subst IsSpread (sym (cond-false (nat_lt x.addr b.addr) (x ∷ b ∷ bs) (b ∷ with_block x bs) behind)) (spread.0, first, spread_with x bs some parts.1 spread.2)
    ]

pub spread_without : (addr : ℕ) (bs : List Extent) → IsSpread bs → IsSpread (without_block addr bs)
spread_without addr [] spread = tt
spread_without addr (b ∷ bs) spread =
    let rest = spread_without addr bs spread.2 in
    grind (arith, nat_tests, All-filter (λ (c : Extent). not (eqb c.addr addr)) (λ (c : Extent). b.addr + b.len ≤ c.addr) bs spread.1)

-- what is found at an address begins there and has a byte, and what meets none doesn't meet it
pub record IsFound (x : Extent) (addr : ℕ) (b : Extent) : Type 0 where
  pub begins : b.addr ≡ addr
  pub some : 0 < b.len
  pub apart : meets x b ≡ false

pub found : (x : Extent) (addr : ℕ) (bs : List Extent) (b : Extent) → IsSpread bs → list_any (meets x) bs ≡ false
    → find (λ c. c.addr == addr) bs ≡ Some b → IsFound x addr b
found x addr [] b spread apart is = absurd (cc)
found x addr (c ∷ cs) b spread apart is = grind (arith, nat_tests, found x addr cs b spread.2)

-- no block begins at the address of one that meets none
pub none_begins : (x : Extent) (bs : List Extent) → 0 < x.len → list_any (meets x) bs ≡ false → IsSpread bs → find (λ c. c.addr == x.addr) bs ≡ None
none_begins x [] some apart spread = refl
none_begins x (b ∷ bs) some apart spread = grind (arith, nat_tests, none_begins x bs some, they_meet x b)

-- the block that is added is found, where none begins at its address, and each other one is found as before
pub find_new : (x : Extent) (bs : List Extent) → find (λ b. b.addr == x.addr) bs ≡ None → find (λ b. b.addr == x.addr) (with_block x bs) ≡ Some x
find_new x [] none = cond-true _ (Some x) None (eq-eqb x.addr x.addr refl)
find_new x (b ∷ bs) none = grind (arith, nat_tests, find_new x bs)

pub find_old : (x : Extent) (addr : ℕ) (bs : List Extent) → (x.addr ≡ addr → ⊥) → find (λ b. b.addr == addr) (with_block x bs) ≡ find (λ b. b.addr == addr) bs
find_old x addr [] other = cond-false _ (Some x) None (ne_eqb x.addr addr other)
find_old x addr (b ∷ bs) other = grind (arith, nat_tests, find_old x addr bs other)

pub find_left : (gone addr : ℕ) (bs : List Extent) → (gone ≡ addr → ⊥) → find (λ b. b.addr == addr) (without_block gone bs) ≡ find (λ b. b.addr == addr) bs
find_left gone addr [] other = refl
find_left gone addr (b ∷ bs) other = grind (arith, nat_tests, find_left gone addr bs other)
