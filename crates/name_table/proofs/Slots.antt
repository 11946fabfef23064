-- What the slots and the addresses of a table mean.
use Rattle.std.proofs.Common.{◌≡◌, ℕ, zero, suc, ◌<◌, List, [], ◌∷◌, length, replicate, get_or, refl, ap, sym, ◌∙◌, arith}
use Rattle.std.specs.List.{slice_set}
use Rattle.tc_units.specs.declared.units.Addr.{Addr}
use Rattle.name_table.specs.declared.table.NameState.{NameState}
use Rattle.name_table.specs.declared.table.NameState.TheVariants.{Unpublished}
use Rattle.name_table.specs.declared.table.Slot.{Slot}
use Rattle.name_table.specs.declared.table.Slot.TheVariants as slot
use Rattle.name_table.specs.Names.{meaning, meanings, state_of}

pub none_published : (n : ℕ) (a : Addr) → meanings (replicate n slot.Unpublished) (replicate n a) ≡ replicate n Unpublished
none_published zero a = refl
none_published (suc n) a = ap (λ xs. Unpublished ∷ xs) (none_published n a)

length-meanings : (slots : List Slot) (addrs : List Addr) → length addrs ≡ length slots → length (meanings slots addrs) ≡ length slots
length-meanings [] addrs same = refl
length-meanings (s ∷ ss) [] same = absurd (omega (arith, same))
length-meanings (s ∷ ss) (a ∷ as') same = ap suc (length-meanings ss as' (omega (arith, same)))

module _ (d : Slot) (e : Addr) where
  meaning_at : (slots : List Slot) (addrs : List Addr) (i : ℕ) → length addrs ≡ length slots → i < length slots
      → state_of (meanings slots addrs) i ≡ meaning (get_or slots i d) (get_or addrs i e)
  meaning_at [] addrs i same within = absurd (omega (arith, within))
  meaning_at (s ∷ ss) [] i same within = absurd (omega (arith, same))
  meaning_at (s ∷ ss) (a ∷ as') zero same within = refl
  meaning_at (s ∷ ss) (a ∷ as') (suc i) same within = meaning_at ss as' i (omega (arith, same)) (omega (arith, within))

  -- another slot, where the address stays
  slot_set : (slots : List Slot) (addrs : List Addr) (i : ℕ) (s : Slot) → length addrs ≡ length slots → i < length slots
      → meanings (slice_set slots i s) addrs ≡ slice_set (meanings slots addrs) i (meaning s (get_or addrs i e))
  slot_set [] addrs i s same within = absurd (omega (arith, within))
  slot_set (x ∷ xs) [] i s same within = absurd (omega (arith, same))
  slot_set (x ∷ xs) (a ∷ as') zero s same within = refl
  slot_set (x ∷ xs) (a ∷ as') (suc i) s same within = ap (λ (ys : List NameState). meaning x a ∷ ys) (slot_set xs as' i s (omega (arith, same)) (omega (arith, within)))

-- a slot with its address
both_set : (slots : List Slot) (addrs : List Addr) (i : ℕ) (s : Slot) (a : Addr) → length addrs ≡ length slots → i < length slots
    → meanings (slice_set slots i s) (slice_set addrs i a) ≡ slice_set (meanings slots addrs) i (meaning s a)
both_set [] addrs i s a same within = absurd (omega (arith, within))
both_set (x ∷ xs) [] i s a same within = absurd (omega (arith, same))
both_set (x ∷ xs) (b ∷ bs) zero s a same within = refl
both_set (x ∷ xs) (b ∷ bs) (suc i) s a same within = ap (λ (ys : List NameState). meaning x b ∷ ys) (both_set xs bs i s a (omega (arith, same)) (omega (arith, within)))

-- A table's label has a slot and an address, which say what it means.
module _ (slots : List Slot) (addrs : List Addr) (names : List NameState) (is : meanings slots addrs ≡ names) (same : length addrs ≡ length slots) (i : ℕ) (below : i < length names) where
  pub has_slot : i < length slots
  has_slot = omega (arith, below, ap length is, length-meanings slots addrs same)

  pub has_addr : i < length addrs
  has_addr = omega (arith, has_slot, same)

  pub means : (d : Slot) (e : Addr) → state_of names i ≡ meaning (get_or slots i d) (get_or addrs i e)
  means d e = ap (λ (ns : List NameState). state_of ns i) (sym is) ∙ meaning_at d e slots addrs i same has_slot

  -- another slot, where the address stays
  pub with_slot : (s : Slot) (e : Addr) → meanings (slice_set slots i s) addrs ≡ slice_set names i (meaning s (get_or addrs i e))
  with_slot s e = slot_set s e slots addrs i s same has_slot ∙ ap (λ (ns : List NameState). slice_set ns i (meaning s (get_or addrs i e))) is

  -- a slot with its address
  pub with_both : (s : Slot) (a : Addr) → meanings (slice_set slots i s) (slice_set addrs i a) ≡ slice_set names i (meaning s a)
  with_both s a = both_set slots addrs i s a same has_slot ∙ ap (λ (ns : List NameState). slice_set ns i (meaning s a)) is
