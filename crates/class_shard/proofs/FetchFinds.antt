-- A fetch finds nothing exactly where there is nothing.
use Rattle.std.proofs.Common.{◌≡◌, ℕ, zero, suc, ◌-◌, ◌<◌, ◌↔◌, Bool, true, false, eqb, cond, List, [], ◌∷◌, length, drop, Option, Some, None, refl, sym, ap, ◌∙◌, arith}
use Rattle.std.proofs.lemmas.Bool.{eqb-true}
use Rattle.std.proofs.lemmas.Bool.Decides.{nat_tests}
use Rattle.std.proofs.lemmas.List.{length-drop, length-reverse}
use Rattle.tc_units.specs.declared.units.Addr.{Addr}
use Rattle.span_list.specs.Span.{SpanState}
use Rattle.central_free.specs.Central.{taken_one, taken}
use Rattle.central_free.proofs.TookFacts.{and_then, nothing_free, nothing_taken}
use Rattle.transfer_cache.specs.Transfer.{last_first}
use Rattle.class_shard.specs.Finds.{FetchFinds}
use Rattle.class_shard.specs.Shard.{Shard, is_idle, fetched, IsEmpty}

no_item : {X : Type 0} (x : X) (xs : List X) → x ∷ xs ≡ [] → ⊥
no_item x xs is = let e = ap length is in omega (arith, e)

empty_list : {X : Type 0} (xs : List X) → length xs ≡ 0 → xs ≡ []
empty_list [] is = refl
empty_list (x ∷ xs) is = absurd (omega (arith, is))

-- of the spans
none_by : (spans : List SpanState) (n : ℕ) (one : Option (Addr × List SpanState)) → (and_then spans (taken n) one).objects ≡ [] → one ≡ None
none_by spans n None is = refl
none_by spans n (Some one) is = absurd (no_item one.0 _ is)

taken_none : (spans : List SpanState) (n : ℕ) → 0 < n → (taken n spans).objects ≡ [] → taken_one spans ≡ None
taken_none spans zero some is = absurd (omega arith)
taken_none spans (suc n) some is = none_by spans n (taken_one spans) is

none_taken : (spans : List SpanState) (n : ℕ) → taken_one spans ≡ None → (taken n spans).objects ≡ []
none_taken spans zero none = refl
none_taken spans (suc n) none = ap (λ one. (and_then spans (taken n) one).objects) none

-- of the transfer cache
last_some : (n : ℕ) (xs : List Addr) → 0 < n → 0 < length xs → last_first n xs ≡ [] → ⊥
last_some n xs some there is =
    let size = length-reverse (drop (length xs - n) xs) in
    let rest = length-drop (length xs - n) xs in
    let none = ap length is in
    omega (arith, size, rest, none, some, there)

module _ (n : ℕ) (s : Shard) (some : 0 < n) where
  found : (b : Bool) → is_idle s ≡ b → fetched n s ≡ cond b (taken n s.central.spans).objects (last_first n s.transfer.objects)
  found b is = ap (λ c. cond c (taken n s.central.spans).objects (last_first n s.transfer.objects)) is

  there : is_idle s ≡ false → 0 < length s.transfer.objects
  there busy = grind (arith, nat_tests)

  finds_none : (b : Bool) → is_idle s ≡ b → fetched n s ≡ [] → IsEmpty s
  finds_none true idle is =
      let none = eqb-true (length s.transfer.objects) 0 idle in
      record {
        no_transfer = empty_list s.transfer.objects none;
        no_free = nothing_free s.central.spans (taken_none s.central.spans n some (sym (found true idle) ∙ is));
      }
  finds_none false idle is = absurd (last_some n s.transfer.objects some (there idle) (sym (found false idle) ∙ is))

  none_found : IsEmpty s → fetched n s ≡ []
  none_found empty =
      let idle : is_idle s ≡ true = ap (λ xs. eqb (length xs) 0) empty.no_transfer in
      found true idle ∙ (none_taken s.central.spans n (nothing_taken s.central.spans empty.no_free))

pub fetch_finds : FetchFinds
fetch_finds n s some = (finds_none n s some (is_idle s) refl, none_found n s some)

-- A rule by which a fetch always misses finds less, where a transfer cache has an object.
pub always_misses : (n : ℕ) (s : Shard) (missed : List Addr) → 0 < length s.transfer.objects → missed ≡ [] → ((missed ≡ []) ↔ IsEmpty s) → ⊥
always_misses n s missed some misses finds = let none = ap length (finds.0 misses).no_transfer in omega (arith, some, none)
