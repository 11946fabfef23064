-- How large the requests of a script are.
use Rattle.std.proofs.Common.{◌≡◌, ℕ, ◌^◌, ◌≤◌, List, [], ◌∷◌, ◌++◌, All, Option, Some, None, refl, ◌∙◌, subst, arith, option_map, slice_get}
use Rattle.alloc_rules.proofs.Common.{slice_get_within, get_or_from_slice_get, append_snoc, Label, Call, Malloc}
use Rattle.alloc_rules.proofs.Common.{Planned, Asked, ThreadCall, script_of, call_at, ClassRow, IsValid}

abbrev IsLow : Call → Type 0
IsLow (Malloc label size) = size ≤ 2 ^ 40
IsLow other = Unit {0}

abbrev Lows : List Planned → Type 0
Lows script = All (λ (q : Planned). IsLow q.call) script

module _ (rows : List ClassRow) (planned : Planned → Type 0) where
  all_low : (asked : Asked) → IsValid rows planned asked → (t : ℕ) (earlier cs : List ThreadCall) → earlier ++ cs ≡ asked.calls → Lows (script_of t cs)
  all_low asked valid t earlier [] is = λ i d low. absurd (omega arith)
  all_low asked valid t earlier (c ∷ cs) is =
      grind (arith, all_low asked valid t (earlier ++ c ∷ []) cs (append_snoc earlier c cs ∙ is), append_snoc)

  low_at : (script : List Planned) (j : ℕ) (label : Label) (size : ℕ) (o : Option Planned) → Lows script → slice_get script j ≡ o
      → option_map (λ (q : Planned). q.call) o ≡ Some (Malloc label size) → size ≤ 2 ^ 40
  low_at script j label size None lows at is = absurd (cc)
  low_at script j label size (Some q) lows at is =
      let e : q.call ≡ Malloc label size = cc in
      subst IsLow e (subst (λ (x : Planned). IsLow x.call) (get_or_from_slice_get script j q q at) (lows j q (slice_get_within script j q at)))

  -- a request has at most 2^40 bytes
  pub request_low : (asked : Asked) → IsValid rows planned asked → (t j : ℕ) (label : Label) (size : ℕ) → call_at (script_of t asked.calls) j ≡ Some (Malloc label size) → size ≤ 2 ^ 40
  request_low asked valid t j label size is = low_at (script_of t asked.calls) j label size (slice_get (script_of t asked.calls) j) (all_low asked valid t [] asked.calls refl) refl is
