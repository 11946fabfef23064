-- Several takes from one span are what as many takes from the list give: it goes on to serve first until it has no free object.
use Rattle.std.proofs.Common.{◌≡◌, ℕ, zero, suc, ◌+◌, ◌<◌, ◌≤◌, List, ◌++◌, length}
use Rattle.std.proofs.Common.{get_or, set, map, Option, Some, None, MatchOption, refl, sym, ◌∙◌, ap, arith}
use Rattle.std.specs.Option.{option_to_list}
use Rattle.std.proofs.lemmas.List.{get_or-map, get_or-set_same, get_or-set_other, length-map, length-set, map-set, set-set, set-get_or}
use Rattle.std.proofs.lemmas.Bool.Decides.{nat_tests}
use Rattle.tc_units.specs.declared.units.Addr.{Addr}
use Rattle.tc_units.specs.declared.spans.ClassRow.{ClassRow}
use Rattle.span_list.specs.Span.{SpanState, least, taken_from, after_take, free_count}
use Rattle.central_free.specs.Central.{taken, taken_one, IsSound, IsOfRow}
use Rattle.central_free.specs.Runs.{span_after, given_by}
use Rattle.central_free.specs.Slots.{weight}
use Rattle.central_free.proofs.ChoiceFacts.{IsBestPlace, weight-free, taken_one-is}
use Rattle.central_free.proofs.SoundFacts.{has_pages, IsOfRow-after_take, IsSound-set, span-after_take}
use Rattle.central_free.proofs.RunFacts.{run_counts}
use Rattle.central_free.proofs.TookFacts.{and_then, joined, taken-add, took}

-- the span goes on to be the best
best_stays : (spans : List SpanState) (j : ℕ) (s t : SpanState) → j < length spans → ((d : SpanState) → get_or spans j d ≡ s)
    → weight s ≤ weight t → IsBestPlace (map weight spans) j → IsBestPlace (map weight (set spans j t)) j
best_stays spans j s t within here more best =
    grind (
      arith,
      nat_tests,
      map-set weight spans j t,
      length-map spans weight,
      get_or-set_same (map weight spans) j (weight t) 0,
      get_or-map weight spans j s 0 within,
      here s,
      get_or-set_other (map weight spans) j,
      best.1,
      best.2,
    )

-- all that is known behind k takes from the span at a place
record IsRun (row : ClassRow) (spans : List SpanState) (j : ℕ) (s : SpanState) (k : ℕ) : Type 0 where
  is : taken k spans ≡ took (given_by k s) (set spans j (span_after k s))
  sound : IsSound (record { row = row; spans = set spans j (span_after k s) })
  best : 0 < free_count (span_after k s) → IsBestPlace (map weight (set spans j (span_after k s))) j

one_more : (xs ys : List SpanState) (one : Option Addr) → MatchOption one ⊥ (λ a. (taken_one xs ≡ Some (a, ys)) × (zero ≡ zero)) → taken 1 xs ≡ took (option_to_list one) ys
one_more xs ys None none = absurd none
one_more xs ys (Some a) some = ap (λ o. and_then xs (taken 0) o) some.0

module _ {row : ClassRow} {spans : List SpanState} (sound : IsSound (record { row = row; spans = spans })) (j : ℕ) (s : SpanState)
    (within : j < length spans) (here : (d : SpanState) → get_or spans j d ≡ s) (best : IsBestPlace (map weight spans) j) where
  run : (k : ℕ) → k ≤ free_count s → IsRun row spans j s k
  run zero few = grind (arith, set-get_or spans j s)
  run (suc k) few =
      let before = run k (omega arith) in let counts = run_counts k s (omega arith) in
      let t = span_after k s in let u = after_take t (least t) in let one = option_to_list (taken_from t (least t)) in
      let xs = set spans j t in let some : 0 < free_count t = omega (arith, counts.1) in let inside : j < length xs = omega (arith, length-set spans j t) in
      let spot : (d : SpanState) → get_or xs j d ≡ t = λ d. get_or-set_same spans j t d within in
      let twice : set xs j u ≡ set spans j u = set-set spans j t u in
      let of_row : IsOfRow row t = rw (spot t) at (before.sound.of_row j t inside) in
      let next = taken_one-is ⊥ (zero ≡ zero) refl xs j t u (taken_from t (least t)) before.sound.apart (has_pages before.sound) (before.best some) inside (sym (spot t)) refl refl in
      let step : taken (k + 1) spans ≡ took (given_by k s ++ one) (set spans j u) =
      taken-add k 1 spans ∙ ap (λ r. joined r 1) before.is
      ∙ ap (λ r. took (given_by k s ++ r.objects) r.spans) (one_more xs (set xs j u) (taken_from t (least t)) next) ∙ ap (took (given_by k s ++ one)) twice in
      record {
        is = let next : suc k ≡ k + 1 = omega arith in ap (λ n. taken n spans) next ∙ step;
        sound = rw twice at (IsSound-set before.sound j t u inside (sym (spot t)) (span-after_take t) (IsOfRow-after_take row t of_row));
        best = λ still. rw twice at (best_stays xs j t u inside spot (omega (arith, weight-free t some, weight-free u still, counts.0, (run_counts (suc k) s few).0)) (before.best some));
      }

  -- what a run of takes gives, and the spans behind it
  pub run-taken : (k : ℕ) → k ≤ free_count s
      → (taken k spans ≡ record { objects = given_by k s; spans = set spans j (span_after k s) }) × IsSound (record { row = row; spans = set spans j (span_after k s) })
  run-taken k few = let it = run k few in (it.is, it.sound)
