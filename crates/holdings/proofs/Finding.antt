-- What a free finds at the address that it took.
use Rattle.holdings.specs.Accounts.{Account, Holds, held_at, loose, off_map, transit}
use Rattle.tc_units.specs.declared.units.Addr.{Addr}
use Rattle.holdings.specs.Books.{Books, Setup, over_classes}
use Rattle.tc_model.specs.declared.answers.CallLine.{CallLine}
use Rattle.holdings.specs.Facts.{Facts}
use Rattle.holdings.specs.Laws.{Finds, Found}
use Rattle.tc_units.specs.declared.units.Label.{Label}
use Rattle.tc_units.specs.declared.spans.SpanKind.TheVariants.{Large, Small}
use Rattle.std.proofs.Common.{List, Some, [], ap, arith, inl, inr, refl, sym, ℕ, ◌∙◌, ◌≡◌, ◌≢◌, ◌<◌}
use Rattle.tc_units.specs.declared.spans.SpanKind.{SpanKind}
use Rattle.tc_model.specs.Chains.{at}
use Rattle.holdings.specs.Runs.{bit, first_byte, large, run_of, runs_at, runs_like, spans_at, address_of, spans_like}
use Rattle.std.proofs.lemmas.Bool.{cases_eq, cases_lt, eq-eqb}
use Rattle.std.specs.List.{slice_get}
use Rattle.std.specs.Prelude.{sum_by}
use Rattle.tc_model.specs.Run.{start}
use Rattle.tc_units.specs.declared.units.Class.{Class}
use Rattle.tc_units.specs.declared.spans.Run.{Run}
use Rattle.tc_units.specs.declared.spans.SpanRef.{SpanRef}
use Rattle.holdings.proofs.MapFacts.{byte_page, class_spans, is_large, like_at, run_at, run_found, same_start, span_found, span_lives, span_of, span_run}
use Rattle.holdings.proofs.Sums.{class_counts, least, none_counts, one_at, two}
use Rattle.holdings.proofs.Held.{first_in}
use Rattle.holdings.proofs.KeptFacts.{same_address}

module _ {m : Setup} {b : Books} {calls : List CallLine} (f : Facts m b calls) (t : ℕ) (a : Account)
    (label : Label) (o : Addr) (at : slice_get b.accounts t ≡ Some a) (is : a.doing ≡ Holds label o) where
  own : loose o.0 a.doing ≡ 1
  own = ap (loose o.0) is ∙ ap bit (eq-eqb o.0 o.0 refl)

  -- where no object is, a run begins, and no other account holds anything there
  module _ (none : over_classes m.rows (λ k. b.stock.objects k o.0) ≡ 0) where
    begun : runs_at o.0 b.heap ≡ 1
    begun = omega (arith, own, none, f.places o.0, f.starts o.0, least (held_at o.0) b.accounts t a at)

    unbegun : b.stock.begins o.0 ≡ 0
    unbegun = omega (arith, own, none, f.places o.0, f.starts o.0, least (held_at o.0) b.accounts t a at)

    alone : (i : ℕ) (x : Account) → slice_get b.accounts i ≡ Some x → (spans_at o.0 x.apart ≡ 0) × (i ≢ t → held_at o.0 x ≡ 0)
    alone i x other =
        let rest : i ≢ t → held_at o.0 x ≡ 0 = λ apart. let two_of = two (held_at o.0) b.accounts i t x a apart other at in omega (arith, own, none, f.places o.0, f.starts o.0, two_of) in
        elim (cases_eq i t) [
          | inl same ↦
              let p : spans_at o.0 x.apart ≡ spans_at o.0 a.apart = ap (λ (y : Account). spans_at o.0 y.apart) (one_at b.accounts i t x a other at same) in
              (omega (arith, p, own, none, f.places o.0, f.starts o.0, least (held_at o.0) b.accounts t a at), rest)
          | inr apart ↦ (let z = rest apart in omega (arith, z), rest)
        ]

    -- so no run that begins there is off the map, and no span that begins there is of a class
    mapped : a.off ≡ [] → (r : Run) → first_byte r ≡ o.0 → sum_by (off_map r) b.accounts ≡ 0
    mapped clear r start =
        none_counts (off_map r) b.accounts (λ i x other.
        elim (cases_eq i t) [
          | inl same ↦ ap (λ (y : Account). runs_like r y.off) (one_at b.accounts i t x a other at same) ∙ ap (runs_like r) clear
          | inr apart ↦ grind (arith, alone i x other, like_at r x.off)
        ])

    of_no_class : (s : SpanRef) (c : Class) → 0 < spans_like s b.spans → first_byte (run_of s) ≡ o.0 → s.kind ≡ Small c → ⊥
    of_no_class s c there start kind =
        let p : b.stock.begins (first_byte (run_of s)) ≡ b.stock.begins o.0 = ap b.stock.begins start in
        let none_held : sum_by (transit s) b.accounts ≡ 0 = none_counts (transit s) b.accounts (λ i x other.
        let q : spans_at (first_byte (run_of s)) x.apart ≡ spans_at o.0 x.apart = ap (λ n. spans_at n x.apart) start in
        omega (arith, q, (alone i x other).0, (f.selves i x other).mapped s, span_run s x.apart, run_at (run_of s) x.apart)) in
        omega (arith, class_spans m b calls f s c.0 kind, p, none_held, there, unbegun, f.cut.started s)

    found_large : (s : SpanRef) → 0 < spans_like s b.spans → first_byte (run_of s) ≡ o.0 → Found m b o
    found_large s there start =
        let byte = first_in m b calls f (run_of s) o.0 (span_lives m b calls f s there) start in
        let kinds : (k : SpanKind) → s.kind ≡ k → s ≡ large (run_of s) =
        λ k. elim k as (λ (j : SpanKind). s.kind ≡ j → s ≡ large (run_of s)) [ Large ↦ λ e. sym (is_large s e) | Small c ↦ λ e. absurd (of_no_class s c there start e) ] in
        record { span = s; there = there; holds = byte_page s o.0 byte; is = inr (run_of s, kinds s.kind refl, same_address o (address_of (run_of s)) (sym start)) }

  pub find_there : a.off ≡ [] → Found m b o
  find_there clear =
      elim (cases_lt 0 (over_classes m.rows (λ k. b.stock.objects k o.0))) [
        | inl some ↦
            let c = class_counts m.rows (λ k. b.stock.objects k o.0) some in
            let s = span_of m b calls f c.0 o.0 c.1 in
            record { span = s.span; there = s.there; holds = byte_page s.span o.0 s.byte; is = inl (c.0, s.kind, c.1) }
        | inr no_class ↦ grind (arith, run_found o.0 b.heap, begun, span_found, mapped, found_large, same_start)
      ]

pub frees_find : Finds
frees_find m b calls t a label o f at is clear = find_there f t a label o at is clear
