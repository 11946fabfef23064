-- Objects that move between the stock and hands.
use Rattle.holdings.specs.Accounts.{Account, Frees, holding, in_hand, loose, means, named_at}
use Rattle.tc_units.specs.declared.units.Addr.{Addr}
use Rattle.holdings.specs.Books.{Books, IsCut, Setup, Stock, class_number, over_classes, size_of}
use Rattle.std.proofs.Common.{Bool, List, None, Some, ap, arith, cond, eqb, false, inl, inr, length, ltb, option_map, refl}
use Rattle.std.proofs.Common.{subst, true, ℕ, ◌+◌, ◌<◌, ◌∙◌, ◌≡◌, ◌≢◌, ◌≤◌, ◌⊎◌}
use Rattle.tc_model.specs.declared.answers.CallLine.{CallLine}
use Rattle.tc_units.specs.declared.spans.ClassRow.{ClassRow}
use Rattle.tc_model.specs.Blocks.{Extent, frees, meets}
use Rattle.holdings.specs.Facts.{Facts, IsStanding, has_value, value_after}
use Rattle.tc_units.specs.declared.units.Label.{Label}
use Rattle.name_table.specs.declared.table.NameState.{NameState}
use Rattle.tc_units.specs.declared.spans.Run.{Run}
use Rattle.std.proofs.lemmas.Bool.{and_parts, cases_Bool, cases_eq, cases_lt, cond-false, cond-true, eq-eqb, ltb-true, ne_eqb}
use Rattle.holdings.specs.Runs.{bit, objects_at, small, spans_like, spans_of_run}
use Rattle.holdings.specs.Moves.{books_with}
use Rattle.tc_units.specs.Classes.{class_of, length_of, serves}
use Rattle.std.specs.Prelude.{sum_by}
use Rattle.std.proofs.lemmas.List.Folds.{find_at}
use Rattle.std.specs.List.{position_or_len, slice_get, slice_set}
use Rattle.std.proofs.lemmas.Option.{slice_get-get_or}
use Rattle.name_table.specs.Names.{state_of}
use Rattle.holdings.proofs.KeptFacts.{Labelled}
use Rattle.holdings.proofs.Sums.{class_least, class_same, class_shift, counted, least, one_at, shift, two}
use Rattle.holdings.proofs.Quiet.{holder}
use Rattle.holdings.proofs.Groups.{large_still}
use Rattle.holdings.proofs.Held.{name_least, objects_one}
use Rattle.holdings.proofs.Standing.{same_value_refl}

one_size : (rows : List ClassRow) (size k : ℕ) (b : Bool) → ltb (position_or_len (serves size) rows) (length rows) ≡ b
    → option_map (λ (n : ℕ). class_number n) (cond b (Some (position_or_len (serves size) rows)) None) ≡ Some (class_number k)
    → (k < length rows) × (length_of rows size ≡ size_of rows k)
one_size rows size k false past is = absurd (cc)
one_size rows size k true there is = grind (arith, find_at, ltb-true, slice_get-get_or)

-- a request of a class gets the bytes of its objects
pub class_length : (rows : List ClassRow) (size k : ℕ) → class_of rows size ≡ Some (class_number k) → (k < length rows) × (length_of rows size ≡ size_of rows k)
class_length rows size k is = one_size rows size k (ltb (position_or_len (serves size) rows) (length rows)) refl is

pub not_meets : (x y : Extent) → (x.addr + x.len ≤ y.addr) ⊎ (y.addr + y.len ≤ x.addr) → meets x y ≡ false
not_meets x y apart = grind (arith, and_parts, cases_Bool, ltb, ltb-true)

none_of : (n : ℕ) → (0 < n → ⊥) → n ≡ 0
none_of n none = elim (cases_lt 0 n) [ inl some ↦ absurd (none some) | inr zero_of ↦ omega (arith, zero_of) ]

means_at : (state : NameState) (o : Addr) → bit (means (Some o) state) ≤ named_at o.0 state
means_at state o = grind (arith)

module _ {m : Setup} {b : Books} {calls : List CallLine} (f : Facts m b calls) (t : ℕ) (a : Account) (at : slice_get b.accounts t ≡ Some a) where
  -- objects of the hand's class move between the stock and the hand, and what a call takes from it
  pub record Stocked (g : Stock) (came : List Addr) : Type 0 where
    pub others : (k n : ℕ) → k ≢ a.class → (g.stored k n ≡ b.stock.stored k n) × (g.objects k n ≡ b.stock.objects k n)
    pub moves : (n : ℕ) → g.stored a.class n + objects_at n came + b.stock.objects a.class n ≡ b.stock.stored a.class n + objects_at n a.hand + g.objects a.class n
    pub cut : IsCut m.rows g

  own_hand : (n : ℕ) → in_hand a.class n a ≡ objects_at n a.hand
  own_hand n = cond-true (eqb a.class a.class) (objects_at n a.hand) 0 (eq-eqb a.class a.class refl)

  hand_most : (n : ℕ) → objects_at n a.hand + b.stock.stored a.class n ≤ b.stock.objects a.class n
  hand_most n = omega (arith, own_hand n, least (in_hand a.class n) b.accounts t a at, f.classes a.class n)

  module _ (g : Stock) (came : List Addr) (st : Stocked g came) where
    pub stock_places : (n : ℕ) → over_classes m.rows (λ k. g.stored k n) + objects_at n came + over_classes m.rows (λ k. b.stock.objects k n)
        ≡ over_classes m.rows (λ k. b.stock.stored k n) + objects_at n a.hand + over_classes m.rows (λ k. g.objects k n)
    stock_places n =
        elim (cases_lt a.class (length m.rows)) [
          | inl below ↦
              let p = class_shift m.rows (λ k. b.stock.stored k n) (λ k. g.stored k n) a.class below (λ k other. (st.others k n other).0) in
              let q = class_shift m.rows (λ k. b.stock.objects k n) (λ k. g.objects k n) a.class below (λ k other. (st.others k n other).1) in
              omega (arith, p, q, st.moves n)
          | inr past ↦
              let none : b.stock.objects a.class n ≡ 0 = none_of _ (λ some. omega (arith, past, f.cut.class a.class n some)) in
              let none' : g.objects a.class n ≡ 0 = none_of _ (λ some. omega (arith, past, st.cut.class a.class n some)) in
              let other : (k : ℕ) → k < length m.rows → k ≢ a.class = λ k below same. omega (arith, below, past, same) in
              let p = class_same m.rows (λ k. b.stock.stored k n) (λ k. g.stored k n) (λ k below. (st.others k n (other k below)).0) in
              let q = class_same m.rows (λ k. b.stock.objects k n) (λ k. g.objects k n) (λ k below. (st.others k n (other k below)).1) in
              omega (arith, p, q, none, none', hand_most n, st.moves n)
        ]

    pub stock_classes : (w : Account) → w.class ≡ a.class → ((n : ℕ) → objects_at n w.hand ≤ objects_at n came)
        → (k n : ℕ) → sum_by (in_hand k n) (slice_set b.accounts t w) + g.stored k n ≤ g.objects k n
    stock_classes w class fewer k n = grind (arith, cases_eq, cond-false, cond-true, eq-eqb, eqb, ne_eqb, shift)

    -- where an object's block stands, it is not in the stock; it is in the hand only where this call frees it
    pub stands_where : (x : Extent) → Labelled calls x → 0 < b.stock.objects a.class x.addr → (b.stock.stored a.class x.addr ≡ 0)
        × ((objects_at x.addr a.hand ≡ 0) ⊎ ((label : Label) × (o : Addr) × (a.doing ≡ Frees label o) × (o.0 ≡ x.addr) × (objects_at x.addr a.hand ≡ 1)))
    stands_where x own some =
        let n : ℕ = x.addr in
        let o : Addr = record { 0 = n } in
        let one = objects_one m b calls f a.class n some in
        let stored = class_least m.rows (λ k. b.stock.stored k n) a.class (f.cut.class a.class n some) in
        let mine = least (λ (y : Account). loose n y.doing + objects_at n y.hand) b.accounts t a at in
        let v : value_after calls own.0 ≡ Some (Some o) = rw (own.1.kept, own.1.answered) refl in
        let tied : sum_by (holding own.0 (Some o)) b.accounts + bit (means (Some o) (state_of b.names own.0)) ≡ 1 =
        f.tie own.0 (Some o) ∙ (ap (λ u. bit (has_value u (Some o))) v ∙ ap bit (same_value_refl (Some o))) in
        elim (cases_lt 0 (sum_by (holding own.0 (Some o)) b.accounts)) [
          | inl held ↦
              let c = counted (holding own.0 (Some o)) b.accounts held in
              elim (holder c.one.doing own.0 o c.some) [
                | inl free ↦ elim (cases_eq c.at t) [
                  | inl here ↦ grind (arith, one_at b.accounts c.at t c.one a c.is)
                  | inr apart ↦ grind (arith, two (λ (y : Account). loose n y.doing + objects_at n y.hand) b.accounts c.at t c.one a apart c.is)
                ]
                | inr frees ↦
                    let has : 0 < objects_at n c.one.hand = subst (λ k. 0 < objects_at k c.one.hand) frees.4 ((f.selves c.at c.one c.is).freeing frees.0 frees.1 frees.2) in
                    elim (cases_eq c.at t) [
                      | inl here ↦ grind (arith, one_at b.accounts c.at t c.one a c.is)
                      | inr apart ↦ grind (arith, two (λ (y : Account). loose n y.doing + objects_at n y.hand) b.accounts c.at t c.one a apart c.is)
                    ]
              ]
          | inr unheld ↦ grind (arith, name_least m b calls f n own.0, means_at (state_of b.names own.0) o)
        ]

    -- so a block still stands, but for that which the call frees
    pub object_stays : (x : Extent) → Labelled calls x → ((label : Label) (o : Addr) → a.doing ≡ Frees label o → o.0 ≡ x.addr → 0 < objects_at x.addr came)
        → (k : ℕ) → 0 < b.stock.objects k x.addr → 0 < g.objects k x.addr
    object_stays x own frees k some =
        elim (cases_eq k a.class) [
          | inl same ↦
              let e : b.stock.objects k x.addr ≡ b.stock.objects a.class x.addr = ap (λ c. b.stock.objects c x.addr) same in
              let h : g.objects k x.addr ≡ g.objects a.class x.addr = ap (λ c. g.objects c x.addr) same in
              let w = stands_where x own (omega (arith, e, some)) in
              elim w.1 [
                | inl none ↦ omega (arith, e, h, some, w.0, none, st.moves x.addr)
                | inr mine ↦ omega (arith, e, h, some, w.0, mine.4, frees mine.0 mine.1 mine.2 mine.3, st.moves x.addr)
              ]
          | inr other ↦ let o = st.others k x.addr other in omega (arith, o.1, some)
        ]

    pub stands_on : (w : Account) (x : Extent) → IsStanding m.rows b x → Labelled calls x
        → ((label : Label) (o : Addr) → a.doing ≡ Frees label o → o.0 ≡ x.addr → 0 < objects_at x.addr came)
        → ((q : Run) → ((k : ℕ) → spans_like (small (class_number k) q) b.spans ≡ 0) → spans_of_run q a.apart ≡ 0 → spans_of_run q w.apart ≡ 0)
        → IsStanding m.rows (books_with b g b.heap b.spans b.names t w) x
    stands_on w x stands own frees apart = grind (arith, large_still f t a w, apart, object_stays x own frees)
