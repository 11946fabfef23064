-- An object that is put back: the span that holds it, and what becomes of the spans.
use Rattle.std.proofs.Common.{◌≡◌, ◌≢◌, ℕ, suc, ◌+◌, ◌-◌, ◌*◌, ◌<◌, ◌≤◌, Bool, true, false, not, nat_lt, nat_le, List, []}
use Rattle.std.proofs.Common.{◌∷◌, ◌++◌, length, get_or, set, take, drop, replicate, count_by, Option, Some, cond, refl, sym, ◌∙◌, ap, subst, inl, inr, arith}
use Rattle.std.specs.Prelude.{All, Any}
use Rattle.std.specs.List.{flat_map, position_or_len, remove}
use Rattle.std.proofs.lemmas.List.{get_or-set_same, get_or-set_other, length-set, get_or_default, length-map, drop-set-lt, take-set, append-nil}
use Rattle.std.proofs.lemmas.List.Elements.{All-append, All-take, All-drop}
use Rattle.std.proofs.lemmas.List.Edits.{length-remove, get_or-remove_below, get_or-remove_above}
use Rattle.std.proofs.lemmas.List.Quantifiers.{all_pairs_remove}
use Rattle.std.proofs.lemmas.List.Sums.{sum_by-cons, sum_by-remove, position_or_len_is}
use Rattle.std.proofs.lemmas.Option.{same_Some, slice_get-get_or, slice_get_within}
use Rattle.std.proofs.lemmas.Nat.{mul-le}
use Rattle.std.proofs.Math.Nat.{div-mul-le_self}
use Rattle.std.proofs.lemmas.Bool.{cases_lt, cases_eq, cases_order, and_from, and_right, lt-ltb, le-ltb, le-leb}
use Rattle.std.proofs.lemmas.Bool.Decides.{nat_tests}
use Rattle.tc_units.specs.declared.units.Addr.{Addr}
use Rattle.tc_units.specs.declared.spans.SpanRef.{SpanRef}
use Rattle.tc_units.specs.declared.spans.ClassRow.{ClassRow}
use Rattle.span_list.specs.Span.{SpanState, IsCut, IsTaken, first_byte, taken_count, after_put, free_objects, objects_of}
use Rattle.span_list.proofs.SpanFacts.{put_counts}
use Rattle.central_free.specs.Central.{holds, put_at, put_one, IsTakenIn, IsApartFrom, IsBefore, IsOfRow, IsSound, free_in}
use Rattle.central_free.specs.declared.ranking.Standing.{Standing}
use Rattle.central_free.specs.Slots.{slot_at, span_at, spans_of, IsKept, IsLastBegun}
use Rattle.central_free.proofs.SlotFacts.{StandsAt, stands_at, key_of_place, nobody}
use Rattle.central_free.proofs.SoundFacts.{has_pages, IsCut-with_object, IsSound-set, count-flat_map, count-set}

-- an object that is taken lies in its span's pages
pub record IsInside (s : SpanState) (a : Addr) : Type 0 where
  pub low : first_byte s.span ≤ a.0
  pub high : a.0 < first_byte s.span + s.span.pages * 8192

IsInside-taken : (s : SpanState) (a : Addr) → IsCut s → IsTaken s a → IsInside s a
IsInside-taken s a cut taken = grind (arith, slice_get_within, mul-le, div-mul-le_self)

-- where the span of a taken object stands
pub record IsPlace (spans : List SpanState) (a : Addr) (k : ℕ) : Type 0 where
  pub within : k < length spans
  pub held : position_or_len (holds a) spans ≡ k
  pub taken : (d : SpanState) → IsTaken (get_or spans k d) a

-- a list without a place is the same whatever stood there
pub remove-set : {X : Type 0} (xs : List X) (k : ℕ) (x : X) → remove (set xs k x) k ≡ remove xs k
remove-set xs k x =
    ap (λ ys. ys ++ drop (suc k) (set xs k x)) (take-set xs k x) ∙ ap (λ ys. take k xs ++ ys) (drop-set-lt (suc k) xs k x (omega arith))

-- a put leaves a span of its row, where it still has a taken object
IsOfRow-after_put : (row : ClassRow) (s : SpanState) (a : Addr) → IsOfRow row s → (taken_count (after_put s a) ≡ 0 → ⊥) → IsOfRow row (after_put s a)
IsOfRow-after_put row s a of_row some =
    record { cut = IsCut-with_object s _ true of_row.cut; size = of_row.size; pages = of_row.pages; taken = omega arith }

-- a taken object counts
taken_counts : (s : SpanState) (a : Addr) → IsTaken s a → 0 < taken_count s
taken_counts s a taken = omega (arith, put_counts s.free taken.index taken.taken)

module _ {row : ClassRow} {spans : List SpanState} (sound : IsSound (record { row = row; spans = spans })) where
  inside : (a : Addr) (i : ℕ) (x : SpanState) → i < length spans → get_or spans i x ≡ x → IsTaken x a → IsInside x a
  inside a i x within is taken = IsInside-taken x a (rw is at (sound.of_row i x within).cut) taken

  pub IsPlace-taken : (a : Addr) (t : IsTakenIn spans a) → IsPlace spans a t.0
  IsPlace-taken a t =
      let (k, x, within, here, taken) = t in let in_pages = inside a k x within here taken in
      let ends : SpanState → ℕ = λ s. first_byte s.span + s.span.pages * 8192 in
      let first = ap (λ s. first_byte s.span) here in let pages = ap (λ s. s.span.pages) here in
      record {
        within = within;
        held = position_or_len_is (holds a) spans k x (omega arith) (λ j less.
            let before : IsBefore (get_or spans j x) (get_or spans k x) = sound.apart j k x less within in
            and_right (nat_le (first_byte (get_or spans j x).span) a.0) (nat_lt a.0 (ends (get_or spans j x))) (le-ltb a.0 (ends (get_or spans j x)) (omega (arith, in_pages.low)))) (λ _.
            and_from (nat_le (first_byte (get_or spans k x).span) a.0) (nat_lt a.0 (ends (get_or spans k x)))
            (le-leb (first_byte (get_or spans k x).span) a.0 (omega (arith, in_pages.low))) (lt-ltb a.0 (ends (get_or spans k x)) (omega (arith, in_pages.high))));
        taken = λ d. rw (get_or_default spans k d x within, here) taken;
      }

  -- the spans stay sound where one leaves
  IsSound-remove : (k : ℕ) → k < length spans → IsSound (record { row = row; spans = remove spans k })
  IsSound-remove k within =
      record {
        some = sound.some;
        fits = sound.fits;
        of_row = All-append (IsOfRow row) (take k spans) (drop (suc k) spans) (All-take (IsOfRow row) k spans sound.of_row) (All-drop (IsOfRow row) (suc k) spans sound.of_row);
        apart = all_pairs_remove IsBefore spans k within sound.apart;
      }

  -- what is taken in a span now and wasn't before was taken in none of the spans
  pub fresh-set : (j : ℕ) (s t : SpanState) (a : Addr) → j < length spans → ((d : SpanState) → get_or spans j d ≡ s)
      → t.span ≡ s.span → IsCut t → IsTaken t a → (IsTaken s a → ⊥) → IsTakenIn spans a → ⊥
  fresh-set j s t a within here same cut taken fresh there =
      let (i, x, less, at, taken_x) = there in
      grind (arith, IsInside-taken t a cut taken, inside a i x less, here x, cases_order i j, fresh)

  -- what is taken in a span that has no page of the others is taken in none of them
  pub fresh-apart : (s : SpanState) (a : Addr) → IsCut s → IsTaken s a → All (IsApartFrom s.span) spans → IsTakenIn spans a → ⊥
  fresh-apart s a cut taken apart there =
      let (i, x, less, at, taken_x) = there in
      let in_s = IsInside-taken s a cut taken in let in_x = inside a i x less at taken_x in let first = ap (λ u. u.span.first.0) at in
      elim (apart i x less) [ inl before ↦ omega (arith, before, in_s.high, in_x.low, first) | inr behind ↦ omega (arith, behind, in_x.high, in_s.low, first, ap (λ u. u.span.pages) at) ]

-- what is taken in a span is taken in the list with it
pub taken-set : (spans : List SpanState) (j : ℕ) (t : SpanState) (a : Addr) → j < length spans → IsTaken t a → IsTakenIn (set spans j t) a
taken-set spans j t a within taken = (j, t, omega (arith, length-set spans j t), get_or-set_same spans j t t within, taken)

-- the other objects stay taken, where the span stays and where it leaves
module _ (spans : List SpanState) (k : ℕ) (s t : SpanState) (b : Addr) (within : k < length spans) (read : s ≡ get_or spans k s)
    (kept : IsTaken s b → IsTaken t b) (there : IsTakenIn spans b) where
  still : there.0 ≡ k → IsTaken t b
  still here = grind (arith, get_or_default)

  pub kept-set : IsTakenIn (set spans k t) b
  kept-set = grind (arith, nat_tests, taken-set spans k t b within, still, length-set spans k t, get_or-set_other spans k there.0 t there.1)

  kept-remove : taken_count t ≡ 0 → IsTakenIn (remove spans k) b
  kept-remove none =
      let (i, x, less, at, taken) = there in let shorter = length-remove spans k within in
      elim (cases_eq i k) [
        | inl here ↦ absurd (omega (arith, taken_counts t b (still here)))
        | inr other ↦
            elim (cases_lt i k) [
              | inl below ↦ (i, x, omega arith, get_or-remove_below spans k x i below within ∙ at, taken)
              | inr above ↦ grind (arith, get_or-remove_above spans k x (i - 1))
            ]
      ]

-- a span without taken objects has all of them free
all_true : (xs : List Bool) → count_by not xs ≡ 0 → xs ≡ replicate (length xs) true
all_true [] none = refl
all_true (true ∷ xs) none =
    ap (λ ys. true ∷ ys) (all_true xs (omega (arith, sum_by-cons (λ (b : Bool). cond {A = ℕ} (not b) 1 0) true xs)))
all_true (false ∷ xs) none =
    absurd (omega (arith, sum_by-cons (λ (b : Bool). cond {A = ℕ} (not b) 1 0) false xs))

abbrev state_of : SpanRef → ℕ → List Bool → SpanState
state_of span size free = record { span = span; size = size; free = free }

free_objects-all : (s : SpanState) → IsCut s → taken_count s ≡ 0 → free_objects s ≡ objects_of s.size s.span
free_objects-all s cut none =
    ap (λ xs. free_objects (state_of s.span s.size xs)) (all_true s.free none ∙ ap (λ n. replicate n true) cut.objects)

-- a slot's span has a taken object, and stands where the object is found
pub record IsFound (slots : List (Option SpanState)) (entries : List (ℕ × ℕ)) (a : Addr) (slot : ℕ) (s : SpanState) : Type 0 where
  pub at : ℕ
  pub stands : StandsAt slots entries slot s at
  pub place : IsPlace (spans_of slots entries) a at
  pub taken : IsTaken s a

module _ {slots : List (Option SpanState)} {entries : List (ℕ × ℕ)} {ts : List Standing} (kept : IsKept slots entries ts)
    {row : ClassRow} (sound : IsSound (record { row = row; spans = spans_of slots entries })) where
  -- some span begins by a taken object
  pub some_begun : (now : List SpanState) (a : Addr) → spans_of slots entries ≡ now → IsTakenIn now a → Any (λ (e : ℕ × ℕ). e.0 ≤ a.0) entries
  some_begun now a same there =
      let t : IsTakenIn (spans_of slots entries) a = rw same there in let (i, x, less, at, taken) = t in
      grind (arith, length-map entries (λ (x : ℕ × ℕ). span_at slots x.1), nobody, inside sound a i, key_of_place kept i nobody, get_or_default entries i)

  -- and the last one that does holds it
  pub slot_found : (now : List SpanState) (a : Addr) (slot : ℕ) (s : SpanState) → spans_of slots entries ≡ now
      → IsTakenIn now a → IsLastBegun entries a.0 slot → slot_at slots slot ≡ Some s → IsFound slots entries a slot s
  slot_found now a slot s same there last has =
      let spans = spans_of slots entries in
      let long : length spans ≡ length entries = length-map entries (λ (x : ℕ × ℕ). span_at slots x.1) in
      let t : IsTakenIn spans a = rw same there in let (n, x, less, at, taken) = t in let in_pages = inside sound a n x less at taken in
      let (i, e, within, is_e, mine) = last in let (slot_is, low, greatest) = mine in
      let key : (m : ℕ) (d : ℕ × ℕ) → m < length entries → (get_or entries m d).0 ≡ first_byte (get_or spans m x).span = λ m d less. key_of_place kept m d x less in
      let first_e = ap (λ (e : ℕ × ℕ). e.0) is_e in let first = ap (λ s. first_byte s.span) at in let pages = ap (λ s. s.span.pages) at in
      let is : n ≡ i = (
      elim (cases_order n i) [
        | inl equal ↦ equal
        | inr other ↦ grind (arith, key i e within, has_pages sound i x, key n e)
      ]) in
      let place : IsPlace spans a i = subst (IsPlace spans a) is (IsPlace-taken sound a t) in
      let here = stands_at kept sound slot i e within (ap (λ (e : ℕ × ℕ). e.1) is_e ∙ slot_is) in
      let stands = subst (λ u. StandsAt slots entries slot u i) (same_Some (span_at slots slot) s (sym here.has ∙ has)) here in
      record { at = i; stands = stands; place = place; taken = rw (stands.span s) at (place.taken s) }

-- all that is said of one put
pub record IsPutOne (row : ClassRow) (spans : List SpanState) (a : Addr) (left : List SpanState) (gone : List SpanRef) : Type 0 where
  pub spans_are : left ≡ (put_one a spans).spans
  pub freed_are : gone ≡ (put_one a spans).freed
  pub sound : IsSound (record { row = row; spans = left })
  pub kept : (b : Addr) → IsTakenIn spans b → b ≢ a → IsTakenIn left b
  pub moves : (test : Addr → Bool) → count_by test (free_in left) + count_by test (flat_map (objects_of row.size) gone) ≡ count_by test (free_in spans) + count_by test (a ∷ [])

module _ {spans : List SpanState} {a : Addr} {k : ℕ} (place : IsPlace spans a k) (s t : SpanState) (read : s ≡ get_or spans k s) (after : t ≡ after_put s a) where
  -- what a put makes of the spans, by the place
  put_at_place : put_one a spans ≡ put_at a spans k (Some s)
  put_at_place = rw (place.held, slice_get-get_or spans k s place.within, ← read) refl

  pub put_stays : (taken_count t ≡ 0 → ⊥) → put_one a spans ≡ record { spans = set spans k t; freed = [] }
  put_stays some = grind (arith, nat_tests, put_at_place)

  pub put_leaves : taken_count t ≡ 0 → put_one a spans ≡ record { spans = remove spans k; freed = s.span ∷ [] }
  put_leaves none = grind (arith, nat_tests, put_at_place)

  module _ {row : ClassRow} (sound : IsSound (record { row = row; spans = spans })) (kept : (b : Addr) → IsTaken s b → b ≢ a → IsTaken t b)
      (moves : (test : Addr → Bool) → count_by test (free_objects t) ≡ count_by test (free_objects s) + count_by test (a ∷ [])) where
    row_of : IsOfRow row s
    row_of = subst (IsOfRow row) (sym read) (sound.of_row k s place.within)

    pub IsPutOne-stays : (taken_count t ≡ 0 → ⊥) → IsPutOne row spans a (set spans k t) []
    IsPutOne-stays some =
        let is = put_stays some in
        let of_row : IsOfRow row t = subst (IsOfRow row) (sym after) (IsOfRow-after_put row s a row_of (λ none. some (ap taken_count after ∙ none))) in
        record {
          spans_are = sym (ap (λ p. p.spans) is);
          freed_are = sym (ap (λ p. p.freed) is);
          sound = IsSound-set sound k s t place.within read (ap (λ u. u.span) after) of_row;
          kept = λ b there differ. kept-set spans k s t b place.within read (λ taken. kept b taken differ) there;
          moves = λ test. omega (arith, moves test, count-set test spans k s t place.within read);
        }

    -- its objects are free where the span leaves
    freed_counts : (test : Addr → Bool) → taken_count t ≡ 0
        → count_by test (free_in (remove spans k)) + count_by test (flat_map (objects_of row.size) (s.span ∷ [])) ≡ count_by test (free_in spans) + count_by test (a ∷ [])
    freed_counts test none = grind (arith, row_of, IsCut-with_object, free_objects-all, append-nil, sum_by-remove, count-flat_map)

    pub IsPutOne-leaves : (left : List SpanState) (gone : SpanRef) → taken_count t ≡ 0 → left ≡ remove (set spans k t) k → gone ≡ s.span → IsPutOne row spans a left (gone ∷ [])
    IsPutOne-leaves left gone none left_is gone_is =
        let is = put_leaves none in
        rw (gone_is, left_is, remove-set) (record {
          spans_are = sym (ap (λ p. p.spans) is);
          freed_are = sym (ap (λ p. p.freed) is);
          sound = IsSound-remove sound k place.within;
          kept = λ b there differ. kept-remove spans k s t b place.within read (λ taken. kept b taken differ) there none;
          moves = λ test. freed_counts test none;
        })
