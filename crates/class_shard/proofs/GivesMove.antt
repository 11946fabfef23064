-- What a giving leaves: objects only move, and spans that are all free leave with all of theirs.
use Rattle.std.proofs.Common.{◌≡◌, ◌≢◌, ℕ, suc, ◌+◌, ◌<◌, ◌≤◌, Bool, true, false, List, [], ◌∷◌}
use Rattle.std.proofs.Common.{◌++◌, length, get_or, count_by, cond, refl, sym, ◌∙◌, ap, subst, inl, inr, arith}
use Rattle.std.specs.Prelude.{All}
use Rattle.std.specs.List.{flat_map, sum_by, remove}
use Rattle.std.proofs.lemmas.List.{length-append, get_or_default}
use Rattle.std.proofs.lemmas.List.Elements.{All-head}
use Rattle.std.proofs.lemmas.List.Sums.{sum_by-cons, sum_by-append, sum_by-remove}
use Rattle.std.proofs.lemmas.Bool.{cases_eq}
use Rattle.std.proofs.lemmas.Bool.Decides.{nat_tests}
use Rattle.tc_units.specs.declared.units.Addr.{Addr}
use Rattle.tc_units.specs.declared.spans.SpanRef.{SpanRef}
use Rattle.tc_units.specs.declared.spans.ClassRow.{ClassRow}
use Rattle.span_list.specs.Span.{SpanState, IsCut, IsTaken, taken_count, after_put, free_objects, objects_of}
use Rattle.span_list.proofs.SpanFacts.{index_found, put_moves, IsTaken-after_put}
use Rattle.central_free.specs.Central.{Put, put_one, put_all, IsTakenIn, AreDifferent, IsOfRow, IsSound, free_in}
use Rattle.central_free.proofs.PutFacts.{IsPlace, IsPlace-taken, put_stays, put_leaves, remove-set, IsPutOne, IsPutOne-stays, IsPutOne-leaves}
use Rattle.class_shard.specs.Shard.{Shard, with_spans, fits_in, after_give, freed_by, places}
use Rattle.class_shard.specs.Laws.{spans_in, IsSame, IsGiven, GiveMoves}
use Rattle.class_shard.proofs.SpanSums.{central_of, pages_of, pages-set, sum_by-map, objects_passing, count-objects}

-- what one put leaves
record IsBack (row : ClassRow) (old : List SpanState) (a : Addr) (put : Put) : Type 0 where
  one : IsPutOne row old a put.spans put.freed
  few : length put.freed ≤ 1
  spans : (w : SpanRef → ℕ) → sum_by w (pages_of put.spans) + sum_by w put.freed ≡ sum_by w (pages_of old)

-- the span once a taken object is back
record IsPutBack (s : SpanState) (a : Addr) (t : SpanState) : Type 0 where
  kept : (b : Addr) → IsTaken s b → b ≢ a → IsTaken t b
  moves : (test : Addr → Bool) → count_by test (free_objects t) ≡ count_by test (free_objects s) + count_by test (a ∷ [])

put_back : (s : SpanState) (a : Addr) → IsCut s → IsTaken s a → IsPutBack s a (after_put s a)
put_back s a cut taken = grind (arith, index_found, IsTaken-after_put, put_moves)

-- a span leaves a sum
sum-remove : (w : SpanRef → ℕ) (spans : List SpanState) (k : ℕ) (s : SpanState) → k < length spans
    → ((d : SpanState) → get_or spans k d ≡ s) → sum_by w (pages_of (remove spans k)) + w s.span ≡ sum_by w (pages_of spans)
sum-remove w spans k s within here =
    let span : SpanState → SpanRef = λ x. x.span in
    omega (arith, sum_by-map w span (remove spans k), sum_by-map w span spans, sum_by-remove (λ x. w (span x)) spans k s within, ap (λ x. w (span x)) (here s))

module _ {row : ClassRow} {spans : List SpanState} (sound : IsSound (central_of row spans)) (a : Addr) where
  module _ (k : ℕ) (s : SpanState) (place : IsPlace spans a k) (here : (d : SpanState) → get_or spans k d ≡ s) (back : IsPutBack s a (after_put s a)) where
    stays_back : (taken_count (after_put s a) ≡ 0 → ⊥) → IsBack row spans a (put_one a spans)
    stays_back some =
        let t = after_put s a in
        rw (put_stays place s t (sym (here s)) refl some) (record {
          one = IsPutOne-stays place s t (sym (here s)) refl sound back.kept back.moves some;
          few = omega arith;
          spans = λ w. omega (arith, ap (sum_by w) (pages-set spans k s t place.within here refl));
        })

    leaves_back : taken_count (after_put s a) ≡ 0 → IsBack row spans a (put_one a spans)
    leaves_back none =
        let t = after_put s a in
        rw (put_leaves place s t (sym (here s)) refl none) (record {
          one = IsPutOne-leaves place s t (sym (here s)) refl sound back.kept back.moves (remove spans k) s.span none (sym (remove-set spans k t)) refl;
          few = omega arith;
          spans = λ w. omega (arith, sum-remove w spans k s place.within here, sum_by-cons w s.span []);
        })

  one_back : IsTakenIn spans a → IsBack row spans a (put_one a spans)
  one_back there =
      let (k, s, less, is, taken) = there in let place = IsPlace-taken sound a there in
      let here : (d : SpanState) → get_or spans k d ≡ s = λ d. get_or_default spans k d s place.within ∙ is in
      let of_row : IsOfRow row s = subst (IsOfRow row) is (sound.of_row k s place.within) in
      let back = put_back s a of_row.cut taken in
      elim (cases_eq (taken_count (after_put s a)) 0) [ inl none ↦ leaves_back k s place here back none | inr some ↦ stays_back k s place here back some ]

-- what several leave
record AreBack (row : ClassRow) (old : List SpanState) (list : List Addr) (put : Put) : Type 0 where
  sound : IsSound (central_of row put.spans)
  few : length put.freed ≤ length list
  spans : (w : SpanRef → ℕ) → sum_by w (pages_of put.spans) + sum_by w put.freed ≡ sum_by w (pages_of old)
  moves : (test : Addr → Bool) → count_by test (free_in put.spans) + count_by test (flat_map (objects_of row.size) put.freed) ≡ count_by test (free_in old) + count_by test list

all_back : (list : List Addr) (row : ClassRow) (spans : List SpanState) → IsSound (central_of row spans)
    → All (IsTakenIn spans) list → AreDifferent list → AreBack row spans list (put_all list spans)
all_back [] row spans sound taken different =
    record { sound = sound; few = omega arith; spans = λ w. omega arith; moves = λ test. omega arith }
all_back (a ∷ others) row spans sound taken different =
    let one = put_one a spans in
    let first = one_back sound a (All-head (IsTakenIn spans) a others taken) in
    let still : All (IsTakenIn one.spans) others = λ k d less.
    first.one.kept (get_or others k d) (taken (suc k) d (omega arith)) (λ same. different 0 (suc k) d (omega arith) (omega arith) (sym same)) in
    let rest = all_back others row one.spans first.one.sound still (λ i j d less within. different (suc i) (suc j) d (omega arith) (omega arith)) in
    let gone = (put_all others one.spans).freed in
    record {
      sound = rest.sound;
      few = omega (arith, first.few, rest.few, length-append {A = SpanRef} one.freed gone);
      spans = λ w. omega (arith, first.spans w, rest.spans w, sum_by-append w one.freed gone);
      moves = λ test. (
          let f : Addr → ℕ = λ x. cond {A = ℕ} (test x) 1 0 in
          let both = sum_by-append (objects_passing test row.size) one.freed gone in let counted = count-objects test row.size in
          omega (arith, first.one.moves test, rest.moves test, counted (one.freed ++ gone), counted one.freed, counted gone, both, sum_by-cons f a others, sum_by-cons f a []));
    }

-- what a giving leaves, under other names
given_as : (list : List Addr) (s after : Shard) (freed : List SpanRef) → after_give list s ≡ after → freed_by list s ≡ freed → IsSame s after → length freed ≤ length list
    → ((w : SpanRef → ℕ) → sum_by w (spans_in after) + sum_by w freed ≡ sum_by w (spans_in s))
    → ((test : Addr → Bool) → count_by test (places after) + count_by test (flat_map (objects_of s.central.row.size) freed) ≡ count_by test (places s) + count_by test list) → IsGiven list s
given_as list s after freed left gone same few spans moves = grind (arith, count-objects)

given_cached : (list : List Addr) (s : Shard) → IsSound s.central → fits_in s list ≡ true → IsGiven list s
given_cached list s sound fits = grind (arith, nat_tests, given_as, sum_by-append)

given_spans : (list : List Addr) (s : Shard) → IsSound s.central → All (IsTakenIn s.central.spans) list → AreDifferent list → fits_in s list ≡ false → IsGiven list s
given_spans list s sound taken different over =
    let put = put_all list s.central.spans in
    let objects = s.transfer.objects in
    let back = all_back list s.central.row s.central.spans sound taken different in
    grind (arith, nat_tests, given_as list s (with_spans s put.spans) put.freed, back.moves, sum_by-append)

pub give_moves : GiveMoves
give_moves list s sound taken different = grind (arith, nat_tests, given_cached list s sound, given_spans list s sound taken different)
