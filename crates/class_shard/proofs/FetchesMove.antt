-- What a fetch leaves: the spans keep their pages, and objects only move.
use Rattle.std.proofs.Common.{◌≡◌, ℕ, zero, suc, ◌+◌, ◌<◌, ◌≤◌, Bool, true, false, List, [], ◌∷◌, length}
use Rattle.std.proofs.Common.{get_or, set, count_by, Option, Some, None, cond, refl, sym, ◌∙◌, ap, subst, arith}
use Rattle.std.specs.Option.{option_map}
use Rattle.std.proofs.lemmas.List.{length-reverse, length-drop}
use Rattle.std.proofs.lemmas.List.Sums.{sum_by-cons, sum_by-append, sum_by-take-drop}
use Rattle.std.proofs.lemmas.Option.{none-some, same_Some}
use Rattle.std.proofs.lemmas.Bool.Decides.{nat_tests}
use Rattle.tc_units.specs.declared.units.Addr.{Addr}
use Rattle.tc_units.specs.declared.spans.ClassRow.{ClassRow}
use Rattle.span_list.specs.Span.{SpanState, address, least, with_object, taken_from, after_take}
use Rattle.span_list.proofs.SpanFacts.{take_moves}
use Rattle.central_free.specs.Central.{chosen, place_at, taken_one, taken, IsOfRow, IsSound, free_in}
use Rattle.central_free.proofs.ChoiceFacts.{chosen_among, place_at-is}
use Rattle.central_free.proofs.SoundFacts.{has_pages, IsOfRow-after_take, IsSound-set, count-set}
use Rattle.central_free.proofs.TookFacts.{taken_one_from, and_then}
use Rattle.transfer_cache.proofs.TransferFacts.{sum_by-reverse}
use Rattle.class_shard.specs.Shard.{Shard, is_idle, fetched, after_fetch, places}
use Rattle.class_shard.proofs.SpanSums.{central_of, pages_of, pages-set}
use Rattle.class_shard.specs.Laws.{spans_in, IsSame, IsFetched, FetchMoves}

-- what some takes leave
record IsMoved (row : ClassRow) (old new : List SpanState) (objects : List Addr) (n : ℕ) : Type 0 where
  sound : IsSound (central_of row new)
  few : length objects ≤ n
  spans : pages_of new ≡ pages_of old
  moves : (test : Addr → Bool) → count_by test (free_in new) + count_by test objects ≡ count_by test (free_in old)

module _ {row : ClassRow} {spans : List SpanState} (sound : IsSound (central_of row spans)) where
  module _ (k : ℕ) (s : SpanState) (within : k < length spans) (here : (d : SpanState) → get_or spans k d ≡ s) where
    -- one take, by the place of its span and the index of its object
    moved_at : (i : ℕ) → least s ≡ Some i → IsMoved row spans (set spans k (with_object s i false)) (address s i ∷ []) 1
    moved_at i first =
        let t = with_object s i false in
        let of_row : IsOfRow row t = subst (λ o. IsOfRow row (after_take s o)) first (IsOfRow-after_take row s (subst (IsOfRow row) (here s) (sound.of_row k s within))) in
        record {
          sound = IsSound-set sound k s t within (sym (here s)) refl of_row;
          few = omega arith;
          spans = pages-set spans k s t within here refl;
          moves = λ test. omega (arith, take_moves test (address s) s.free i (address s i) first refl, count-set test spans k s t within (sym (here s)));
        }

    moved_from : (at : Option ℕ) (one : Addr × List SpanState) → least s ≡ at
        → option_map {U = Addr × List SpanState} (λ a. (a, set spans k (after_take s at))) (taken_from s at) ≡ Some one
        → IsMoved row spans one.1 (one.0 ∷ []) 1
    moved_from None one first gives = absurd (none-some one gives)
    moved_from (Some i) one first gives = grind (arith, same_Some (address s i, set spans k (with_object s i false)) one gives, moved_at i first)

  -- the same by the choice
  one_moved : (pick : Option SpanState) (one : Addr × List SpanState) → chosen spans ≡ pick → taken_one_from spans pick ≡ Some one → IsMoved row spans one.1 (one.0 ∷ []) 1
  one_moved None one chosen_is gives = absurd (none-some one gives)
  one_moved (Some s) one chosen_is gives =
      let among = chosen_among spans s chosen_is in let k = among.place in
      let place : place_at s.span.first.0 spans ≡ k = ap (λ u. place_at u.span.first.0 spans) (sym (among.at s)) ∙ place_at-is spans k among.within sound.apart s (has_pages sound) in
      moved_from k s among.within among.at (least s) one refl (rw place at gives)

  -- and several
  then_moved : (n : ℕ) (one : Option (Addr × List SpanState)) → taken_one spans ≡ one
      → ((xs : List SpanState) → IsSound (central_of row xs) → IsMoved row xs (taken n xs).spans (taken n xs).objects n)
      → IsMoved row spans (and_then spans (taken n) one).spans (and_then spans (taken n) one).objects (suc n)
  then_moved n None is next = record { sound = sound; few = omega arith; spans = refl; moves = λ test. omega arith }
  then_moved n (Some one) is next =
      let first = one_moved (chosen spans) one refl is in let rest = next one.1 first.sound in
      record {
        sound = rest.sound;
        few = omega (arith, rest.few);
        spans = rest.spans ∙ first.spans;
        moves = λ test. (
            let f : Addr → ℕ = λ a. cond {A = ℕ} (test a) 1 0 in
            omega (arith, first.moves test, rest.moves test, sum_by-cons f one.0 (taken n one.1).objects, sum_by-cons f one.0 []));
      }

all_moved : (n : ℕ) (row : ClassRow) (spans : List SpanState) → IsSound (central_of row spans) → IsMoved row spans (taken n spans).spans (taken n spans).objects n
all_moved zero row spans sound =
    record { sound = sound; few = omega arith; spans = refl; moves = λ test. omega arith }
all_moved (suc n) row spans sound =
    then_moved sound n (taken_one spans) refl (λ xs sound_xs. all_moved n row xs sound_xs)

-- what a fetch gives and leaves, under other names
fetched_as : (n : ℕ) (s after : Shard) (objects : List Addr) → after_fetch n s ≡ after → fetched n s ≡ objects → IsSame s after → length objects ≤ n → spans_in after ≡ spans_in s
    → ((test : Addr → Bool) → count_by test (places after) + count_by test objects ≡ count_by test (places s)) → IsFetched n s
fetched_as n s after objects left gave same few spans moves = grind (arith, moves)

-- from the spans
fetched_spans : (n : ℕ) (s : Shard) → IsSound s.central → is_idle s ≡ true → IsFetched n s
fetched_spans n s sound idle = grind (arith, nat_tests, all_moved n s.central.row s.central.spans sound, fetched_as n s, sum_by-append)

-- from the transfer cache
fetched_cached : (n : ℕ) (s : Shard) → IsSound s.central → is_idle s ≡ false → IsFetched n s
fetched_cached n s sound some = grind (arith, nat_tests, length-reverse, length-drop, fetched_as, sum_by-append, sum_by-take-drop, sum_by-reverse)

pub fetch_moves : FetchMoves
fetch_moves n s some sound = grind (arith, nat_tests, fetched_spans n s sound, fetched_cached n s sound)
