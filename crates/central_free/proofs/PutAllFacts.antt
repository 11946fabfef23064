-- Several puts, one by one: what stands after some of them.
use Rattle.std.proofs.Common.{◌≡◌, ◌≢◌, ℕ, ◌+◌, ◌<◌, ◌≤◌, Bool, List, [], ◌∷◌, ◌++◌, length, get_or, drop, count_by, cond, refl, sym, ◌∙◌, ap, arith}
use Rattle.std.specs.Prelude.{All}
use Rattle.std.specs.List.{flat_map}
use Rattle.std.proofs.lemmas.List.{append_assoc, append-nil, length-append, drop_more, drop_all, get_or_read}
use Rattle.std.proofs.lemmas.List.Concat.{flat_map-append}
use Rattle.std.proofs.lemmas.List.Sums.{sum_by-append}
use Rattle.tc_units.specs.declared.units.Addr.{Addr}
use Rattle.tc_units.specs.declared.spans.SpanRef.{SpanRef}
use Rattle.tc_units.specs.declared.spans.ClassRow.{ClassRow}
use Rattle.tc_units.specs.Bag.{Contents}
use Rattle.span_list.specs.Span.{SpanState, objects_of}
use Rattle.central_free.specs.Central.{Central, put_one, put_all, IsTakenIn, AreDifferent, IsSound, free_in}

-- what stands after `done` of the list's objects
pub record IsPutting (list : List Addr) (start now : Central) (before freed : Contents SpanRef) (done : ℕ) : Type 0 where
  pub row : now.row ≡ start.row
  pub spans : (put_all (drop done list) now.spans).spans ≡ (put_all list start.spans).spans
  pub items : freed.items ++ (put_all (drop done list) now.spans).freed ≡ before.items ++ (put_all list start.spans).freed
  pub room : length freed.items + freed.spare ≡ length before.items + before.spare
  pub few : length freed.items ≤ length before.items + done
  pub sound : IsSound now
  pub taken : (k : ℕ) (d : Addr) → done ≤ k → k < length list → IsTakenIn now.spans (get_or list k d)
  pub kept : (a : Addr) → IsTakenIn start.spans a → All (λ b. a ≢ b) list → IsTakenIn now.spans a
  pub moves : (test : Addr → Bool)
      → count_by test (free_in now.spans) + count_by test (flat_map (objects_of start.row.size) freed.items) + count_by test (drop done list)
      ≡ count_by test (free_in start.spans) + count_by test (flat_map (objects_of start.row.size) before.items) + count_by test list

pub IsPutting-none : (list : List Addr) (start : Central) (before : Contents SpanRef) → IsSound start → All (IsTakenIn start.spans) list → IsPutting list start start before before 0
IsPutting-none list start before sound taken = grind (arith, taken)

-- how often something is among the objects of spans, and of more of them
freed_counts : (test : Addr → Bool) (size : ℕ) (old new more : List SpanRef) → more ≡ old ++ new
    → count_by test (flat_map (objects_of size) more) ≡ count_by test (flat_map (objects_of size) old) + count_by test (flat_map (objects_of size) new)
freed_counts test size old new more is = grind (arith, flat_map-append, sum_by-append)

-- one more object, which frees its span or doesn't
pub IsPutting-more : {list : List Addr} {start now : Central} {before freed : Contents SpanRef} {done : ℕ}
    → IsPutting list start now before freed done → (next : Central) (more : Contents SpanRef) (a : Addr) (gone : List SpanRef)
    → AreDifferent list → done < length list → a ≡ get_or list done a → next.row ≡ now.row → next.spans ≡ (put_one a now.spans).spans → gone ≡ (put_one a now.spans).freed
    → more.items ≡ freed.items ++ gone → length more.items + more.spare ≡ length freed.items + freed.spare
    → length gone ≤ 1 → IsSound next → ((b : Addr) → IsTakenIn now.spans b → b ≢ a → IsTakenIn next.spans b)
    → ((test : Addr → Bool) → count_by test (free_in next.spans) + count_by test (flat_map (objects_of now.row.size) gone) ≡ count_by test (free_in now.spans) + count_by test (a ∷ []))
    → IsPutting list start next before more (done + 1)
IsPutting-more {list} {start} {now} {before} {freed} {done} so_far next more a gone different less read row spans gone_is items room one sound kept moves =
    let left = drop (done + 1) list in let size = start.row.size in
    let split : drop done list ≡ a ∷ left = drop_more list done a less ∙ ap (λ x. x ∷ left) (sym read) in
    let whole : put_all (drop done list) now.spans ≡ record { spans = (put_all left next.spans).spans; freed = gone ++ (put_all left next.spans).freed } = rw (split, spans, gone_is) refl in
    record {
      row = row ∙ so_far.row;
      spans = ap (λ p. p.spans) (sym whole) ∙ so_far.spans;
      items = ap (λ xs. xs ++ (put_all left next.spans).freed) items ∙ append_assoc freed.items gone (put_all left next.spans).freed
          ∙ ap (λ p. freed.items ++ p.freed) (sym whole) ∙ so_far.items;
      room = room ∙ so_far.room;
      few = omega (arith, so_far.few, ap length items, length-append {A = SpanRef} freed.items gone);
      sound = sound;
      taken = λ k d from within.
          kept (get_or list k d) (so_far.taken k d (omega arith) within) (λ same. different done k d (omega arith) within (sym (get_or_read list done a less read d) ∙ sym same));
      kept = λ b there differ. kept b (so_far.kept b there differ) (λ same. differ done a less (same ∙ read));
      moves = λ test. (
          let sizes = ap (λ r. count_by test (flat_map (objects_of r.size) gone)) so_far.row in
          let rest : count_by test (drop done list) ≡ count_by test (a ∷ []) + count_by test left =
          ap (count_by test) split ∙ sum_by-append (λ x. cond {A = ℕ} (test x) 1 0) (a ∷ []) left in
          omega (arith, sizes, freed_counts test size freed.items gone more.items items, rest, moves test, so_far.moves test));
    }

-- what stands behind the last one
pub record IsPut (list : List Addr) (start now : Central) (before freed : Contents SpanRef) : Type 0 where
  pub spans : now ≡ record { row = start.row; spans = (put_all list start.spans).spans }
  pub items : freed.items ≡ before.items ++ (put_all list start.spans).freed
  pub spare : freed.spare + length (put_all list start.spans).freed ≡ before.spare
  pub moves : (test : Addr → Bool)
      → count_by test (free_in now.spans) + count_by test (flat_map (objects_of start.row.size) (put_all list start.spans).freed) ≡ count_by test (free_in start.spans) + count_by test list

abbrev central_of : ClassRow → List SpanState → Central
central_of row spans = record { row = row; spans = spans }

pub IsPut-end : {list : List Addr} {start now : Central} {before freed : Contents SpanRef} {done : ℕ}
    → IsPutting list start now before freed done → length list ≤ done → IsPut list start now before freed
IsPut-end {list} {start} {now} {before} {freed} {done} so_far past = grind (arith, drop_all, append-nil, length-append, freed_counts)
