-- Several takes, one by one: what stands after some of them.
use Rattle.std.proofs.Common.{◌≡◌, ◌≢◌, ℕ, zero, suc, ◌+◌, ◌-◌, ◌<◌, ◌≤◌, ◌⊎◌, ◌↔◌, Bool, List, [], ◌∷◌}
use Rattle.std.proofs.Common.{◌++◌, length, get_or, set, count_by, Option, Some, None, refl, sym, ◌∙◌, ap, subst, inl, arith}
use Rattle.std.specs.Prelude.{All}
use Rattle.std.specs.Option.{option_and_then, option_map, option_map_or}
use Rattle.std.proofs.lemmas.List.{append_assoc, append-nil, length-append}
use Rattle.std.proofs.lemmas.List.Elements.{All-nil, All-append}
use Rattle.std.proofs.lemmas.Option.{none-some}
use Rattle.std.proofs.lemmas.Bool.{le-ltb}
use Rattle.std.proofs.lemmas.Bool.Decides.{nat_tests}
use Rattle.tc_units.specs.declared.units.Addr.{Addr}
use Rattle.tc_units.specs.declared.spans.ClassRow.{ClassRow}
use Rattle.tc_units.specs.Bag.{Contents}
use Rattle.span_list.specs.Span.{SpanState, free_count, least, taken_from, after_take}
use Rattle.span_list.proofs.SpanFacts.{count_none}
use Rattle.central_free.specs.Central.{Central, chosen, place_at, taken_one, Took, taken, IsSound, IsTakenIn, AreDifferent, free_in}
use Rattle.central_free.proofs.Differ.{AreDifferent-append}
use Rattle.central_free.proofs.ChoiceFacts.{chosen_among, chosen_none, chosen_some}

-- one object of a span that was chosen, if any
abbrev pub taken_one_from : List SpanState → Option SpanState → Option (Addr × List SpanState)
taken_one_from spans = option_and_then (λ s. option_map (λ a. (a, set spans (place_at s.span.first.0 spans) (after_take s (least s)))) (taken_from s (least s)))

abbrev pub took : List Addr → List SpanState → Took
took objects spans = record { objects = objects; spans = spans }

-- one take, if it gave something, and more of them
abbrev pub and_then : List SpanState → (List SpanState → Took) → Option (Addr × List SpanState) → Took
and_then spans more one = option_map_or (λ a. took (a.0 ∷ (more a.1).objects) (more a.1).spans) one (took [] spans)

-- where nothing is taken, no span has a free object, and the other way round
one_none : (spans : List SpanState) (s : SpanState) (at : Option ℕ) → least s ≡ at
    → option_map {U = Addr × List SpanState} (λ a. (a, set spans (place_at s.span.first.0 spans) (after_take s (least s)))) (taken_from s at) ≡ None → free_count s ≡ 0
one_none spans s at is none = grind (arith, count_none, none-some)

from_none : (spans : List SpanState) (pick : Option SpanState) → chosen spans ≡ pick → taken_one_from spans pick ≡ None → All (λ s. free_count s ≡ 0) spans
from_none spans None is none = grind (arith, nat_tests, chosen_some)
from_none spans (Some s) is none = grind (arith, nat_tests, chosen_among spans s is, one_none spans s (least s) refl none)

pub nothing_free : (spans : List SpanState) → taken_one spans ≡ None → All (λ s. free_count s ≡ 0) spans
nothing_free spans none = from_none spans (chosen spans) refl none

pub nothing_taken : (spans : List SpanState) → All (λ s. free_count s ≡ 0) spans → taken_one spans ≡ None
nothing_taken spans all =
    ap (taken_one_from spans) (chosen_none spans (λ j d less. le-ltb 0 (free_count (get_or spans j d)) (omega (arith, all j d less))))

-- so nothing comes exactly where nothing is asked for or free
came_none : (n : ℕ) (spans : List SpanState) (one : Option (Addr × List SpanState)) → taken_one spans ≡ one
    → (length (and_then spans (taken n) one).objects ≡ 0 → All (λ s. free_count s ≡ 0) spans) × (All (λ s. free_count s ≡ 0) spans → length (and_then spans (taken n) one).objects ≡ 0)
came_none n spans one is = grind (arith, nothing_free, none-some, nothing_taken)

took_none : (n : ℕ) (spans : List SpanState) → (length (taken n spans).objects ≡ 0) ↔ ((n ≡ 0) ⊎ All (λ s. free_count s ≡ 0) spans)
took_none zero spans = (λ _. inl refl, λ _. refl)
took_none (suc n) spans = grind (arith, came_none n spans (taken_one spans) refl)

-- some takes, and more of them
abbrev pub joined : Took → ℕ → Took
joined t b = took (t.objects ++ (taken b t.spans).objects) (taken b t.spans).spans

-- takes where nothing is free
taken-stopped : (b : ℕ) (spans : List SpanState) → taken_one spans ≡ None → taken b spans ≡ took [] spans
taken-stopped zero spans none = refl
taken-stopped (suc b) spans none = ap (λ o. and_then spans (taken b) o) none

join_one : (a b : ℕ) (spans : List SpanState) (one : Option (Addr × List SpanState)) → taken_one spans ≡ one
    → ((xs : List SpanState) → taken (a + b) xs ≡ joined (taken a xs) b) → and_then spans (taken (a + b)) one ≡ joined (and_then spans (taken a) one) b
join_one a b spans None is next = sym (taken-stopped b spans is)
join_one a b spans (Some one) is next = ap (λ t. took (one.0 ∷ t.objects) t.spans) (next one.1)

pub taken-add : (a b : ℕ) (spans : List SpanState) → taken (a + b) spans ≡ joined (taken a spans) b
taken-add zero b spans = ap (λ k. taken k spans) (omega arith)
taken-add (suc a) b spans =
    let next : suc a + b ≡ suc (a + b) = omega arith in
    ap (λ k. taken k spans) next ∙ join_one a b spans (taken_one spans) refl (λ xs. taken-add a b xs)

abbrev central_of : ClassRow → List SpanState → Central
central_of row spans = record { row = row; spans = spans }

-- what stands after `came` takes
pub record IsTaking (start now : Central) (before out : Contents Addr) (came : ℕ) : Type 0 where
  pub is : now ≡ record { row = start.row; spans = (taken came start.spans).spans }
  pub items : out.items ≡ before.items ++ (taken came start.spans).objects
  pub count : length (taken came start.spans).objects ≡ came
  pub spare : out.spare + came ≡ before.spare
  pub sound : IsSound now
  pub given : All (IsTakenIn now.spans) (taken came start.spans).objects
  pub fresh : All (λ a. IsTakenIn start.spans a → ⊥) (taken came start.spans).objects
  pub different : AreDifferent (taken came start.spans).objects
  pub kept : (a : Addr) → IsTakenIn start.spans a → IsTakenIn now.spans a
  pub moves : (test : Addr → Bool) → count_by test (free_in now.spans) + count_by test out.items ≡ count_by test (free_in start.spans) + count_by test before.items

pub IsTaking-none : (start : Central) (before : Contents Addr) → IsSound start → IsTaking start start before before 0
IsTaking-none start before sound = grind (arith, append-nil, All-nil)

module _ {start now : Central} {before out : Contents Addr} {came : ℕ} (so_far : IsTaking start now before out came) where
  -- a run of them
  pub IsTaking-more : (next : Central) (more : Contents Addr) (r : ℕ) → next ≡ record { row = now.row; spans = (taken r now.spans).spans }
      → more.items ≡ out.items ++ (taken r now.spans).objects → length (taken r now.spans).objects ≡ r → more.spare + r ≡ out.spare → IsSound next
      → All (IsTakenIn next.spans) (taken r now.spans).objects → All (λ a. IsTakenIn now.spans a → ⊥) (taken r now.spans).objects → AreDifferent (taken r now.spans).objects
      → ((b : Addr) → IsTakenIn now.spans b → IsTakenIn next.spans b)
      → ((test : Addr → Bool) → count_by test (free_in next.spans) + count_by test more.items ≡ count_by test (free_in now.spans) + count_by test out.items)
      → IsTaking start next before more (came + r)
  IsTaking-more next more r is items count spare sound given fresh different kept moves =
      let old = (taken came start.spans).objects in let new = (taken r now.spans).objects in
      let all : taken (came + r) start.spans ≡ took (old ++ new) (taken r now.spans).spans =
      taken-add came r start.spans ∙ ap (λ xs. took (old ++ (taken r xs).objects) (taken r xs).spans) (sym (ap (λ t. t.spans) so_far.is)) in
      let objects : (taken (came + r) start.spans).objects ≡ old ++ new = ap (λ t. t.objects) all in
      let apart : (i : ℕ) (d : Addr) → i < length old → (j : ℕ) (e : Addr) → j < length new → get_or old i d ≢ get_or new j e =
      λ i d less_i j e less_j same. fresh j e less_j (subst (IsTakenIn now.spans) same (so_far.given i d less_i)) in
      record {
        is = is ∙ ap (λ q. central_of q (taken r now.spans).spans) (ap (λ t. t.row) so_far.is) ∙ ap (central_of start.row) (ap (λ t. t.spans) (sym all));
        items = items ∙ ap (λ xs. xs ++ new) so_far.items ∙ append_assoc before.items old new ∙ ap (λ xs. before.items ++ xs) (sym objects);
        count = ap length objects ∙ omega (arith, length-append old new, so_far.count, count);
        spare = omega (arith, so_far.spare);
        sound = sound;
        given = rw objects (All-append (IsTakenIn next.spans) old new (λ k d within. kept (get_or old k d) (so_far.given k d within)) given);
        fresh = rw objects (All-append (λ a. IsTakenIn start.spans a → ⊥) old new so_far.fresh (λ k d within there. fresh k d within (so_far.kept (get_or new k d) there)));
        different = rw objects (AreDifferent-append old new so_far.different different apart);
        kept = λ b there. kept b (so_far.kept b there);
        moves = λ test. omega (arith, moves test, so_far.moves test);
      }

  -- where no more comes, as many takes as were asked for give no more
  taken-ended : (n : ℕ) → came ≤ n → (came < n → taken_one now.spans ≡ None) → taken came start.spans ≡ taken n start.spans
  taken-ended n few stopped = grind (arith, nat_tests, taken-stopped (n - came), stopped, append-nil, taken-add came (n - came) start.spans)

-- what stands then
pub record IsTook (n : ℕ) (start now : Central) (before out : Contents Addr) (came : ℕ) : Type 0 where
  pub count : came ≡ length (taken n start.spans).objects
  pub none : (came ≡ 0) ↔ ((n ≡ 0) ⊎ All (λ s. free_count s ≡ 0) start.spans)
  pub spans : now ≡ record { row = start.row; spans = (taken n start.spans).spans }
  pub items : out.items ≡ before.items ++ (taken n start.spans).objects
  pub given : All (IsTakenIn now.spans) (taken n start.spans).objects
  pub fresh : All (λ a. IsTakenIn start.spans a → ⊥) (taken n start.spans).objects
  pub different : AreDifferent (taken n start.spans).objects

pub IsTook-end : {start now : Central} {before out : Contents Addr} {came : ℕ} → IsTaking start now before out came
    → (n : ℕ) → came ≤ n → (came < n → taken_one now.spans ≡ None) → IsTook n start now before out came
IsTook-end {start} {now} {before} {out} {came} so_far n few stopped =
    let all = taken-ended so_far n few stopped in
    let objects : (taken came start.spans).objects ≡ (taken n start.spans).objects = ap (λ t. t.objects) all in
    let count : came ≡ length (taken n start.spans).objects = sym so_far.count ∙ ap length objects in
    record {
      count = count;
      none = (λ none. (took_none n start.spans).0 (sym count ∙ none), λ some. count ∙ (took_none n start.spans).1 some);
      spans = so_far.is ∙ ap (λ t. central_of start.row t.spans) all;
      items = so_far.items ∙ ap (λ xs. before.items ++ xs) objects;
      given = subst (All (IsTakenIn now.spans)) objects so_far.given;
      fresh = subst (All (λ a. IsTakenIn start.spans a → ⊥)) objects so_far.fresh;
      different = subst AreDifferent objects so_far.different;
    }
