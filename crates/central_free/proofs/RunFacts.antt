-- Several objects of one span: what stands after some of them.
use Rattle.std.proofs.Common.{◌≡◌, ◌≢◌, ℕ, zero, suc, ◌+◌, ◌<◌, ◌≤◌, Bool, false, [], ◌∷◌, ◌++◌}
use Rattle.std.proofs.Common.{length, get_or, count_by, Option, Some, None, cond, refl, sym, ◌∙◌, ap, subst, arith}
use Rattle.std.specs.Prelude.{All}
use Rattle.std.proofs.lemmas.List.{append_assoc, append-nil, length-append, length-set}
use Rattle.std.proofs.lemmas.List.Elements.{All-push, All-nil}
use Rattle.std.proofs.lemmas.List.Quantifiers.{all_pairs_push}
use Rattle.std.proofs.lemmas.List.Sums.{sum_by-append}
use Rattle.tc_units.specs.declared.units.Addr.{Addr}
use Rattle.tc_units.specs.Bag.{Contents}
use Rattle.span_list.specs.Span.{SpanState, IsTaken, least, taken_from, after_take, free_count, taken_count, free_objects}
use Rattle.span_list.proofs.SpanFacts.{count_both, count_none, take_counts}
use Rattle.central_free.specs.Central.{AreDifferent}
use Rattle.central_free.proofs.SoundFacts.{span-after_take}
use Rattle.central_free.specs.Runs.{span_after, given_by}

-- how a take changes the counts, where an object is free
counts_by : (s : SpanState) (at : Option ℕ) → least s ≡ at → 0 < free_count s → (taken_count (after_take s at) ≡ taken_count s + 1) × (length (after_take s at).free ≡ length s.free)
counts_by s None is some = absurd (omega (arith, count_none s.free is))
counts_by s (Some i) is some = (take_counts s.free i is, length-set s.free i false)

pub take_one_counts : (s : SpanState) → 0 < free_count s → (taken_count (after_take s (least s)) ≡ taken_count s + 1) × (free_count (after_take s (least s)) + 1 ≡ free_count s)
take_one_counts s some = grind (arith, counts_by s (least s) refl some, count_both s.free, count_both (after_take s (least s)).free)

-- and so do several
pub run_counts : (k : ℕ) (s : SpanState) → k ≤ free_count s → (taken_count (span_after k s) ≡ taken_count s + k) × (free_count (span_after k s) + k ≡ free_count s)
run_counts zero s few = (omega arith, omega arith)
run_counts (suc k) s few = grind (arith, run_counts k s, take_one_counts (span_after k s))

pub span-span_after : (k : ℕ) (s : SpanState) → (span_after k s).span ≡ s.span
span-span_after zero s = refl
span-span_after (suc k) s =
    span-after_take (span_after k s) ∙ span-span_after k s

-- what stands after `came` takes
pub record IsGiving (span : SpanState) (before : Contents Addr) (now : SpanState) (out : Contents Addr) (came : ℕ) : Type 0 where
  pub is : now ≡ span_after came span
  pub items : out.items ≡ before.items ++ given_by came span
  pub count : length (given_by came span) ≡ came
  pub spare : out.spare + came ≡ before.spare
  pub given : All (IsTaken now) (given_by came span)
  pub fresh : All (λ a. IsTaken span a → ⊥) (given_by came span)
  pub different : AreDifferent (given_by came span)
  pub kept : (a : Addr) → IsTaken span a → IsTaken now a
  pub moves : (test : Addr → Bool) → count_by test (free_objects now) + count_by test out.items ≡ count_by test (free_objects span) + count_by test before.items

pub IsGiving-none : (span : SpanState) (before : Contents Addr) → IsGiving span before span before 0
IsGiving-none span before = grind (arith, append-nil, All-nil)

pub IsGiving-more : {span : SpanState} {before : Contents Addr} {now : SpanState} {out : Contents Addr} {came : ℕ}
    → IsGiving span before now out came → (next : SpanState) (more : Contents Addr) (a : Addr)
    → Some a ≡ taken_from now (least now) → next ≡ after_take now (least now) → IsTaken next a → (IsTaken now a → ⊥) → ((b : Addr) → IsTaken now b → IsTaken next b)
    → more.items ≡ out.items ++ a ∷ [] → more.spare + 1 ≡ out.spare
    → ((test : Addr → Bool) → count_by test (free_objects next) + count_by test (a ∷ []) ≡ count_by test (free_objects now))
    → IsGiving span before next more (suc came)
IsGiving-more {span = span} {before = before} {now = now} {out = out} {came = came} so_far next more a gives after given fresh kept items spare moves =
    let gave : given_by (suc came) span ≡ given_by came span ++ a ∷ [] = rw (← so_far.is, ← gives) refl in
    let old = given_by came span in
    record {
      is = after ∙ ap (λ (s : SpanState). after_take s (least s)) so_far.is;
      items = items ∙ ap (λ xs. xs ++ a ∷ []) so_far.items ∙ append_assoc before.items old (a ∷ []) ∙ ap (λ xs. before.items ++ xs) (sym gave);
      count = omega (arith, ap length gave, length-append {A = Addr} old (a ∷ []), so_far.count);
      spare = omega (arith, so_far.spare);
      given = rw gave (All-push (IsTaken next) old a (λ k d within. kept (get_or old k d) (so_far.given k d within)) given);
      fresh = rw gave (All-push (λ b. IsTaken span b → ⊥) old a so_far.fresh (λ there. fresh (so_far.kept a there)));
      different = rw gave (all_pairs_push (λ b c. b ≢ c) old a so_far.different (λ k d within same. fresh (subst (IsTaken now) same (so_far.given k d within))));
      kept = λ b there. kept b (so_far.kept b there);
      moves = λ test. (let pushed = ap (count_by test) items ∙ sum_by-append (λ x. cond {A = ℕ} (test x) 1 0) out.items (a ∷ []) in omega (arith, pushed, moves test, so_far.moves test));
    }
