-- What holds at the start.
use Rattle.holdings.specs.Accounts.{Account, Doing, Frees, Holds, Publishes, clearing, held_at, holding, holds, is_out, is_taken}
use Rattle.holdings.specs.Accounts.{means, named_at, off_map, pending, same_value, in_hand, loose, publishing, transit, unpublished}
use Rattle.tc_units.specs.Classes.{length_of}
use Rattle.tc_units.specs.declared.units.Addr.{Addr}
use Rattle.std.specs.Prelude.{All, sum_by}
use Rattle.std.proofs.lemmas.List.Elements.{All-head, All-nil, All-tail}
use Rattle.holdings.specs.Laws.{FirstHolds, HasNothing}
use Rattle.holdings.specs.Books.{IsOfClass, Setup}
use Rattle.holdings.specs.Facts.{IsSelf}
use Rattle.tc_units.specs.declared.units.Label.{Label}
use Rattle.std.proofs.Common.{List, Option, Some, [], ap, arith, eqb, length, refl, replicate, suc, zero, ℕ, ◌&&◌, ◌∙◌, ◌∷◌, ◌≡◌}
use Rattle.tc_units.specs.declared.spans.Run.{Run}
use Rattle.tc_units.specs.declared.spans.SpanRef.{SpanRef}
use Rattle.holdings.specs.Runs.{bit, large, runs_at, runs_like, spans_at}
use Rattle.std.proofs.lemmas.Bool.{eq-eqb}
use Rattle.holdings.proofs.Sums.{class_zero, of_all}
use Rattle.std.proofs.lemmas.List.{length-replicate}
use Rattle.holdings.proofs.CallFacts.{IsBlockRun-none}
use Rattle.holdings.proofs.Standing.{same_value_refl}
use Rattle.name_table.specs.Names.{state_of}
use Rattle.std.proofs.lemmas.List.Sums.{sum_by-cons}
use Rattle.std.proofs.lemmas.List.Folds.{sum_by-replicate}
use Rattle.std.proofs.lemmas.Bool.Decides.{nat_tests}
use Rattle.name_table.specs.declared.table.NameState.TheVariants as name

name_at : (n x : ℕ) → state_of (replicate n name.Unpublished) x ≡ name.Unpublished
name_at zero x = refl
name_at (suc n) zero = refl
name_at (suc n) (suc x) = name_at n x

unnamed : (a n : ℕ) → sum_by (named_at a) (replicate n name.Unpublished) ≡ 0
unnamed a n = let e : _ = sum_by-replicate (named_at a) n name.Unpublished in omega (arith, e)

none : {X : Type 0} (P : X → Type 0) (g : X → ℕ) (xs : List X) → All P xs → ((x : X) → P x → g x ≡ 0) → sum_by g xs ≡ 0
none P g [] all zeros = refl
none P g (x ∷ xs) all zeros = omega (arith, zeros x (All-head P x xs all), none P g xs (All-tail P x xs all) zeros, sum_by-cons g x xs)

-- an account that holds no value is to publish nothing, and has taken nothing
record Idle (d : Doing) : Type 0 where
  pub publishes : (x : ℕ) → publishing x d ≡ 0
  pub free : (n : ℕ) → loose n d ≡ 0
  pub frees : (label : Label) (addr : Addr) → d ≡ Frees label addr → ⊥

held_own : (label : Label) (v : Option Addr) → bit (eqb label.0 label.0 && same_value v v) ≡ 1
held_own label v = rw (eq-eqb label.0 label.0 refl, same_value_refl v) refl

idle : (d : Doing) → ((x : ℕ) (v : Option Addr) → holds x v d ≡ 0) → Idle d
idle (Publishes label v) none = absurd (omega (arith, held_own label v, none label.0 v))
idle (Holds label a) none = absurd (omega (arith, held_own label (Some a), none label.0 (Some a)))
idle (Frees label a) none = absurd (omega (arith, held_own label (Some a), none label.0 (Some a)))
idle d none = record { publishes = λ x. refl; free = λ n. refl; frees = λ l a is. absurd (cc) }

-- and nothing of it counts
record Zero (a : Account) : Type 0 where
  pub alike : (x : ℕ) → unpublished x a ≡ pending x a
  pub held : (n : ℕ) → held_at n a ≡ 0
  pub hand : (k n : ℕ) → in_hand k n a ≡ 0
  pub off : (r : Run) → off_map r a ≡ 0
  pub apart : (n : ℕ) → spans_at n a.apart ≡ 0
  pub map : (s : SpanRef) → transit s a ≡ 0
  pub clear : (s : SpanRef) → clearing s a ≡ 0

zero_of : (a : Account) → HasNothing a → Zero a
zero_of a h = grind (arith, nat_tests, idle a.doing h.value)

sums_alike : (f g : Account → ℕ) (xs : List Account) → All HasNothing xs → ((a : Account) → Zero a → f a ≡ g a) → sum_by f xs ≡ sum_by g xs
sums_alike f g [] all same = refl
sums_alike f g (x ∷ xs) all same = omega (arith, same x (zero_of x (All-head HasNothing x xs all)), sums_alike f g xs (All-tail HasNothing x xs all) same, sum_by-cons f x xs, sum_by-cons g x xs)

self_of : (m : Setup) (a : Account) → HasNothing a → IsSelf m a
self_of m a h = grind (arith, zero_of a h, idle a.doing h.value, All-nil (IsOfClass m.rows))

pub holds_at_first : FirstHolds
holds_at_first m b h =
    let zero_sum : (g : Account → ℕ) → ((a : Account) → HasNothing a → g a ≡ 0) → sum_by g b.accounts ≡ 0 = λ g. none HasNothing g b.accounts h.accounts in
    let named : (x : ℕ) → state_of b.names x ≡ name.Unpublished = λ x. ap (λ ns. state_of ns x) h.names ∙ name_at m.labels x in
    record {
      kept = grind (arith, IsBlockRun-none (length_of m.rows) m.huge);
      live = λ i d below. absurd (omega arith);
      inside = λ r live. let e : runs_like r b.heap ≡ 0 = ap (runs_like r) h.heap in absurd (omega (arith, e, live));
      disjoint = λ r x live. let e : runs_like r b.heap ≡ 0 = ap (runs_like r) h.heap in absurd (omega (arith, e, live));
      starts = λ n. let e : runs_at n b.heap ≡ 0 = ap (runs_at n) h.heap in omega (arith, e);
      cut = grind (arith, h.objects, h.owned, h.begins);
      selves = λ i a is. self_of m a (of_all HasNothing b.accounts i a h.accounts is);
      names = ap (λ ns. length ns) h.names ∙ length-replicate m.labels name.Unpublished;
      labels = h.labels;
      once = λ x. omega (arith, h.once x);
      published = λ x.
          let p : _ = ap (λ q. bit (is_out q)) (named x) in
          let e = sums_alike (unpublished x) (pending x) b.accounts h.accounts (λ a z. z.alike x) in
          omega (arith, h.once x, p, e);
      taken = λ x. let p : _ = ap (λ q. bit (is_taken q)) (named x) in omega (arith, h.taken x, p);
      tie = λ x v. let p : _ = ap (λ q. bit (means v q)) (named x) in omega (arith, p, zero_sum (holding x v) (λ a z. z.value x v));
      map = grind (arith, zero_sum, zero_of);
      own = grind (arith, h.owned, zero_sum, zero_of);
      clear = λ r. omega (arith, zero_sum (clearing (large r)) (λ a z. (zero_of a z).clear (large r)));
      places = λ n.
          let p : _ = ap (runs_at n) h.heap in
          let q : _ = ap (λ ns. sum_by (named_at n) ns) h.names in
          omega (
            arith,
            p,
            q,
            unnamed n m.labels,
            h.begins n,
            zero_sum (held_at n) (λ a z. (zero_of a z).held n),
            class_zero m.rows (λ k. b.stock.stored k n) (λ k. h.stored k n),
            class_zero m.rows (λ k. b.stock.objects k n) (λ k. h.objects k n),
          );
      begins = λ n. omega (arith, h.begins n, zero_sum (λ (a : Account). spans_at n a.apart) (λ a z. (zero_of a z).apart n));
      classes = λ k n. omega (arith, h.stored k n, zero_sum (in_hand k n) (λ a z. (zero_of a z).hand k n));
    }
