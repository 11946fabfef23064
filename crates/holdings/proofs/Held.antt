-- Hands, spans and names between any two acts.
use Rattle.holdings.specs.Accounts.{Account, clearing, in_hand, loose, named_at, transit}
use Rattle.tc_units.specs.declared.units.Addr.{Addr}
use Rattle.holdings.specs.Books.{Books, Setup, over_classes}
use Rattle.tc_model.specs.declared.answers.CallLine.{CallLine}
use Rattle.holdings.specs.Laws.{ClearsAreThere, HandsAreTaken, IsMapped, IsOff, IsTaken, MappedAreThere, NamesAreLive, ObjectsAreOnce, OffsLive}
use Rattle.holdings.specs.Facts.{Facts}
use Rattle.std.proofs.Common.{List, Some, ap, arith, eqb, false, inl, inr, refl, sym, ℕ, ◌+◌, ◌<◌, ◌∙◌, ◌≡◌, ◌≤◌, ◌⊎◌}
use Rattle.tc_units.specs.declared.spans.Run.{Run}
use Rattle.tc_units.specs.declared.spans.SpanRef.{SpanRef}
use Rattle.tc_model.specs.Chains.{at}
use Rattle.holdings.specs.Runs.{first_byte, large, objects_at, run_of, runs_at, runs_like, same_run, spans_at, spans_like}
use Rattle.std.proofs.lemmas.Bool.{cases_Bool, cases_lt, cond-true, eq-eqb}
use Rattle.std.proofs.lemmas.List.Sums.{get_or-le-sum_by}
use Rattle.std.proofs.lemmas.List.{get_or_past}
use Rattle.std.specs.List.{slice_get}
use Rattle.name_table.specs.Names.{state_of}
use Rattle.std.specs.Prelude.{sum_by}
use Rattle.std.proofs.lemmas.Bool.Decides.{nat_tests}
use Rattle.holdings.proofs.MapFacts.{HasByte, class_spans, mapped_class, mapped_there, objects_once, off_lives, once_live}
use Rattle.holdings.proofs.MapFacts.{one_byte, one_span, owned_there, run_found, run_pages, span_lives, span_of, span_run}
use Rattle.holdings.proofs.Sums.{class_counts, least, same_run_is, sum_of_both}
use Rattle.name_table.specs.declared.table.NameState.TheVariants as name

module _ (m : Setup) (b : Books) (calls : List CallLine) (f : Facts m b calls) where
  pub hands_taken : (t : ℕ) (a : Account) (n : ℕ) → slice_get b.accounts t ≡ Some a → 0 < objects_at n a.hand → IsTaken b a.class n a.hand
  hands_taken t a n at some =
      let own : in_hand a.class n a ≡ objects_at n a.hand = cond-true (eqb a.class a.class) (objects_at n a.hand) 0 (eq-eqb a.class a.class refl) in
      let l = least (in_hand a.class n) b.accounts t a at in
      grind (arith)

  -- the first byte of a live run
  pub first_in : (r : Run) (n : ℕ) → 0 < runs_like r b.heap → first_byte r ≡ n → HasByte r n
  first_in r n live at = let some = (f.inside r live).some in (omega (arith, at), omega (arith, at, some))

  -- where an object is, a live run that begins is a shard's span
  pub begins_all : (k n : ℕ) → 0 < b.stock.objects k n → runs_at n b.heap ≤ b.stock.begins n
  begins_all k n some =
      elim (cases_lt 0 (runs_at n b.heap)) [
        | inl there ↦
            let r = run_found n b.heap there in
            let s = span_of m b calls f k n some in
            let e : r.0 ≡ run_of s.span = one_byte m b calls f r.0 (run_of s.span) n r.2 s.live (first_in r.0 n r.2 r.1) s.byte in
            let start : first_byte (run_of s.span) ≡ n = ap (λ (x : Run). first_byte x) (sym e) ∙ r.1 in
            let p : b.stock.begins (first_byte (run_of s.span)) ≡ b.stock.begins n = ap b.stock.begins start in
            omega (arith, s.owned, f.cut.started s.span, p, f.starts n)
        | inr none ↦ omega (arith, none)
      ]

  pub objects_one : (k n : ℕ) → 0 < b.stock.objects k n
      → sum_by (λ (a : Account). loose n a.doing + objects_at n a.hand) b.accounts + sum_by (named_at n) b.names + over_classes m.rows (λ j. b.stock.stored j n) ≡ 1
  objects_one k n some =
      let both = sum_of_both (λ (a : Account). loose n a.doing + objects_at n a.hand) (λ (a : Account). spans_at n a.apart) b.accounts in
      omega (arith, both, f.places n, f.begins n, begins_all k n some, objects_once m b calls f k n some)

  pub off_lives_apart : (t : ℕ) (a : Account) (r : Run) → slice_get b.accounts t ≡ Some a → 0 < runs_like r a.off → IsOff m b r
  off_lives_apart t a r at off =
      let o = off_lives m b calls f t a r at off in
      let run = f.inside r o.0 in
      record {
        live = o.0;
        run = run;
        apart = λ s there.
            let live = span_lives m b calls f s there in
            let other : same_run r (run_of s) ≡ false = elim (cases_Bool (same_run r (run_of s))) [
              | inl same ↦ grind (arith, same_run_is r (run_of s) same, span_run s b.spans)
              | inr apart ↦ apart
            ] in
            run_pages r (run_of s) run.some (f.inside (run_of s) live).some (f.disjoint r (run_of s) o.0 live other);
      }

  pub mapped_apart : (t : ℕ) (a : Account) (s : SpanRef) → slice_get b.accounts t ≡ Some a → 0 < spans_like s a.mapped → IsMapped m b s
  mapped_apart t a s at held =
      let class = mapped_class m b calls f t a s at held in
      let there = mapped_there m b calls f t a s at held in
      let live = span_lives m b calls f s there in
      record {
        there = there;
        class = class;
        apart = λ x own.
            let found = owned_there m b calls f x own in
            let live' = span_lives m b calls f x found in
            let other : same_run (run_of s) (run_of x) ≡ false = elim (cases_Bool (same_run (run_of s) (run_of x))) [
              | inl same ↦
                  let e : s ≡ x = one_span m b calls f s x there found (sym (same_run_is (run_of s) (run_of x) same)) in
                  let o : b.stock.owned x ≡ b.stock.owned s = ap (λ (y : SpanRef). b.stock.owned y) (sym e) in
                  let more = class_spans m b calls f s class.class class.kind in
                  absurd (omega (arith, o, own, more, least (transit s) b.accounts t a at, held, span_run s b.spans, f.map (run_of s), once_live m b calls f (run_of s)))
              | inr apart ↦ apart
            ] in
            run_pages (run_of s) (run_of x) (f.inside (run_of s) live).some (f.inside (run_of x) live').some (f.disjoint (run_of s) (run_of x) live live' other);
      }

  -- a name counts where it is one of the table
  pub name_least : (n x : ℕ) → named_at n (state_of b.names x) ≤ sum_by (named_at n) b.names
  name_least n x = grind (arith, cases_lt, get_or-le-sum_by, get_or_past)

  pub name_lives : (x : ℕ) (o : Addr) → state_of b.names x ≡ name.Published (Some o) → ((k : ℕ) × (0 < b.stock.objects k o.0)) ⊎ (runs_at o.0 b.heap ≡ 1)
  name_lives x o is = grind (arith, nat_tests, name_least o.0 x, class_counts m.rows (λ k. b.stock.objects k o.0))

pub hands_are_taken : HandsAreTaken
hands_are_taken m b calls t a n f at some = hands_taken m b calls f t a n at some

pub objects_are_once : ObjectsAreOnce
objects_are_once m b calls k n f some = objects_one m b calls f k n some

pub offs_live : OffsLive
offs_live m b calls t a r f at off = off_lives_apart m b calls f t a r at off

pub mapped_are_there : MappedAreThere
mapped_are_there m b calls t a s f at held = mapped_apart m b calls f t a s at held

pub clears_are_there : ClearsAreThere
clears_are_there m b calls t a r f at some = omega (arith, some, f.clear r, least (clearing (large r)) b.accounts t a at)

pub names_are_live : NamesAreLive
names_are_live m b calls x o f is = name_lives m b calls f x o is
