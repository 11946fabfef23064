-- Acts on the names.
use Rattle.holdings.specs.Accounts.{Account, Doing, Frees, Holds, Other, Publishes, Takes, held_at, in_hand, loose, named_at}
use Rattle.tc_units.specs.declared.units.Addr.{Addr}
use Rattle.std.specs.Prelude.{All, is_some}
use Rattle.holdings.specs.Books.{Books, Setup}
use Rattle.tc_model.specs.declared.answers.CallLine.{CallLine}
use Rattle.holdings.specs.Facts.{Facts, IsSelf, IsStanding}
use Rattle.tc_model.specs.declared.calls.Call.TheVariants.{Free}
use Rattle.tc_model.specs.declared.answers.Answer.TheVariants.{FreedNull}
use Rattle.tc_units.specs.declared.units.Label.{Label}
use Rattle.std.proofs.Common.{List, None, Option, Some, [], ap, arith, refl, subst, sym, ℕ, ◌++◌, ◌∙◌, ◌∷◌, ◌≡◌}
use Rattle.name_table.specs.declared.table.NameState.{NameState}
use Rattle.holdings.specs.Moves.{about, books_with}
use Rattle.holdings.specs.Runs.{bit, large, runs_at, spans_at, spans_like, spans_of_run}
use Rattle.tc_model.specs.Blocks.{blocks_after}
use Rattle.std.specs.List.{slice_get, slice_set}
use Rattle.name_table.specs.Names.{state_of}
use Rattle.holdings.proofs.Groups.{PlaceFacts, heap_facts, moved, spans_still, still}
use Rattle.holdings.proofs.Standing.{answer_same, has_null, lose}
use Rattle.holdings.proofs.CallFacts.{blocks_after-push}
use Rattle.holdings.proofs.KeptFacts.{kept_freed_null}
use Rattle.holdings.proofs.Labels.{labels_published, labels_taken, named, publishes_within, takes_within, value_named}
use Rattle.holdings.proofs.Sums.{shift}
use Rattle.name_table.specs.declared.table.NameState.TheVariants as name

module _ {m : Setup} {b : Books} {calls : List CallLine} (f : Facts m b calls) (t : ℕ) (a : Account) (at : slice_get b.accounts t ≡ Some a) where
  stands_still : (w : Account) (names : List NameState) → w.apart ≡ a.apart → All (IsStanding m.rows (books_with b b.stock b.heap b.spans names t w)) (blocks_after calls)
  stands_still w names apart = still f t a w at b.heap b.spans names (λ x l. (l.live, l.unmapped, ap (spans_of_run l.run) apart ∙ l.unheld t a at))

  pub publishes_name : (label : Label) (value : Option Addr) → a.doing ≡ Publishes label value → a.off ≡ [] → a.clears ≡ []
      → state_of b.names label.0 ≡ name.Unpublished
      → Facts m (books_with b b.stock b.heap b.spans (slice_set b.names label.0 (name.Published value)) t (about a Other)) calls
  publishes_name label value is empty clear old =
      let self = f.selves t a at in
      let w : Account = about a Other in
      let names : List NameState = slice_set b.names label.0 (name.Published value) in
      let there = publishes_within f t a at w refl label value is in
      moved f t a w at b.stock b.heap b.spans names calls f.kept (stands_still w names refl) (heap_facts f) f.cut (record {
        freeing = λ l o e. absurd (cc);
        spans = self.spans;
        mapped = self.mapped;
        whole = self.whole;
        offs = λ n. let e : _ = ap (runs_at n) empty in omega (arith, e);
        cleared = λ q. let e : _ = ap (spans_like (large q)) clear in omega (arith, e);
      }) (labels_published f t a at w refl label value is refl old) (spans_still f t a w at b.stock.owned (λ r. refl) (λ s. refl) (λ s. refl)) (record {
        places = λ n. omega (arith, f.places n, shift (held_at n) b.accounts t a w at, ap (loose n) is, named f t a at n label.0 name.Unpublished (name.Published value) there old);
        begins = λ n. omega (arith, f.begins n, shift (λ (x : Account). spans_at n x.apart) b.accounts t a w at);
        classes = λ k n. omega (arith, f.classes k n, shift (in_hand k n) b.accounts t a w at);
      })

  -- a taken label, with nothing held before
  module _ (label : Label) (is : a.doing ≡ Takes label) where
    places_taken : (u : Option Addr) (d : Doing) → state_of b.names label.0 ≡ name.Published u → ((n : ℕ) → loose n d ≡ named_at n (name.Published u))
        → PlaceFacts m.rows b.stock b.heap (slice_set b.names label.0 name.Taken) (slice_set b.accounts t (about a d))
    places_taken u d old same =
        let w : Account = about a d in
        let there = takes_within f t a at w refl label is in
        record {
          places = λ n.
              let e : loose n a.doing ≡ 0 = ap (loose n) is in
              let s = same n in
              omega (arith, f.places n, shift (held_at n) b.accounts t a w at, e, s, named f t a at n label.0 (name.Published u) name.Taken there old);
          begins = λ n. omega (arith, f.begins n, shift (λ (x : Account). spans_at n x.apart) b.accounts t a w at);
          classes = λ k n. omega (arith, f.classes k n, shift (in_hand k n) b.accounts t a w at);
        }

    self_taken : (d : Doing) → ((l : Label) (o : Addr) → d ≡ Frees l o → ⊥) → IsSelf m (about a d)
    self_taken d unfreed = grind arith

    pub takes_addr : (o : Addr) → state_of b.names label.0 ≡ name.Published (Some o)
        → Facts m (books_with b b.stock b.heap b.spans (slice_set b.names label.0 name.Taken) t (about a (Holds label o))) calls
    takes_addr o old =
        let w : Account = about a (Holds label o) in
        let names : List NameState = slice_set b.names label.0 name.Taken in
        moved f t a w at b.stock b.heap b.spans names calls f.kept (stands_still w names refl) (heap_facts f) f.cut (self_taken (Holds label o) (λ l x e. absurd (cc)))
        (labels_taken f t a at w refl label (Some o) calls is old (λ x. refl) (λ x. refl) (λ x v. refl))
        (spans_still f t a w at b.stock.owned (λ r. refl) (λ s. refl) (λ s. refl)) (places_taken (Some o) (Holds label o) old (λ n. refl))

    pub takes_null : state_of b.names label.0 ≡ name.Published None → Facts m (books_with b b.stock b.heap b.spans (slice_set b.names label.0 name.Taken) t (about a Other))
        (calls ++ record { thread = record { 0 = t }; call = Free label; answer = FreedNull } ∷ [])
    takes_null old =
        let c : CallLine = record { thread = record { 0 = t }; call = Free label; answer = FreedNull } in
        let w : Account = about a Other in
        let names : List NameState = slice_set b.names label.0 name.Taken in
        let has = value_named f t a at label.0 None old in
        moved f t a w at b.stock b.heap b.spans names (calls ++ c ∷ []) (kept_freed_null f.kept (record { 0 = t }) label (has_null calls label.0 (f.kept.answers label.0) has))
        (subst (All (IsStanding m.rows (books_with b b.stock b.heap b.spans names t w))) (sym (blocks_after-push calls c)) (stands_still w names refl))
        (heap_facts f) f.cut (self_taken Other (λ l x e. absurd (cc)))
        (labels_taken f t a at w refl label None (calls ++ c ∷ []) is old (λ x. refl) (λ x. ap (λ o. bit (is_some o)) (answer_same calls c x refl))
        (λ x v. omega (arith, lose calls (record { 0 = t }) label FreedNull None has x v))) (spans_still f t a w at b.stock.owned (λ r. refl) (λ s. refl) (λ s. refl))
        (places_taken None Other old (λ n. refl))
