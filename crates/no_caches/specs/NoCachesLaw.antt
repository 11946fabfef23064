-- No caches meet the law of a front-end: no thread comes to a row, and nothing else is to be kept.
use Rattle.std.proofs.Common.{◌≡◌, ℕ, zero, suc, true, false, List, [], ◌∷◌, map, refl, sym, ap, subst, ◌∙◌, arith}
use Rattle.std.specs.Prelude.{Bool, All, Some, slice_get, slice_set}
use Rattle.std.specs.List.{range_with_len}
use Rattle.std.proofs.lemmas.List.Elements.{All-map, All-head, All-tail}
use Rattle.tc_model.specs.Input.{Input}
use Rattle.alloc_rules.specs.FrontLaw.{IsNotOwn, idle, with_hand}
use Rattle.alloc_rules.specs.Standings.{Here, Later, Away, Standing, stand}
use Rattle.no_caches.specs.declared.front.NoPart.{NoPart}
use Rattle.no_caches.specs.declared.front.NoRow.{NoRow}
use Rattle.no_caches.specs.declared.front.NoSeat.{NoSeat}
use Rattle.alloc_rules.specs.Inputs.{IsValidInput, is_common, not_taken}
use Rattle.alloc_rules.specs.Law.{HoldsAfter, AreLawful}
use Rattle.alloc_rules.proofs.CommonCalls.{valid_common}
use Rattle.alloc_rules.proofs.Laws.{in_every_order}
use Rattle.no_caches.specs.NoCaches.{no_caches, about_none, is_away, Holds, fits}
use Rattle.no_caches.specs.Laws.{AreNoCachesLawful, InEveryOrder}

abbrev Seen : Type 0
Seen = Standing NoSeat NoRow

abbrev away : Seen → Bool
away u = is_away u.at

abbrev Is : Bool → Type 0
Is b = b ≡ true

map_set : (us : List Seen) (t : ℕ) (x : Seen) → slice_set (map away us) t (away x) ≡ map away (slice_set us t x)
map_set [] t x = refl
map_set (u ∷ us) zero x = refl
map_set (u ∷ us) (suc t) x = ap (λ (bs : List Bool). away u ∷ bs) (map_set us t x)

-- one thread is replaced by one that stands at a row where it did
same : (n : ℕ) (ps : List NoPart) (us : List Seen) (t : ℕ) (x y : Seen) → away x ≡ away y → Holds n ps (slice_set us t x) → Holds n ps (slice_set us t y)
same n ps us t x y e h = subst (All Is) (sym (map_set us t x) ∙ ap (slice_set (map away us) t) e ∙ map_set us t y) h

-- so no thread is at a row
none_here : (us : List Seen) (t : ℕ) (u : Seen) → All Is (map away us) → slice_get us t ≡ Some u → away u ≡ true
none_here [] t u all is = absurd (cc)
none_here (w ∷ us) zero u all is = let e : w ≡ u = cc in subst (λ (x : Seen). away x ≡ true) e (All-head Is (away w) (map away us) all)
none_here (w ∷ us) (suc t) u all is = none_here us t u (All-tail Is (away w) (map away us) all) is

pub no_caches_law : AreNoCachesLawful
no_caches_law rows =
    let here : (us : List Seen) (t : ℕ) (u : Seen) → away u ≡ false → All Is (map away us) → slice_get us t ≡ Some u → ⊥ = λ us t u no h at. absurd (let yes = none_here us t u h at in cc) in
    record {
      start = λ threads. All-map Is away (map (idle (no_caches rows)) (range_with_len 0 threads)) (All-map (λ u. Is (away u)) (idle (no_caches rows)) (range_with_len 0 threads) (λ i d within. refl));
      none = λ k n. refl;
      split = omega arith;
      ready = λ n ps us t v g count row few le h own ready. absurd (here us t (stand v g count (Here row)) refl h own);
      does = λ n ps us t p v g count row few le h own at ready. absurd (here us t (stand v g count (Here row)) refl h own);
      acts = λ n ps us t p v g count row few le h own at ready. absurd (here us t (stand v g count (Here row)) refl h own);
      passes = λ n ps us h. h;
      away = λ n ps us t v g count more k hand le low room h. same n ps us t (stand v g count Away) (stand v (with_hand g k hand) more Away) refl h;
      waits = λ n ps us t v g count more j row hand le room h. same n ps us t (stand v g count (Later j row)) (stand v (with_hand g g.class hand) more (Later j row)) refl h;
      back = λ n ps us t v g count more k row hand le room none h. same n ps us t (stand v g count (Later k row)) (stand v (with_hand g k hand) more (Here row)) refl h;
      begins = λ n ps us t v g count o plan none h. same n ps us t (stand v g count Away) (stand v g count Away) refl h;
      restarts = λ n ps us t v g count h. same n ps us t (stand v g count Away) (stand v (record g { ran = 0 }) count Away) refl h;
      firsts = λ n ps us t v g count a asked none h. same n ps us t (stand v g count Away) (stand v (record g { ran = 0 }) count Away) refl h;
      rests = λ n ps us t v g count s some few h. h;
      frees = λ n ps us t v g count f one h. h;
      others_begin = λ n ps us t v g count p plan own none h. absurd (plan own);
      lasts = λ n ps us t v g count none h. h;
      entries = record {
        first_about = λ v a. tt;
        rest_about = λ v s. tt;
        free_about = λ v f. tt;
        other_about = λ v call. tt;
        last_about = λ v. tt;
        to_first = λ g. record { thread = refl; class = refl; hand = refl };
        to_rest = λ g. record { thread = refl; class = refl; hand = refl };
        to_free = λ g. record { thread = refl; class = refl; hand = refl };
        to_other = λ call g. refl;
        other_thread = λ call g. refl;
      };
      other_class = λ p g plan own. absurd (plan own);
      other_there = λ v p plan own. absurd (plan own);
      refuses = λ p v g row. tt;
    }

pub no_caches_in_every_order : InEveryOrder
no_caches_in_every_order rows asked valid = in_every_order (no_caches rows) about_none IsNotOwn Holds fits (no_caches_law rows) asked valid

pub lawful_in : (input : Input) → IsValidInput input → not_taken is_common input.asked.calls ≡ 0 → AreLawful (no_caches input.rows) about_none input.asked fits (HoldsAfter (no_caches input.rows) about_none Holds input.asked)
lawful_in input valid taken = no_caches_in_every_order input.rows input.asked (valid_common input valid taken)
