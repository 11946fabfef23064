-- A seat is cut off the main one, and joined to it.
use Rattle.std.proofs.Common.{◌≡◌, ◌≢◌, ℕ, ◌<◌, List, map, [], ◌∷◌, ◌++◌, length, set, refl, sym, ap, ◌∙◌, ⊎_elim, arith, Some, length-append}
use Rattle.std.specs.List.{slice_get}
use Rattle.std.proofs.lemmas.List.{map-append}
use mathlib.Core.Option.{some}
use mathlib.Core.Logic.{dite}
use native.Mathlib.Decide.{ℕ_discrete}
use lib.ListN.{get_elem?}
use Rattle.atomic_table.specs.Table.{Splits, Joins}
use Rattle.atomic_table.proofs.Lists.{at_set, at_last, set_else, at_longer}
use Rattle.tc_model.specs.declared.board.Act.{Act}
use Rattle.tc_model.specs.Run.{Rules}
use Rattle.tc_model.specs.Rises.{Has}
use Rattle.tc_model.proofs.Members.{has_none, has_end, has_longer, has_last, none_has, map_from}
use Rattle.part_lock.specs.declared.view.Key.{Key}
use Rattle.part_lock.specs.declared.view.Stage.TheVariants.{Idle}
use Rattle.part_lock.specs.declared.view.Lead.{Lead}
use Rattle.part_lock.specs.declared.view.Work.{Work}
use Rattle.part_lock.specs.declared.view.View.{View}
use Rattle.part_lock.specs.declared.view.View.TheVariants.{Leads, Works, Spent}
use Rattle.part_lock.specs.Lock.{thread_of, of_thread, local_left, Account, Fits, HasOut, Names, one, ended, starved}
use Rattle.part_lock.specs.Lock.{lost, Kept, one_more, seated, fresh_work, newcomer, one_joined, joined}
use Rattle.part_lock.proofs.Facts.{put, put_here, put_else, set_at, view_end, once_end, thread_from, total_set, total_snoc, sum_snoc}
use Rattle.part_lock.proofs.Later.{Later, Same, knows_stays, fits_stays, each_moves, At, view_stays, same_deeds}

module _ {P L : Type 0} where
  none_of : (ds : List (Act P L)) (t : ℕ) → ((d : Act P L) → Has ds d → d.thread ≢ t) → [] ≡ of_thread t ds
  none_of ds t none_is = none_has (of_thread t ds) (λ d h. let o = thread_from ds t d h in none_is d o.0 o.1)

module _ {X P L : Type 0} (mach : X → Rules P L) (key : Key X) (id : ℕ) (m : Lead X P L) where
  splits_with : (t : ℕ) (l : L) → t < 256 → slice_get (mach m.machine).locals t ≡ Some l
      → (Has m.threads t → ⊥) → Splits (Kept mach key) id (Leads m) (seated t (Leads m)) (Works (fresh_work t l m))
  splits_with t local few begins unlisted s kept at =
      let r = kept.3 in let a : Account P L = kept.1 in let threads : List ℕ = kept.2 in
      let zero_is : id ≡ 0 = (r.each id (Leads m) at).0 in
      let at' : get_elem? s.views 0 ≡ some (Leads m) = rw zero_is at at in
      let (_, machine, events, listed, kept_ones, once) = r.each 0 (Leads m) at' in
      let fresh_one : Has threads t → ⊥ = λ h. unlisted (rw listed h) in
      let u : View X P L = Leads (one_more t m) in let new : Work X P L = fresh_work t local m in
      let views' : List (View X P L) = set s.views 0 u in let threads' : List ℕ = threads ++ t ∷ [] in
      let id' : ℕ = length views' in let a' : Account P L = record a { seat = put a.seat t id' } in
      let x = λ (f : Work X P L → ℕ). total_set f s.views 0 (Leads m) u at' in let y = λ (f : Work X P L → ℕ). total_snoc f views' (Works new) in
      let l = r.leader in let long = length-append threads (t ∷ []) in
      let none_there : [] ≡ of_thread t a.deeds = none_of a.deeds t (λ d h e. let (_, _, _, named, _) = r.owned h.0 d h.1 in fresh_one (rw e at named)) in
      let later : Later mach key.machine key.events s.words s.words (length s.homes) a a' threads threads' =
      record { halt = omega arith; next = omega arith; grew = same_deeds a; listed = λ q h. has_longer threads (t ∷ []) q h } in
      let else_ : (q : ℕ) → Has threads q → put a.seat t id' q ≡ a.seat q = λ q h. put_else a.seat t id' q (λ e. fresh_one (rw e at h)) in
      let old_stand : (Q : View X P L → Type 0) (j : ℕ) → (Q (Leads m) → Q u) → At Q s.views j → At Q (views' ++ Works new ∷ []) j =
      λ Q j f o. let n = view_stays Q s.views 0 (Leads m) u j at' f o in (n.0, at_longer views' (Works new ∷ []) j n.0 n.1, n.2) in
      rw zero_is (
        kept.0,
        a',
        threads',
        record {
          sized = r.sized;
          counted = r.counted;
          at_home = r.at_home;
          away = λ k less full. old_stand (HasOut k) (a.holder k) (λ z. z) (r.away k less full);
          each = λ j v e. ⊎_elim
              (λ (old : get_elem? views' j ≡ some v). each_moves later s.views 0 u (length s.homes) refl r.each
              (λ i apart. record { holds = λ k less h g. (h, refl, refl); tickets = λ q o less. o; of_seat = λ q h g. (else_ q h ∙ g, refl); lead = λ e. absurd (apart e) })
              (refl, machine, events, ap (λ (z : List ℕ). z ++ t ∷ []) listed, (λ w h. let k = kept_ones w h in (knows_stays later w refl k.0, else_ w.thread k.0.2 ∙ k.1, k.2)), once) j v old)
              (λ (is : (j ≡ id') × (Works new ≡ v)). rw (is.0, ← is.1) (
                (
                  machine,
                  events,
                  has_last threads t,
                  ap (local_left (mach key.machine) t) (sym none_there) ∙ rw machine at begins,
                  none_there,
                  (λ v h. absurd (has_none v h)),
                  (omega arith, (λ _. omega arith), (λ e. absurd (omega arith))),
                ),
                put_here a.seat t id',
                tt,
              ))
              (view_end views' (Works new) v j e);
          chained = r.chained;
          rises = r.rises;
          steady = r.steady;
          owned = λ k d e. let o = r.owned k d e in (o.0, o.1, o.2, has_longer threads (t ∷ []) d.thread o.3, o.4);
          leader = (one_more t m, at_longer views' (Works new ∷ []) 0 u (set_at s.views 0 (Leads m) u at'), omega (arith, x one, y one, l.2));
          once = once_end threads t r.once fresh_one;
          small = λ q h. ⊎_elim (r.small q) (λ (is : t ≡ q). rw is at few) (has_end threads t q h);
          standing = λ q h. ⊎_elim
              (λ (old : Has threads q). rw (else_ q old) (old_stand (Names q) (a.seat q) (λ z. z) (r.standing q old)))
              (λ (is : t ≡ q). rw (← is, put_here a.seat t id') (Works new, at_last views' (Works new) id' refl, refl))
              (has_end threads t q h);
          bounded = omega (arith, x ended, y ended);
          complete = λ i less low. omega (arith, x lost, y lost, r.complete i less low);
          halting = let h = r.halting in (h.0, h.1, (λ e. omega (arith, x starved, y starved, h.2 e)));
        },
      )

  pub splits_seat : (t : ℕ) (l : L) → t < 256 → slice_get (mach m.machine).locals t ≡ Some l
      → (Has m.threads t → ⊥) → Splits (Kept mach key) id (Leads m) (seated t (Leads m)) (newcomer mach t (Leads m))
  splits_seat t l few begins unlisted = rw begins (splits_with t l few begins unlisted)

  pub joins_seat : (other : ℕ) (w : Work X P L) → w.stage ≡ Idle → Joins (Kept mach key) id (Leads m) other (Works w) (joined (Leads m) (Works w)) Spent
  joins_seat other w idle s kept at apart there =
      let r = kept.3 in let a : Account P L = kept.1 in let threads : List ℕ = kept.2 in
      let zero_is : id ≡ 0 = (r.each id (Leads m) at).0 in
      let at' : get_elem? s.views 0 ≡ some (Leads m) = rw zero_is at at in
      let (_, machine, events, listed, kept_ones, once) = r.each 0 (Leads m) at' in
      let u : View X P L = Leads (one_joined m w) in
      let views' : List (View X P L) = set s.views 0 u in let views'' : List (View X P L) = set views' other Spent in
      let ne : other ≢ 0 = λ e. apart (e ∙ sym zero_is) in
      let there' : get_elem? views' other ≡ some (Works w) = rw zero_is at there in
      let was : get_elem? s.views other ≡ some (Works w) = sym (set_else s.views 0 other u ne) ∙ there' in
      let g = r.each other (Works w) was in
      let a' : Account P L = record a { seat = put a.seat w.thread 0 } in
      let x = λ (f : Work X P L → ℕ). total_set f s.views 0 (Leads m) u at' in let y = λ (f : Work X P L → ℕ). total_set f views' other (Works w) Spent there' in
      let z = λ (f : Work X P L → ℕ). sum_snoc f m.kept w in
      let l = r.leader in
      let later : Later mach key.machine key.events s.words s.words (length s.homes) a a' threads threads =
      record { halt = omega arith; next = omega arith; grew = same_deeds a; listed = λ q h. h } in
      let here = put_here a.seat w.thread 0 in
      let else_ : (q : ℕ) → q ≢ w.thread → put a.seat w.thread 0 q ≡ a.seat q = λ q no. put_else a.seat w.thread 0 q no in
      let stays : (i : ℕ) → i ≢ other → Same mach key.machine key.events s.words s.words (length s.homes) a a' threads threads i = grind (arith, else_) in
      let kept_now : Fits mach key.machine key.events s.words (length s.homes) a' threads 0 u = (
        refl,
        machine,
        events,
        listed,
        (λ q h. ⊎_elim
            (λ (old : Has m.kept q). let k = kept_ones q old in (knows_stays later q refl k.0, dite (ℕ_discrete q.thread w.thread) (λ e. rw e here) (λ no. else_ q.thread no ∙ k.1), k.2))
            (λ (is : w ≡ q). rw (← is) (knows_stays later w refl g.0, here, idle))
            (has_end m.kept w q h)),
        rw map-append (once_end (map thread_of m.kept) w.thread once (λ h. let q = map_from thread_of m.kept w.thread h in ne (sym g.1 ∙ (ap a.seat (sym q.2) ∙ (kept_ones q.0 q.1).1)))),
      ) in
      let main_at : get_elem? views'' 0 ≡ some u = set_else views' other 0 Spent (λ e. ne (sym e)) ∙ set_at s.views 0 (Leads m) u at' in
      let stand : (Q : View X P L → Type 0) (j : ℕ) → (Q (Leads m) → Q u) → (Q (Works w) → Q Spent) → At Q s.views j → At Q views'' j =
      λ Q j f g o. view_stays Q views' other (Works w) Spent j there' g (view_stays Q s.views 0 (Leads m) u j at' f o) in
      rw zero_is (
        kept.0,
        a',
        threads,
        record {
          sized = r.sized;
          counted = r.counted;
          at_home = r.at_home;
          away = λ k less full. stand (HasOut k) (a.holder k) (λ z. z) (λ o. rw idle at o) (r.away k less full);
          each = λ j v e. ⊎_elim
              (λ (t : (j ≡ other) × (Spent ≡ v)). rw (← t.1) tt)
              (λ (t : (j ≢ other) × (get_elem? views' j ≡ some v)). ⊎_elim
              (λ (q : (j ≡ 0) × (u ≡ v)). rw (q.0, ← q.1) kept_now)
              (λ (q : (j ≢ 0) × (get_elem? s.views j ≡ some v)). fits_stays later j v (stays j t.0) (r.each j v q.1))
              (at_set s.views 0 j u v t.1))
              (at_set views' other j Spent v e);
          chained = r.chained;
          rises = r.rises;
          steady = r.steady;
          owned = r.owned;
          leader = (one_joined m w, main_at, omega (arith, x one, y one, z one, l.2));
          once = r.once;
          small = r.small;
          standing = λ q h. dite (ℕ_discrete q w.thread)
              (λ e. rw (e, here) (u, main_at, (w, has_last m.kept w, refl)))
              (λ no. rw (else_ q no) (stand (Names q) (a.seat q) (λ o. (o.0, has_longer m.kept (w ∷ []) o.0 o.1, o.2)) (λ e. no (sym e)) (r.standing q h)));
          bounded = omega (arith, x ended, y ended, z ended);
          complete = λ i less low. omega (arith, x lost, y lost, z lost, r.complete i less low);
          halting = let h = r.halting in (h.0, h.1, (λ e. omega (arith, x starved, y starved, z starved, h.2 e)));
        },
      )
