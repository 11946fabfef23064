-- A part comes home, with one more entry or as it was found.
use Rattle.std.proofs.Common.{Bool, true, false, ◌≡◌, ◌≢◌, ◌⊎◌, ℕ, ◌+◌, ◌-◌, ◌≤◌, length-append}
use Rattle.std.proofs.Common.{List, map, [], ◌∷◌, ◌++◌, length, set, refl, sym, ap, ◌∙◌, subst, ⊎_elim, arith, length-set, Some}
use Rattle.std.specs.List.{slice_get}
use Rattle.std.proofs.lemmas.List.{length-map, map-append, append-nil}
use mathlib.Core.Option.{none, some}
use mathlib.Core.Logic.{dite}
use native.Mathlib.Decide.{ℕ_discrete}
use lib.ListN.{get_elem?}
use Rattle.atomic_table.specs.Table.{State, step, gives, Allows}
use Rattle.atomic_table.proofs.Lists.{set_here, set_else}
use Rattle.tc_model.specs.declared.board.Act.{Act}
use Rattle.tc_model.specs.declared.board.Entry.{Entry}
use Rattle.tc_model.specs.Run.{Rules, start}
use Rattle.tc_model.specs.Chains.{part_after, local_after}
use Rattle.tc_model.specs.Chains as chains
use Rattle.tc_model.specs.Rises.{Has}
use Rattle.tc_model.proofs.Members.{at_end, has_end}
use Rattle.tc_model.proofs.Merges.{rises_end}
use Rattle.tc_model.proofs.Longer.{left_end, chained_end}
use Rattle.part_lock.specs.declared.view.Key.{Key}
use Rattle.part_lock.specs.declared.view.Stall.{Stall}
use Rattle.part_lock.specs.declared.view.Hold.{Hold}
use Rattle.part_lock.specs.declared.view.Visit.{Visit}
use Rattle.part_lock.specs.declared.view.Stage.TheVariants.{Taken, Drawn}
use Rattle.part_lock.specs.declared.view.Work.{Work}
use Rattle.part_lock.specs.declared.view.View.{View}
use Rattle.part_lock.specs.declared.view.View.TheVariants.{Works}
use Rattle.part_lock.specs.Lock.{part_word, lies, flag, part_no, rank, at_part, of_thread, part_left, local_left, Account, HasOut, Names, entry_of, entries_at, Saw, Caused, Holding, StageFits}
use Rattle.part_lock.specs.Lock.{IsOut, drawn_in, Ties, Kept, visit, deed, left, entered, Gives, Returns, Fails}
use Rattle.part_lock.proofs.Facts.{put, put_here, put_else, flag_rises, part_here, part_same, thread_here, thread_same}
use Rattle.part_lock.proofs.Later.{held_same, lies_held, Later, written, saw_stays, caused_stays, each_moves, view_stays, sums, leader_stays, turned_ties}

module _ {X P L : Type 0} (mach : X → Rules P L) (key : Key X) (n id : ℕ) (w : Work X P L) (h : Hold P) (x : Stall P) where
  -- the part comes home as it was found, and the turn is among those that are over
  back_moves : (s : State (Stall P) (View X P L)) (a : Account P L) (threads : List ℕ) (c : ℕ) (b : Bool)
      → Ties mach key s.words s.homes s.views a threads → get_elem? s.views id ≡ some (Works w) → x.entries.items ≡ h.found → x.part ≡ h.part
      → Holding mach key.machine key.events s.words (length s.homes) a threads id w.thread h → ((k : ℕ) → IsOut k w.stage → h.slot ≡ k)
      → drawn_in w.stage + flag (w.cause - 1) ≤ flag (c - 1) → w.cause ≤ c → Caused {P = P} {L = L} mach key.machine key.events s.words (length s.homes) a threads c b
      → Ties mach key (set s.words (part_word h.slot) 0) (set s.homes h.slot (some x)) (set s.views id (Works (left h c b w))) a threads
  back_moves s a threads c b r at same_entries same_part has out loss rise caused =
      let i : ℕ = h.slot in let u : Work X P L = left h c b w in
      let mine = r.each id (Works w) at in let (there, by, worded, found, part) = has in
      let (machine, events, named, local, made, saw, _) = mine.0 in
      let now = written s.words i 0 in let low = flag_rises w.cause c rise in let t = sums s.views id w u at in
      let seen : Saw mach key.machine key.events a.deeds (visit h 0) =
      (at_part i a.deeds, [], sym (append-nil (at_part i a.deeds)), sym (ap length found ∙ length-map (at_part i a.deeds) entry_of), part, omega arith) in
      let saw_all : (v : Visit P) → Has u.visits v → Saw mach key.machine key.events a.deeds v =
      λ v g. ⊎_elim (saw v) (λ (new : visit h 0 ≡ v). subst (Saw mach key.machine key.events a.deeds) new seen) (has_end w.visits (visit h 0) v g) in
      turned_ties mach key s.words (set s.words (part_word i) 0) s.homes (set s.homes i (some x)) s.views a threads id u a.holder a.owner w refl at r record {
        long = length-set s.words (part_word i) 0;
        wide = length-set s.homes i (some x);
        halt = omega arith;
        next = omega arith;
        home = λ k less zero. dite (ℕ_discrete k i)
            (λ f. (x, rw f (set_here s.homes i (some x) there), rw f (same_entries ∙ found), rw f (part ∙ ap Some (sym same_part))))
            (λ ne. let o = r.at_home k less (sym (now.other k ne) ∙ zero) in (o.0, set_else s.homes i k (some x) ne ∙ o.1, o.2, o.3));
        away = λ k less full. dite (ℕ_discrete k i)
            (λ f. absurd (full (rw f (now.here (omega arith)))))
            (λ ne. view_stays (HasOut k) s.views id (Works w) (Works u) (a.holder k) at (λ o. absurd (ne (sym (out k o)))) (r.away k less (λ z. full (now.other k ne ∙ z))));
        holds = λ j k apart less h' f. (h', now.other k (λ e. apart (sym h' ∙ (ap a.holder e ∙ by))));
        owned = λ t less. refl;
        mine = grind (arith);
        bounded = omega arith;
        complete = λ k less low'. let g = r.complete k (omega arith) low' in omega arith;
        halting = (omega arith, (λ e. omega arith), (λ e. omega arith));
      }

  pub returns_part : w.stage ≡ Taken h → x.entries.items ≡ h.found → x.part ≡ h.part
      → Allows (Kept mach key) n id (Works w, (h.slot, x) ∷ []) (part_word h.slot) (λ _. 0) (λ _ m. Returns (step n (part_word h.slot) 0 0 none) (Works w, (h.slot, x) ∷ []) 0 m)
  returns_part taken same_entries same_part s kept wide at _ =
      let r = kept.3 in let a : Account P L = kept.1 in let threads : List ℕ = kept.2 in
      let mine = r.each id (Works w) at in let has = rw taken at mine.2 in let none_drawn : drawn_in w.stage ≡ 0 = ap drawn_in taken in
      let stays = back_moves s a threads w.cause w.noted r at same_entries same_part has (λ k o. rw taken at o) (omega arith) (omega arith) mine.0.6 in
      (Works (left h w.cause w.noted w), gives, tt, (kept.0, a, threads, stays), rw taken refl)

  pub fails_part : ((w.stage ≡ Taken h) ⊎ ((t : ℕ) × (w.stage ≡ Drawn h t))) → w.cause ≡ 0 → x.entries.items ≡ h.found → x.part ≡ h.part
      → Allows (Kept mach key) n id (Works w, (h.slot, x) ∷ []) (part_word h.slot) (λ _. 0) (λ _ m. Fails (step n (part_word h.slot) 0 0 none) (Works w, (h.slot, x) ∷ []) 0 m)
  fails_part held_so fresh_is same_entries same_part s kept wide at _ =
      let r = kept.3 in let a : Account P L = kept.1 in let threads : List ℕ = kept.2 in
      let stays : Ties mach key (set s.words (part_word h.slot) 0) (set s.homes h.slot (some x)) (set s.views id (Works (left h 2 false w))) a threads =
      grind (arith, r.each id (Works w), back_moves s a threads 2 false r) in
      (Works (left h 2 false w), gives, tt, (kept.0, a, threads, stays), grind arith)

  -- the part comes home with one more entry
  pub gives_part : (t : ℕ) → w.stage ≡ Drawn h t → x.entries.items ≡ h.found ++ record { ticket = t; thread = record { 0 = w.thread } } ∷ []
      → x.part ≡ ((mach w.machine).after h.part w.local).0
      → (mach w.machine).want w.local ≡ Some (part_no h.slot) → (mach w.machine).waits h.part w.local ≡ false → (mach w.machine).yields h.part w.local ≡ true
      → Allows (Kept mach key) n id (Works w, (h.slot, x) ∷ []) (part_word h.slot) (λ _. 0) (λ _ m. Gives mach (step n (part_word h.slot) 0 0 none) (Works w, (h.slot, x) ∷ []) 0 m)
  gives_part t drawn longer acted wish no_wait yield s kept wide at _ =
      let r = kept.3 in let a : Account P L = kept.1 in let threads : List ℕ = kept.2 in
      let i : ℕ = h.slot in let l' : L = ((mach w.machine).after h.part w.local).1 in let m : Rules P L = mach key.machine in
      let mine = r.each id (Works w) at in let (machine, events, named, local, made, saw, caused) = mine.0 in
      let has : StageFits mach key.machine key.events s.words (length s.homes) a threads id w (Drawn h t) = rw drawn at mine.2 in
      let (holds, owner_is, drew, under, above_part, above_seat, fresh) = has in let (there, by, worded, found, part) = holds in
      let d : Act P L = deed w h t in let e : Entry = record { ticket = t; thread = record { 0 = w.thread } } in
      let words' : List ℕ = set s.words (part_word i) 0 in let u : Work X P L = entered h t l' w in let last : ℕ = length a.deeds in
      let a' : Account P L = record { deeds = a.deeds ++ d ∷ []; holder = a.holder; seat = a.seat; owner = put a.owner t (lies last) } in
      let now = written s.words i 0 in let wide' = length-set s.homes i (some x) in
      let one_drawn : drawn_in w.stage ≡ 1 = ap drawn_in drawn in let more = length-append a.deeds (d ∷ []) in let v = sums s.views id w u at in
      let grown : (k : ℕ) → k ≡ i → at_part k a'.deeds ≡ at_part k a.deeds ++ d ∷ [] = λ k f. part_here a.deeds d k f in
      let still : (k : ℕ) → k ≢ i → at_part k a'.deeds ≡ at_part k a.deeds = λ k ne. part_same a.deeds d k ne in
      let grown_seat = thread_here a.deeds d w.thread refl in
      let entries : entries_at i a'.deeds ≡ entries_at i a.deeds ++ e ∷ [] = ap (λ l. map entry_of l) (grown i refl) ∙ map-append entry_of (at_part i a.deeds) (d ∷ []) in
      let later : Later mach key.machine key.events s.words words' (length s.homes) a a' threads threads = record {
        halt = omega arith;
        next = omega arith;
        grew = λ k. dite (ℕ_discrete k i) (λ f. (d ∷ [], grown k f)) (λ ne. ([], still k ne ∙ sym (append-nil (at_part k a.deeds))));
        listed = λ _ h. h;
      } in
      let goes : chains.Goes m d = record { wants = rw machine at wish; moves = rw machine at no_wait; polite = rw machine at yield } in
      let new_part : part_left m i (at_part i a'.deeds) ≡ Some x.part =
      rw (grown i refl) (left_end (λ (b : Act P L). b.part) (part_after m) (slice_get m.parts i) (at_part i a.deeds) d) ∙ ap Some (sym (rw machine at acted)) in
      let new_local : local_left m w.thread (of_thread w.thread a'.deeds) ≡ Some l' =
      rw (grown_seat, machine) (left_end (λ (b : Act P L). b.local) (local_after m) (slice_get m.locals w.thread) (of_thread w.thread a.deeds) d) in
      let now_seen : Saw mach key.machine key.events a'.deeds (visit h 1) =
      (at_part i a.deeds, d ∷ [], grown i refl, sym (ap length found ∙ length-map (at_part i a.deeds) entry_of), part, omega arith) in
      let saw_all : (v : Visit P) → Has u.visits v → Saw mach key.machine key.events a'.deeds v = λ q g. ⊎_elim (λ (old : Has w.visits q). saw_stays later q (saw q old))
      (λ (new : visit h 1 ≡ q). subst (Saw mach key.machine key.events a'.deeds) new now_seen) (has_end w.visits (visit h 1) q g) in (
        Works u,
        gives,
        tt,
        (
          kept.0,
          a',
          threads,
          record {
            sized = omega (arith, length-set s.words (part_word i) 0, r.sized);
            counted = wide' ∙ r.counted;
            at_home = λ k less zero. dite (ℕ_discrete k i)
                (λ f. (x, rw f (set_here s.homes i (some x) there), rw f (longer ∙ (ap (λ (l : List Entry). l ++ e ∷ []) found ∙ sym entries)), rw f new_part))
                (λ ne. let o = r.at_home k (omega arith) (sym (now.other k ne) ∙ zero) in
                (o.0, set_else s.homes i k (some x) ne ∙ o.1, o.2 ∙ ap (λ l. map entry_of l) (sym (still k ne)), ap (part_left m k) (still k ne) ∙ o.3));
            away = λ k less full. dite (ℕ_discrete k i)
                (λ f. absurd (full (rw f (now.here (omega arith)))))
                (λ ne. view_stays (HasOut k) s.views id (Works w) (Works u) (a.holder k) at (λ o. absurd (ne (sym (rw drawn at o)))) (r.away k (omega arith) (λ z. full (now.other k ne ∙ z))));
            each = each_moves later s.views id (Works u) (length (set s.homes i (some x))) (sym wide') r.each
                (λ j apart. record {
                  holds = λ k less holds' f. let ne : k ≢ i = λ e. apart (sym holds' ∙ (ap a.holder e ∙ by)) in (holds', now.other k ne, still k ne);
                  tickets = λ q o less. put_else a.owner t (lies last) q (λ f. apart (held_same j id (sym o ∙ (ap a.owner f ∙ owner_is)))) ∙ o;
                  of_seat = λ q g f. (f, thread_same a.deeds d q (λ e. apart (sym f ∙ (ap a.seat e ∙ mine.1))));
                  lead = λ e. refl;
                }) (
                  (
                    machine,
                    events,
                    named,
                    new_local,
                    ap (λ (l : List (Act P L)). l ++ d ∷ []) made ∙ sym grown_seat,
                    saw_all,
                    caused_stays later w.cause w.noted caused,
                  ),
                  mine.1,
                  tt,
                );
            chained = chained_end m (start m) a.deeds d r.chained part local goes;
            rises = λ k. dite (ℕ_discrete k i)
                (λ f. rw (grown k f) (rises_end rank (at_part k a.deeds) d (r.rises k) (λ q g. above_part q (rw f at g))))
                (λ ne. rw (still k ne) (r.rises k));
            steady = λ q. dite (ℕ_discrete q w.thread)
                (λ f. rw (thread_here a.deeds d q f) (rises_end rank (of_thread q a.deeds) d (r.steady q) (λ y g. above_seat y (rw f at g))))
                (λ ne. rw (thread_same a.deeds d q ne) (r.steady q));
            owned = λ q y f. ⊎_elim
                (λ (old : slice_get a.deeds q ≡ Some y). let (lies_at, low, few, member, near) = r.owned q y old in
                (put_else a.owner t (lies last) y.ticket (λ g. lies_held q id (sym lies_at ∙ (ap a.owner g ∙ owner_is))) ∙ lies_at, omega arith, few, member, omega arith))
                (λ (new : (q ≡ last) × (d ≡ y)). let is : y.ticket ≡ t = sym (ap rank new.1) in let slot : h.slot ≡ y.place.0 = ap (λ (z : Act P L). z.place.0) new.1 in
                (ap a'.owner is ∙ (put_here a.owner t (lies last) ∙ ap lies (sym new.0)), omega arith, omega arith, subst (λ (z : Act P L). Has threads z.thread) new.1 named, omega arith))
                (at_end a.deeds d y q f);
            leader = leader_stays s.views threads id w u r.leader at;
            once = r.once;
            small = r.small;
            standing = λ q g. view_stays (Names q) s.views id (Works w) (Works u) (a.seat q) at (λ z. z) (r.standing q g);
            bounded = omega arith;
            complete = λ q less low'. let g = r.complete q (omega arith) low' in omega arith;
            halting = (omega arith, (λ e. omega arith), (λ e. omega arith));
          },
        ),
        rw drawn refl,
      )
