-- A seat takes the turn of a part.
use Rattle.std.proofs.Common.{◌≡◌, ◌≢◌, ℕ, ◌+◌, ◌<◌, ◌≤◌, eqb, List, [], ◌∷◌, length-append, length, set, refl, sym, ap, ◌∙◌, arith, length-set, Some}
use Rattle.std.proofs.lemmas.List.{length-map}
use mathlib.Core.Option.{none}
use mathlib.Core.Logic.{dite}
use native.Mathlib.Decide.{ℕ_discrete}
use prog.Atomic.{either}
use Rattle.atomic_table.specs.Table.{step, keeps, takes, Allows}
use Rattle.atomic_table.proofs.Lists.{set_else, exchanged}
use Rattle.tc_model.specs.declared.board.Act.{Act}
use Rattle.tc_model.specs.Run.{Rules, start}
use Rattle.tc_model.specs.Sound.{IsSound}
use Rattle.tc_model.specs.Chains.{AreChainedFrom}
use Rattle.tc_model.specs.Rises.{Has}
use Rattle.part_lock.specs.declared.view.Key.{Key}
use Rattle.part_lock.specs.declared.view.Stall.{Stall}
use Rattle.part_lock.specs.declared.view.Visit.{Visit}
use Rattle.part_lock.specs.declared.view.Stage.TheVariants.{Idle, Taken}
use Rattle.part_lock.specs.declared.view.Work.{Work}
use Rattle.part_lock.specs.declared.view.View.TheVariants.{Works}
use Rattle.part_lock.specs.Lock.{part_word, slot_of, hold, at_part, of_thread, part_left, local_left, Account, entries_at, Saw, Mine, HasOut, drawn_in, Kept, at_stage, Finds, Takes}
use Rattle.part_lock.proofs.Facts.{put, put_here, put_else, set_at}
use Rattle.part_lock.proofs.Later.{word, written, Goes, view_stays, sums, turned_ties, stands_still}
use Rattle.part_lock.proofs.Halting.{few_deeds, lawful_next}

module _ {X P L : Type 0} (mach : X → Rules P L) (fits : X → P → L → Type 0) (key : Key X) (sound : IsSound (mach key.machine) (fits key.machine)) where
  fresh : (deeds : List (Act P L)) (v : Visit P) (i : ℕ) (x : Stall P) → Saw mach key.machine key.events deeds v
      → v.slot ≡ i → x.entries.items ≡ entries_at i deeds → v.found + v.entered ≤ length x.entries.items
  fresh deeds v i x seen same is = grind (arith, length-map, length-append)

  finds_part : (a : Account P L) (w : Work X P L) (i j : ℕ) (x : Stall P) → i ≡ j
      → x.entries.items ≡ entries_at i a.deeds → part_left (mach key.machine) i (at_part i a.deeds) ≡ Some x.part
      → AreChainedFrom (mach key.machine) (start (mach key.machine)) a.deeds → length a.deeds ≤ 40000000
      → w.machine ≡ key.machine → local_left (mach key.machine) w.thread (of_thread w.thread a.deeds) ≡ Some w.local
      → ((v : Visit P) → Has w.visits v → Saw mach key.machine key.events a.deeds v)
      → (y : Stall P) × (◌≡◌ {A = Mine X P L} (Works (at_stage (Taken (hold i x)) w), (i, x) ∷ []) (Works (at_stage (Taken (hold j y)) w), (j, y) ∷ [])) × Finds mach fits j y (Works w)
  finds_part a w i j x e is part chained few same local seen = (
    x,
    rw e refl,
    (
      (λ wish. (lawful_next mach fits key a.deeds w j sound chained few same local wish).1 x.part (rw e at part)),
      (λ v h slot. fresh a.deeds v j x (seen v h) slot (rw e at is)),
    ),
  )

  pub takes_part : (n id i : ℕ) (w : Work X P L) → w.stage ≡ Idle → i < n
      → Allows (Kept mach key) n id (Works w, []) (part_word i) (λ y. either (eqb y 0) (w.thread + 1) y) (Takes mach fits (step n (part_word i) 0 (w.thread + 1) none) (Works w, []))
  takes_part n id i w idle near s kept wide at _ =
      let r = kept.3 in let a : Account P L = kept.1 in let threads : List ℕ = kept.2 in
      let y : ℕ = word s.words (part_word i) in let words' : List ℕ = set s.words (part_word i) (w.thread + 1) in let size = r.sized in
      let mine = r.each id (Works w) at in let (machine, events, named, local, made, saw, caused) = mine.0 in
      let limit = few_deeds r in let most = kept.0 in let few : length a.deeds ≤ 40000000 = omega arith in
      let then = Takes mach fits (step n (part_word i) 0 (w.thread + 1) none) (Works w, []) in
      exchanged y 0 (w.thread + 1) (Goes mach key s id (Works w, []) (part_word i) then)
      (λ free.
      let x = r.at_home i (omega arith) free in
      let u : Work X P L = at_stage (Taken (hold i x.0)) w in let holder : ℕ → ℕ = put a.holder i id in
      let now = written s.words i (w.thread + 1) in let here = now.here (omega arith) in
      let t = sums s.views id w u at in let none_drawn : drawn_in w.stage ≡ 0 = ap drawn_in idle in (
        Works u,
        takes i x.0,
        x.1,
        (
          most,
          record a { holder = holder },
          threads,
          turned_ties mach key s.words words' s.homes (set s.homes i none) s.views a threads id u holder a.owner w refl at r record {
            long = length-set s.words (part_word i) (w.thread + 1);
            wide = length-set s.homes i none;
            halt = omega arith;
            next = omega arith;
            home = λ k less zero. dite (ℕ_discrete k i)
                (λ e. absurd (let h : word words' (part_word k) ≡ w.thread + 1 = rw e here in omega arith))
                (λ ne. let o = r.at_home k less (sym (now.other k ne) ∙ zero) in (o.0, set_else s.homes i k none ne ∙ o.1, o.2, o.3));
            away = λ k less full. dite (ℕ_discrete k i)
                (λ e. (Works u, rw (e, put_here a.holder i id) (set_at s.views id (Works w) (Works u) at), sym e))
                (λ ne. rw (put_else a.holder i id k ne)
                (view_stays (HasOut k) s.views id (Works w) (Works u) (a.holder k) at (λ o. absurd (rw idle at o)) (r.away k less (λ z. full (now.other k ne ∙ z)))));
            holds = λ j k apart less h f. let ne : k ≢ i = λ e. f (rw e free) in (put_else a.holder i id k ne ∙ h, now.other k ne);
            owned = λ t less. refl;
            mine = ((machine, events, named, local, made, saw, (caused.0, (λ e. omega arith), (λ e. omega arith))), mine.1, (omega arith, put_here a.holder i id, here, x.2, x.3));
            bounded = omega arith;
            complete = λ k less low. let g = r.complete k (omega arith) low in omega arith;
            halting = (omega arith, (λ e. omega arith), (λ e. omega arith));
          },
        ),
        ((λ _. finds_part a w i (slot_of (part_word i)) x.0 (omega arith) x.2 x.3 r.chained few machine local saw), λ ne. absurd (ne free)),
      ))
      (λ busy. (Works w, keeps, tt, stands_still mach key s id (part_word i) (Works w) [] kept at, ((λ free. absurd (busy free)), (λ _. refl))))
