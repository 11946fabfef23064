-- The halt word is loaded or raised; and what comes next in a run of the acts so far.
use Rattle.std.proofs.Common.{true, ◌≡◌, ◌⊎◌, ℕ, ◌-◌, ◌<◌, ◌≤◌, max, List, [], length, set, refl, sym, ap, ◌∙◌, inl, arith, length-set, Some}
use Rattle.std.proofs.lemmas.List.{get_or-set_other, get_or-set_same, length-map}
use Rattle.std.proofs.lemmas.Option.{slice_get_within}
use Rattle.std.proofs.Math.Nat.{le-max_left, le-max_right, max-eq_left, max-eq_right}
use mathlib.Core.Option.{Option, none, some}
use lib.ListN.{get_elem?}
use Rattle.atomic_table.specs.Table.{step, keeps, Allows}
use Rattle.tc_model.specs.declared.board.Act.{Act}
use Rattle.tc_model.specs.Run.{Rules, start, run}
use Rattle.tc_model.specs.Sound.{IsSound}
use Rattle.tc_model.specs.Chains.{AreChainedFrom, threads_of}
use Rattle.tc_model.proofs.Merges.{Apart, apart_by, apart_few}
use Rattle.tc_model.proofs.Longer.{polite_moves}
use Rattle.tc_model.proofs.Chained.{chained_from}
use Rattle.tc_model.proofs.Picks.{fold_sizes}
use Rattle.part_lock.specs.declared.view.Key.{Key}
use Rattle.part_lock.specs.declared.view.Stall.{Stall}
use Rattle.part_lock.specs.declared.view.Stage.TheVariants.{Idle}
use Rattle.part_lock.specs.declared.view.Work.{Work}
use Rattle.part_lock.specs.declared.view.View.{View}
use Rattle.part_lock.specs.declared.view.View.TheVariants.{Works}
use Rattle.part_lock.specs.Lock.{ticket_word, part_word, part_no, rank, at_part, of_thread, part_left, local_left, Account, HasOut, starved, total, Ties, Kept, saw, Sees, Sets}
use Rattle.part_lock.proofs.Facts.{flag_rises, flag_some, set_at, lies_same, total_at}
use Rattle.part_lock.proofs.Later.{word, view_stays, sums, turned_ties}

module _ {X P L : Type 0} where
  -- The halt word becomes n, and a worker's cause c
  halt_moves : (mach : X → Rules P L) (key : Key X) (words : List ℕ) (homes : List (Option (Stall P))) (views : List (View X P L))
      → (a : Account P L) (threads : List ℕ) (id n c : ℕ) (w : Work X P L)
      → Ties mach key words homes views a threads → get_elem? views id ≡ some (Works w) → w.stage ≡ Idle
      → word words 0 ≤ n → n ≤ 2 → (n ≡ 1 → key.events < word words ticket_word)
      → (n ≡ 2 → (0 < total starved views) ⊎ (c ≡ 2)) → w.cause ≤ c → c ≤ n → (c ≡ 1 → key.events < word words ticket_word)
      → Ties mach key (set words 0 n) homes (set views id (Works (saw c w))) a threads
  halt_moves mach key words homes views a threads id n c w r at idle grows small one_is two_is rise under limit =
      let size = r.sized in let u : Work X P L = saw c w in
      let zeroth : word (set words 0 n) 0 ≡ n = get_or-set_same words 0 n 0 (omega arith) in
      let first : word (set words 0 n) ticket_word ≡ word words ticket_word = get_or-set_other words 0 ticket_word n 0 (λ e. omega arith) in
      let other : (k : ℕ) → word (set words 0 n) (part_word k) ≡ word words (part_word k) = λ k. get_or-set_other words 0 (part_word k) n 0 (λ e. omega arith) in
      let mine = r.each id (Works w) at in let (machine, events, named, local, made, saw, _) = mine.0 in
      let b = flag_rises w.cause c rise in let b' = flag_rises (w.cause - 1) (c - 1) (omega arith) in
      let t = sums views id w u at in let at_least = total_at starved (set views id (Works u)) id (Works u) (set_at views id (Works w) (Works u) at) in
      turned_ties mach key words (set words 0 n) homes homes views a threads id u a.holder a.owner w refl at r record {
        long = length-set words 0 n;
        wide = refl;
        halt = omega arith;
        next = omega arith;
        home = λ k less z. r.at_home k less (sym (other k) ∙ z);
        away = λ k less f. view_stays (HasOut k) views id (Works w) (Works u) (a.holder k) at (λ o. o) (r.away k less (λ z. f (other k ∙ z)));
        holds = λ j k apart less h f. (h, other k);
        owned = λ t less. refl;
        mine = ((machine, events, named, local, made, saw, (omega arith, (λ e. omega arith), (λ e. let low = limit e in omega arith))), mine.1, rw idle tt);
        bounded = omega arith;
        complete = λ k less low. let g = r.complete k (omega arith) low in omega arith;
        halting = grind (arith, one_is, flag_some (c - 1), two_is);
      }

module _ {X P L : Type 0} {mach : X → Rules P L} {key : Key X} {words : List ℕ} {homes : List (Option (Stall P))} {views : List (View X P L)} {a : Account P L} {threads : List ℕ}
    (r : Ties mach key words homes views a threads) where
  pub tickets_differ : Apart rank a.deeds
  tickets_differ = apart_by rank a.deeds (λ j k d e ed ee same. lies_same j k (sym (r.owned j d ed).0 ∙ (ap a.owner same ∙ (r.owned k e ee).0)))

  -- there are no more acts than tickets
  pub few_deeds : length a.deeds ≤ key.events
  few_deeds = apart_few rank a.deeds key.events tickets_differ (λ d h. (r.owned h.0 d h.1).2)

module _ {X P L : Type 0} where
  -- the acts so far are a run of picks that move: so the part wanted next is there, and the pair fits
  pub lawful_next : (mach : X → Rules P L) (fits : X → P → L → Type 0) (key : Key X) (deeds : List (Act P L)) (w : Work X P L) (i : ℕ) → IsSound (mach key.machine) (fits key.machine)
      → AreChainedFrom (mach key.machine) (start (mach key.machine)) deeds → length deeds ≤ 40000000
      → w.machine ≡ key.machine → local_left (mach key.machine) w.thread (of_thread w.thread deeds) ≡ Some w.local → (mach w.machine).want w.local ≡ Some (part_no i)
      → (i < length (mach key.machine).parts) × ((p : P) → part_left (mach key.machine) i (at_part i deeds) ≡ Some p → fits w.machine p w.local)
  lawful_next mach fits key deeds w i sound chained few same local wish =
      let r : Rules P L = mach key.machine in let order : List ℕ = threads_of deeds in
      let law = chained_from r (start r) deeds chained in
      let long : length order ≡ length deeds = length-map deeds (λ (d : Act P L). d.thread) in
      let ready = sound order w.thread (record { moves = polite_moves r (start r) order law.0; few = omega arith }) in
      let there = ready w.local (part_no i) (law.1.locals w.thread ∙ local) (rw same at wish) in
      grind (arith, slice_get_within (run r order).parts i there.part there.there, fold_sizes r (start r) order, law.1.parts i)

  pub sees_halt : (mach : X → Rules P L) (fits : X → P → L → Type 0) (key : Key X) (n id : ℕ) (w : Work X P L)
      → IsSound (mach key.machine) (fits key.machine) → w.stage ≡ Idle → w.noted ≡ true
      → Allows (Kept mach key) n id (Works w, []) 0 (λ y. y) (Sees mach (step n 0 0 0 none) (Works w, []))
  sees_halt mach fits key n id w lawful idle noted s kept wide at _ =
      let r = kept.3 in let a : Account P L = kept.1 in let y : ℕ = word s.words 0 in
      let (machine, _, _, local, _, _, caused) = (r.each id (Works w) at).0 in let low = caused.1 noted in let (small, one_is, two_is) = r.halting in
      let few = few_deeds r in let most = kept.0 in (
        Works (saw y w),
        keeps,
        tt,
        (most, a, kept.2, halt_moves mach key s.words s.homes s.views a kept.2 id y y w r at idle (omega arith) small one_is (λ e. inl (two_is e)) low (omega arith) one_is),
        (refl, small, ((λ _. low), (λ i wish. let less = (lawful_next mach fits key a.deeds w i lawful r.chained (omega arith) machine local wish).0 in omega arith))),
      )

  pub sets_halt : (mach : X → Rules P L) (key : Key X) (n id : ℕ) (w : Work X P L) → w.stage ≡ Idle
      → Allows (Kept mach key) n id (Works w, []) 0 (λ y. max y w.cause) (Sets (step n 0 w.cause 0 none) (Works w, []))
  sets_halt mach key n id w idle s kept wide at _ =
      let r = kept.3 in let a : Account P L = kept.1 in let y : ℕ = word s.words 0 in let z : ℕ = max y w.cause in
      let (_, _, _, _, _, _, caused) = (r.each id (Works w) at).0 in let (small, one_is, two_is) = r.halting in
      let above : y ≤ z = le-max_left y w.cause in let above' : w.cause ≤ z = le-max_right y w.cause in
      grind (arith, max-eq_left, max-eq_right, halt_moves mach key s.words s.homes s.views a kept.2 id z w.cause w r)
