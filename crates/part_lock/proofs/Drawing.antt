-- A seat draws a ticket.
use Rattle.std.proofs.Common.{◌≡◌, ℕ, ◌+◌, ◌-◌, ◌%◌, ◌^◌, List, length, set, refl, sym, ap, ◌∙◌, subst, arith, length-set}
use Rattle.std.proofs.lemmas.List.{get_or-set_other, get_or-set_same}
use mathlib.Core.Option.{none}
use mathlib.Core.Logic.{dite}
use native.Mathlib.Decide.{dec_lt, dec_le}
use Rattle.atomic_table.specs.Table.{step, keeps, Allows}
use Rattle.tc_model.specs.Run.{Rules}
use Rattle.part_lock.specs.declared.view.Key.{Key}
use Rattle.part_lock.specs.declared.view.Stall.{Stall}
use Rattle.part_lock.specs.declared.view.Hold.{Hold}
use Rattle.part_lock.specs.declared.view.Stage.TheVariants.{Taken, Drawn}
use Rattle.part_lock.specs.declared.view.Work.{Work}
use Rattle.part_lock.specs.declared.view.View.TheVariants.{Works}
use Rattle.part_lock.specs.Lock.{ticket_word, part_word, Place, held, flag, Account, Holding, HasOut, drawn_in, Kept, at_stage, full, Draws}
use Rattle.part_lock.proofs.Facts.{put, put_here, put_else, part_from, thread_from}
use Rattle.part_lock.proofs.Later.{word, mod_small, Goes, view_stays, sums, turned_ties, narrow}

module _ {X P L : Type 0} where
  pub draws_ticket : (mach : X → Rules P L) (key : Key X) (n id : ℕ) (w : Work X P L) (h : Hold P) (c : List (ℕ × Stall P)) → w.stage ≡ Taken h → w.cause ≡ 0
      → Allows (Kept mach key) n id (Works w, c) ticket_word (λ y. (y + 1) % 2 ^ 64) (Draws (step n ticket_word 1 0 none) (Works w, c))
  draws_ticket mach key n id w h c taken fresh_is s kept wide at _ =
      let r = kept.3 in let a : Account P L = kept.1 in let threads : List ℕ = kept.2 in
      let y : ℕ = word s.words ticket_word in let few = kept.0 in let le = narrow r in let size = r.sized in
      let mine = r.each id (Works w) at in let (machine, limit, named, local, made, saw, caused) = mine.0 in
      let has : Holding mach key.machine key.events s.words (length s.homes) a threads id w.thread h = rw taken at mine.2 in
      let words' : List ℕ = set s.words ticket_word (y + 1) in
      let first : word words' ticket_word ≡ y + 1 = get_or-set_same s.words ticket_word (y + 1) 0 (omega arith) in
      let zeroth : word words' 0 ≡ word s.words 0 = get_or-set_other s.words ticket_word 0 (y + 1) 0 (λ e. omega arith) in
      let other : (k : ℕ) → word words' (part_word k) ≡ word s.words (part_word k) = λ k. get_or-set_other s.words ticket_word (part_word k) (y + 1) 0 (λ e. omega arith) in
      let none_drawn : drawn_in w.stage ≡ 0 = ap drawn_in taken in
      let low : flag w.cause ≡ 0 = ap flag fresh_is in let low' : flag (w.cause - 1) ≡ 0 = ap (λ (z : ℕ). flag (z - 1)) fresh_is in
      let same : y + 1 ≡ (y + 1) % 2 ^ 64 = sym (mod_small (y + 1) (omega arith)) in
      subst (Goes mach key s id (Works w, c) ticket_word (Draws (step n ticket_word 1 0 none) (Works w, c))) same (dite (dec_lt y w.events)
      (λ under.
      let u : Work X P L = at_stage (Drawn h y) w in let owner : ℕ → Place = put a.owner y (held id) in let t = sums s.views id w u at in (
        Works u,
        keeps,
        tt,
        (
          few,
          record a { owner = owner },
          threads,
          turned_ties mach key s.words words' s.homes s.homes s.views a threads id u a.holder owner w refl at r record {
            long = length-set s.words ticket_word (y + 1);
            wide = refl;
            halt = omega arith;
            next = omega arith;
            home = λ k less zero. r.at_home k less (sym (other k) ∙ zero);
            away = λ k less full. view_stays (HasOut k) s.views id (Works w) (Works u) (a.holder k) at (λ o. rw taken at o) (r.away k less (λ z. full (other k ∙ z)));
            holds = λ j k apart less h f. (h, other k);
            owned = λ t less. put_else a.owner y (held id) t (λ e. omega arith);
            mine = (
              (machine, limit, named, local, made, saw, (caused.0, (λ e. omega arith), (λ e. omega arith))),
              mine.1,
              (
                (has.0, has.1, other h.slot ∙ has.2, has.3, has.4),
                put_here a.owner y (held id),
                omega arith,
                omega arith,
                (λ d i. let o = part_from a.deeds h.slot d i in (r.owned o.0.0 d o.0.1).1),
                (λ d i. let o = thread_from a.deeds w.thread d i in (r.owned o.0.0 d o.0.1).1),
                fresh_is,
              ),
            );
            bounded = omega arith;
            complete = λ k less low. dite (dec_le k y) (λ old. let g = r.complete k old low in omega arith) (λ new. let g = r.complete y (omega arith) (omega arith) in omega arith);
            halting = (omega arith, (λ e. omega arith), (λ e. omega arith));
          },
        ),
        ((λ _. rw taken refl), (λ high. absurd (omega arith))),
      ))
      (λ past.
      let u : Work X P L = full w in let t = sums s.views id w u at in (
        Works u,
        keeps,
        tt,
        (
          few,
          a,
          threads,
          turned_ties mach key s.words words' s.homes s.homes s.views a threads id u a.holder a.owner w refl at r record {
            long = length-set s.words ticket_word (y + 1);
            wide = refl;
            halt = omega arith;
            next = omega arith;
            home = λ k less zero. r.at_home k less (sym (other k) ∙ zero);
            away = λ k less full. view_stays (HasOut k) s.views id (Works w) (Works u) (a.holder k) at (λ o. o) (r.away k less (λ z. full (other k ∙ z)));
            holds = λ j k apart less h f. (h, other k);
            owned = λ t less. refl;
            mine = grind (arith, other h.slot);
            bounded = omega arith;
            complete = λ k less low. let g = r.complete k (omega arith) low in omega arith;
            halting = (omega arith, (λ e. omega arith), (λ e. omega arith));
          },
        ),
        ((λ under. absurd (past under)), (λ _. refl)),
      )))
