-- After any turns a hand fits, and its seat can be joined.
use Rattle.std.proofs.Common.{◌≡◌, ℕ, zero, suc, List, All, [], ◌∷◌, length, get_or, refl, sym, ◌∙◌, subst, arith}
use Rattle.std.proofs.lemmas.List.{append-nil}
use Rattle.std.proofs.Math.Seq.{append_snoc}
use Rattle.atomic_table.specs.Seated.{TableId}
use Rattle.tc_model.specs.declared.board.Turn.{Turn}
use Rattle.tc_model.specs.Run.{Rules}
use Rattle.replay_workers.specs.declared.worker.Worker.{Worker}
use Rattle.replay_workers.specs.Runs.{Turns as Taken, RanBelow, IsReady as IsWorkerReady}
use Rattle.part_lock.specs.declared.view.Key.{Key}
use Rattle.part_lock.specs.declared.view.Lead.{Lead}
use Rattle.part_lock.specs.declared.view.Work.{Work}
use Rattle.part_lock.specs.declared.board.PartHand.{PartHand}
use Rattle.part_lock.specs.Lock.{Mine, IsMain, one_joined}
use Rattle.part_lock.specs.Turns.{IsReady, Ready}
use Rattle.part_lock.specs.Joins.{JoinsAll, Fit, Turned}

module _ {X P L : Type 0} (mach : X → Rules P L) (table : TableId) (key : Key X) where
  hand_fits : (n : ℕ) (h k : PartHand X P L) (l m : Turn) → Taken (Turned mach key) n h l k m → Fit table key h → Fit table key k
  hand_fits zero h k l m t fit = subst (Fit table key) t.0 fit
  hand_fits (suc n) h k l m t fit =
      let j : PartHand X P L = t.0 in let before = hand_fits n h j l t.1 t.2 fit in let turn = t.4 in
      (turn.1 ∙ before.0, subst (λ z. Ready key z.0 k.local k.seat.me) (sym turn.0) turn.2)

  -- the hands of workers that ran fit, whatever their last answer was
  pub workers_fit : {B : Type 0} (before after : List (Worker B (PartHand X P L))) → length before ≡ length after
      → All (IsWorkerReady (Fit table key)) before → RanBelow (Turned mach key) (λ h. h.thread) (Fit table key) (length before) before after
      → All (λ (w : Worker B (PartHand X P L)). Fit table key w.hand) after
  workers_fit before after long ready ran k d less =
      let r = (ran k d (omega arith)).0 in
      hand_fits r.count (get_or before k d).hand (get_or after k d).hand (get_or before k d).last (get_or after k d).last r.by_turns (ready k d (omega arith)).1

module _ {X P L : Type 0} (key : Key X) where
  pub joins_none : (me : Mine X P L) → JoinsAll key me [] me
  joins_none me m is = record { works = []; main = rw append-nil is; views = refl; threads = refl; locals = refl }

  pub joins_more : (me me' me'' : Mine X P L) (h : PartHand X P L) (hs : List (PartHand X P L)) → Ready key h.thread.0 h.local h.seat.me
      → ((m : Lead X P L) (w : Work X P L) → IsMain key m me → IsReady key h.thread.0 h.local w h.seat.me → IsMain key (one_joined m w) me')
      → JoinsAll key me' hs me'' → JoinsAll key me (h ∷ hs) me''
  joins_more me me' me'' h hs ready next joins m is =
      let w : Work X P L = ready.0 in let more = joins (one_joined m w) (next m w is ready.1) in record {
        works = w ∷ more.works;
        main = rw (append_snoc m.kept w more.works) at more.main;
        views = λ j. sym ready.1.0 j ∷ more.views j;
        threads = λ j. ready.1.3 j ∷ more.threads j;
        locals = λ j. ready.1.4 j ∷ more.locals j;
      }
