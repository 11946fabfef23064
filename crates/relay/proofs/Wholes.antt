-- What a whole run left, put together.
use Rattle.std.proofs.Common.{◌≡◌, ℕ, zero, suc, ◌%◌, ◌<◌, ◌≤◌, false, List, map, [], ◌∷◌, length, Some, refl, sym, ap, ◌∙◌, subst, arith}
use Rattle.std.specs.List.{slice_get}
use Rattle.std.specs.Option.{option_map}
use Rattle.std.proofs.lemmas.List.{length-map, length-append}
use Rattle.std.proofs.lemmas.Option.{slice_get-map, slice_get_past}
use mathlib.Core.Logic.{dite}
use native.Mathlib.Decide.{dec_lt}
use Rattle.tc_model.specs.declared.board.Act.{Act}
use Rattle.tc_model.specs.declared.board.Turn.{Turn}
use Rattle.tc_model.specs.Run.{Rules, run}
use Rattle.tc_model.specs.Chains.{threads_of}
use Rattle.tc_model.specs.Rises.{Has}
use Rattle.tc_model.proofs.Members.{same_some, at_longer}
use Rattle.tc_model.proofs.Picks.{length_run}
use Rattle.tc_model.specs.declared.board.Entry.{Entry}
use Rattle.replay_workers.specs.declared.worker.Worker.{Worker}
use Rattle.replay_workers.specs.Runs.{RanBelow}
use Rattle.part_lock.specs.declared.view.Key.{Key}
use Rattle.part_lock.specs.declared.view.Work.{Work}
use Rattle.part_lock.specs.declared.board.PartHand.{PartHand}
use Rattle.part_lock.specs.Lock.{entry_of}
use Rattle.part_lock.specs.Closes.{IsClosed}
use Rattle.part_lock.specs.Joins.{numbers, lead_of, all_joined}
use Rattle.part_lock.proofs.Ends.{same_lists}
use Rattle.part_lock.proofs.Numbers.{at_seam}
use Rattle.merge_journal.specs.Threads.{threads_in, AreMerged}
use Rattle.relay.specs.Ends.{IsRun}
use Rattle.std.specs.Prelude.{◌==◌}
use Rattle.std.proofs.lemmas.Bool.Decides.{nat_tests}
use Rattle.relay.specs.declared.machine.Relay.{Relay}
use Rattle.relay.specs.declared.machine.Runner.{Runner}
use Rattle.relay.specs.Relay.{relay_want, lane_no}

threads_same : {P L : Type 0} (acts : List (Act P L)) → threads_in (map entry_of acts) ≡ threads_of acts
threads_same [] = refl
threads_same (a ∷ as') = ap (λ (l : List ℕ). a.thread ∷ l) (threads_same as')

pub length_numbers : (n : ℕ) → length (numbers n) ≡ n
length_numbers zero = refl
length_numbers (suc n) = let more = length_numbers n in omega (arith, length-append (numbers n) (n ∷ []))

number_at : (n i : ℕ) → i < n → slice_get (numbers n) i ≡ Some i
number_at zero i less = absurd (omega arith)
number_at (suc n) i less = grind (arith, number_at n i, at_longer, length_numbers, at_seam)

pub there_is : {A : Type 0} (xs : List A) (i : ℕ) → i < length xs → (a : A) × (slice_get xs i ≡ Some a)
there_is [] i h = absurd (omega arith)
there_is (x ∷ xs) zero h = (x, refl)
there_is (x ∷ xs) (suc i) h = there_is xs i (omega arith)

pub map_both : {A B C : Type 0} (f : A → B) (g : B → C) (xs : List A) → map g (map f xs) ≡ map (λ (x : A). g (f x)) xs
map_both f g [] = refl
map_both f g (x ∷ xs) = ap (λ (l : List _). g (f x) ∷ l) (map_both f g xs)

-- as many threads as entries, and as many entries as acts
pub many : {lists : List (List Entry)} {threads : List ℕ} (m : AreMerged lists threads) → length threads ≡ length m.entries
many m = ap length m.are ∙ length-map m.entries (λ (e : Entry). e.thread.0)

pub few_of : {P L : Type 0} {lists : List (List Entry)} {threads : List ℕ} (most events : ℕ) (acts : List (Act P L)) (m : AreMerged lists threads)
    → m.entries ≡ map entry_of acts → length acts ≤ most → most ≡ events → length threads ≤ events
few_of most events acts m is few same = let n = ap length is ∙ length-map acts entry_of in omega (arith, many m, n, few, same)

module _ {X P L : Type 0} where
  -- the seats that were joined are as many as have a seat
  pub all_there : (key : Key X) (n : ℕ) (hands : List (PartHand X P L)) (ws : List (Work X P L))
      → map (λ (w : Work X P L). w.thread) ws ≡ map (λ (h : PartHand X P L). h.thread.0) hands → length hands ≡ n
      → length (all_joined {P = P} {L = L} (lead_of key (numbers n)) ws).kept ≡ length (numbers n)
  all_there key n hands ws threads long = let a = length-map ws (λ (w : Work X P L). w.thread) in let b = length-map hands (λ (h : PartHand X P L). h.thread.0) in let c = ap length threads in let d = length_numbers n in omega arith

  -- workers' threads stay
  pub threads_stay : {B : Type 0} (turns : PartHand X P L → Turn → PartHand X P L → Type 0) (fits : PartHand X P L → Type 0) (before after : List (Worker B (PartHand X P L))) → length before ≡ length after → RanBelow turns (λ (h : PartHand X P L). h.thread) fits (length before) before after
      → map (λ (w : Worker B (PartHand X P L)). w.hand.thread.0) before ≡ map (λ (h : PartHand X P L). h.thread.0) (map (λ (w : Worker B (PartHand X P L)). w.hand) after)
  threads_stay turns fits [] [] long ran = refl
  threads_stay turns fits [] (a ∷ as') long ran = absurd (omega arith)
  threads_stay turns fits (b ∷ bs) [] long ran = absurd (omega arith)
  threads_stay {B} turns fits (b ∷ bs) (a ∷ as') long ran =
      let same : a.hand.thread ≡ b.hand.thread = (ran 0 b (omega arith)).0.thread in
      let more = threads_stay turns fits bs as' (omega arith) (λ i d less. ran (suc i) d (omega arith)) in
      λ j. (sym same j).0 ∷ more j

  -- the locals are those of the run
  pub locals_of : (r : Rules P L) (n : ℕ) (order : List ℕ) (ws : List (Work X P L)) → length r.locals ≡ n → map (λ (w : Work X P L). w.thread) ws ≡ numbers n
      → ((w : Work X P L) → Has ws w → slice_get (run r order).locals w.thread ≡ Some w.local) → map (λ (w : Work X P L). w.local) ws ≡ (run r order).locals
  locals_of r n order ws long threads seats =
      let many = length-map ws (λ (w : Work X P L). w.thread) in let count = ap length threads in let d = length_numbers n in
      let wide = length-map ws (λ (w : Work X P L). w.local) in let size = length_run r order in
      same_lists (map (λ (w : Work X P L). w.local) ws) (run r order).locals (λ i. dite (dec_lt i n)
      (λ less.
      let w = there_is ws i (omega arith) in
      let thread : w.0.thread ≡ i = same_some w.0.thread i (sym (slice_get-map (λ (w : Work X P L). w.thread) ws i ∙ ap (option_map (λ (w : Work X P L). w.thread)) w.1) ∙ (ap (λ (l : List ℕ). slice_get l i) threads ∙ number_at n i less)) in
      (slice_get-map (λ (w : Work X P L). w.local) ws i ∙ ap (option_map (λ (w : Work X P L). w.local)) w.1) ∙ sym (subst (λ (k : ℕ). slice_get (run r order).locals k ≡ Some w.0.local) thread (seats w.0 (i, w.1))))
      (λ past. slice_get_past (map (λ (w : Work X P L). w.local) ws) i (omega arith) ∙ sym (slice_get_past (run r order).locals i (omega arith))))

  pub whole : (mach : X → Rules P L) (key : Key X) (n : ℕ) (ws : List (Work X P L)) (parts : List P) (locals : List L) (entries : List (List Entry)) (order : List ℕ) → length (mach key.machine).locals ≡ n → map (λ (w : Work X P L). w.thread) ws ≡ numbers n
      → locals ≡ map (λ (w : Work X P L). w.local) ws → IsClosed mach key (all_joined (lead_of key (numbers n)) ws) parts entries → AreMerged entries order → IsRun (mach key.machine) parts locals order
  whole mach key n ws parts locals entries order long threads locals_is closed m =
      let is : order ≡ threads_of closed.acts = m.are ∙ (ap threads_in (closed.merged m.entries m.merge) ∙ threads_same closed.acts) in
      rw is (grind (arith, locals_of))

-- a runner with acts left wants a lane
pub wants_lane : (m : Relay) (l : Runner) → 0 < l.left → relay_want m l ≡ Some (lane_no (l.left % m.lanes))
wants_lane m l some = let e : (l.left == 0) ≡ false = grind (arith, nat_tests) in rw e refl
