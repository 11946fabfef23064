-- What the last answers of workers say of their locals and of the causes that their seats met.
use Rattle.std.proofs.Common.{◌≡◌, ◌≢◌, ℕ, zero, suc, ◌+◌, ◌-◌, ◌≤◌, true, false, List, [], ◌∷◌, All, map, length, get_or, Option, Some, None, refl, sym, ap, ◌∙◌, subst, arith}
use Rattle.std.specs.Option.{option_map}
use Rattle.std.proofs.lemmas.List.{length-map}
use Rattle.std.proofs.lemmas.List.Elements.{All-map, All-head, All-tail}
use Rattle.std.proofs.lemmas.Option.{slice_get-map, slice_get_within, get_or_from_slice_get}
use Rattle.atomic_table.specs.Seated.{TableId}
use Rattle.tc_model.specs.declared.board.Halt.TheVariants.{Memory, Full}
use Rattle.tc_model.specs.declared.board.Turn.{Turn}
use Rattle.tc_model.specs.declared.board.Turn.TheVariants.{Moved, NotYet, Held, Ended, Halted}
use Rattle.tc_model.specs.Run.{Rules}
use Rattle.tc_model.specs.Rises.{Has}
use Rattle.tc_model.proofs.Members.{same_some}
use Rattle.replay_workers.specs.declared.worker.Worker.{Worker}
use Rattle.replay_workers.specs.Runs.{Turns as Taken, is_over, RanBelow, Done, is_any_halted, halt_among, halt_of, lasts_of, IsReady as IsWorkerReady}
use Rattle.part_lock.specs.declared.view.Key.{Key}
use Rattle.part_lock.specs.declared.view.Work.{Work}
use Rattle.part_lock.specs.declared.view.View.{View}
use Rattle.part_lock.specs.declared.view.View.TheVariants.{Leads, Works, Spent}
use Rattle.part_lock.specs.declared.board.PartHand.{PartHand}
use Rattle.part_lock.specs.Lock.{Mine, flag, starved, sum_of}
use Rattle.part_lock.specs.Turns.{Ready, IsFresh, halt_number}
use Rattle.part_lock.specs.Joins.{Fit, Turned, at_rest}
use Rattle.relay.specs.Ends.{Says, AreLasts}
use Rattle.replay_workers.proofs.Overs.{only_full, over_all}
use Rattle.relay.proofs.Wholes.{there_is}

-- the cause that a seat met, set or saw, and the one that an answer names; 0 for none
abbrev pub cause_in : {X P L : Type 0} → View X P L → ℕ
cause_in (Leads m) = 0
cause_in (Works w) = w.cause
cause_in Spent = 0

abbrev pub cause_told : Turn → ℕ
cause_told Moved = 0
cause_told NotYet = 0
cause_told Held = 0
cause_told Ended = 0
cause_told (Halted cause) = halt_number cause

not_over : (answer : Turn) → is_over answer ≡ false → cause_told answer ≡ 0
not_over answer is = grind (arith)

module _ {X P L : Type 0} (mach : X → Rules P L) (table : TableId) (key : Key X) where
  hand_ready : (n : ℕ) (h k : PartHand X P L) (l m : Turn) → Taken (Turned mach key) n h l k m → Ready key h.thread.0 h.local h.seat.me → Ready key k.thread.0 k.local k.seat.me
  hand_ready zero h k l m t ready = subst (λ (j : PartHand X P L). Ready key j.thread.0 j.local j.seat.me) t.0 ready
  hand_ready (suc n) h k l m t ready = let turn = t.4 in subst (λ z. Ready key z.0 k.local k.seat.me) (sym turn.0) turn.2

  -- a local that stays and wants a part hasn't ended
  wants : {A : Type 0} (a : A) (l l' : L) (want : L → Option A) → want l ≡ Some a → l' ≡ l → want l' ≢ None
  wants a l l' want is same none = absurd (let e : Some a ≡ None = sym is ∙ (sym (ap want same) ∙ none) in cc)

  turn_says : (h k : PartHand X P L) (m : Turn) → Ready key h.thread.0 h.local h.seat.me → Turned mach key h m k → Says (mach key.machine) k.local m
  turn_says h k Moved ready turn = tt
  turn_says h k NotYet ready turn = tt
  turn_says h k Held ready turn = tt
  turn_says h k Ended ready turn = let said = turn.3 ready.0 ready.1 in subst (λ (x : L). (mach key.machine).want x ≡ None) (sym said.1) said.0
  turn_says h k (Halted cause) ready turn = grind (arith, turn.3 ready.0 ready.1, wants)

  none_yet : (h : PartHand X P L) (w : Work X P L) → h.seat.me ≡ at_rest w → cause_in h.seat.me.0 ≡ 0 → w.cause ≡ 0
  none_yet h w knows bare = sym (ap (λ (me : Mine X P L). cause_in me.0) knows) ∙ bare

  cause_left : (k : PartHand X P L) (w : Work X P L) (n m : ℕ) → k.seat.me ≡ at_rest w → w.cause ≡ n → n ≡ m → cause_in k.seat.me.0 ≡ m
  cause_left k w n m knows is same = ap (λ (me : Mine X P L). cause_in me.0) knows ∙ (is ∙ same)

  turn_cause : (h k : PartHand X P L) (m : Turn) → Ready key h.thread.0 h.local h.seat.me → Turned mach key h m k → cause_in h.seat.me.0 ≡ 0 → cause_in k.seat.me.0 ≡ cause_told m
  turn_cause h k Moved ready turn bare = let left = (turn.3 ready.0 ready.1).1.1 in cause_left k _ 0 0 left.4 (none_yet h ready.0 ready.1.0 bare) refl
  turn_cause h k NotYet ready turn bare = cause_left k _ 0 0 (turn.3 ready.0 ready.1).1.2 (none_yet h ready.0 ready.1.0 bare) refl
  turn_cause h k Held ready turn bare = cause_left k _ 0 0 (turn.3 ready.0 ready.1).1.2 (none_yet h ready.0 ready.1.0 bare) refl
  turn_cause h k Ended ready turn bare = cause_left k _ 0 0 (turn.3 ready.0 ready.1).2 (none_yet h ready.0 ready.1.0 bare) refl
  turn_cause h k (Halted cause) ready turn bare = grind (arith, turn.3 ready.0 ready.1, cause_left k)

  -- what the last answer of a hand's turns says, where the first one hadn't come
  hand_says : (n : ℕ) (h k : PartHand X P L) (l m : Turn) → l ≡ NotYet → Taken (Turned mach key) n h l k m → Ready key h.thread.0 h.local h.seat.me → Says (mach key.machine) k.local m
  hand_says zero h k l m first t ready = subst (Says (mach key.machine) k.local) (sym first ∙ t.1) tt
  hand_says (suc n) h k l m first t ready = turn_says t.0 k m (hand_ready n h t.0 l t.1 t.2 ready) t.4

  hand_cause : (n : ℕ) (h k : PartHand X P L) (l m : Turn) → l ≡ NotYet → Taken (Turned mach key) n h l k m → Ready key h.thread.0 h.local h.seat.me
      → cause_in h.seat.me.0 ≡ 0 → cause_in k.seat.me.0 ≡ cause_told m
  hand_cause zero h k l m first t ready bare = sym (ap (λ (j : PartHand X P L). cause_in j.seat.me.0) t.0) ∙ (bare ∙ sym (ap cause_told (sym t.1 ∙ first)))
  hand_cause (suc n) h k l m first t ready bare =
      turn_cause t.0 k m (hand_ready n h t.0 l t.1 t.2 ready) t.4 (hand_cause n h t.0 l t.1 first t.2 ready bare ∙ not_over t.1 t.3)

  -- of each worker: what its last answer says of its local, and that it names the cause that its seat met
  pub all_say : {B : Type 0} (before after : List (Worker B (PartHand X P L))) → length before ≡ length after → All (IsWorkerReady (Fit table key)) before
      → All (λ (w : Worker B (PartHand X P L)). IsFresh w.hand.seat.me) before
      → RanBelow (Turned mach key) (λ h. h.thread) (Fit table key) (length before) before after
      → All (λ (w : Worker B (PartHand X P L)). Says (mach key.machine) w.hand.local w.last) after × All (λ (w : Worker B (PartHand X P L)). cause_in w.hand.seat.me.0 ≡ cause_told w.last) after
  all_say before after long ready fresh ran = (
    (λ k d less. let r = (ran k d (omega arith)).0 in let first = ready k d (omega arith) in hand_says r.count (get_or before k d).hand (get_or after k d).hand (get_or before k d).last (get_or after k d).last first.0 r.by_turns first.1.1),
    (λ k d less. let r = (ran k d (omega arith)).0 in let first = ready k d (omega arith) in let new = fresh k d (omega arith) in
        hand_cause r.count (get_or before k d).hand (get_or after k d).hand (get_or before k d).last (get_or after k d).last first.0 r.by_turns first.1.1 (ap (λ (me : Mine X P L). cause_in me.0) new.1 ∙ new.2)),
  )

module _ {X P L : Type 0} where
  -- the causes of the seats that were joined are those that the last answers name
  pub causes_of : {B : Type 0} (after : List (Worker B (PartHand X P L))) (works : List (Work X P L))
      → map at_rest works ≡ map (λ (h : PartHand X P L). h.seat.me) (map (λ (w : Worker B (PartHand X P L)). w.hand) after)
      → All (λ (w : Worker B (PartHand X P L)). cause_in w.hand.seat.me.0 ≡ cause_told w.last) after
      → map (λ (w : Work X P L). w.cause) works ≡ map cause_told (lasts_of after)
  causes_of [] [] views told = refl
  causes_of [] (w ∷ ws) views told = absurd (cc)
  causes_of (a ∷ as') [] views told = absurd (cc)
  causes_of {B} (a ∷ as') (w ∷ ws) views told =
      let here : at_rest w ≡ a.hand.seat.me = cc in
      let one : w.cause ≡ cause_told a.last = ap (λ (me : Mine X P L). cause_in me.0) here ∙ All-head (λ (w : Worker B (PartHand X P L)). cause_in w.hand.seat.me.0 ≡ cause_told w.last) a as' told in
      let more = causes_of as' ws (cc) (All-tail (λ (w : Worker B (PartHand X P L)). cause_in w.hand.seat.me.0 ≡ cause_told w.last) a as' told) in
      λ i. one i ∷ more i

  one_fed : (w : Work X P L) (ws : List (Work X P L)) (n : ℕ) → flag (n - 1) ≡ 0 → w.cause ≡ n → sum_of starved ws ≡ 0 → sum_of starved (w ∷ ws) ≡ 0
  one_fed w ws n small is more = let here : flag (w.cause - 1) ≡ 0 = ap (λ (k : ℕ). flag (k - 1)) is ∙ small in omega arith

  none_starved : (lasts : List Turn) (works : List (Work X P L)) → map (λ (w : Work X P L). w.cause) works ≡ map cause_told lasts → is_any_halted Memory lasts ≡ false → sum_of starved works ≡ 0
  none_starved [] [] same none = refl
  none_starved [] (w ∷ ws) same none = absurd (cc)
  none_starved (t ∷ ts) [] same none = absurd (cc)
  none_starved (Moved ∷ ts) (w ∷ ws) same none = one_fed w ws 0 refl (cc) (none_starved ts ws (cc) none)
  none_starved (NotYet ∷ ts) (w ∷ ws) same none = one_fed w ws 0 refl (cc) (none_starved ts ws (cc) none)
  none_starved (Held ∷ ts) (w ∷ ws) same none = one_fed w ws 0 refl (cc) (none_starved ts ws (cc) none)
  none_starved (Ended ∷ ts) (w ∷ ws) same none = one_fed w ws 0 refl (cc) (none_starved ts ws (cc) none)
  none_starved (Halted Full ∷ ts) (w ∷ ws) same none = one_fed w ws 1 refl (cc) (none_starved ts ws (cc) none)
  none_starved (Halted Memory ∷ ts) (w ∷ ws) same none = absurd (cc)

  next_met : (w : Work X P L) (ws : List (Work X P L)) → (u : Work X P L) × Has ws u × (u.cause ≡ 1) → (u : Work X P L) × Has (w ∷ ws) u × (u.cause ≡ 1)
  next_met w ws met = (met.0, (suc met.1.0, met.1.1), met.2)

  met_full : (lasts : List Turn) (works : List (Work X P L)) → map (λ (w : Work X P L). w.cause) works ≡ map cause_told lasts
      → is_any_halted Full lasts ≡ true → (w : Work X P L) × Has works w × (w.cause ≡ 1)
  met_full [] works same is = absurd (cc)
  met_full (t ∷ ts) [] same is = absurd (cc)
  met_full (Moved ∷ ts) (w ∷ ws) same is = next_met w ws (met_full ts ws (cc) is)
  met_full (NotYet ∷ ts) (w ∷ ws) same is = next_met w ws (met_full ts ws (cc) is)
  met_full (Held ∷ ts) (w ∷ ws) same is = next_met w ws (met_full ts ws (cc) is)
  met_full (Ended ∷ ts) (w ∷ ws) same is = next_met w ws (met_full ts ws (cc) is)
  met_full (Halted Memory ∷ ts) (w ∷ ws) same is = next_met w ws (met_full ts ws (cc) is)
  met_full (Halted Full ∷ ts) (w ∷ ws) same is = (w, (0, refl), cc)

-- where a worker met the limit and none lacked memory, all tickets are used
pub all_used : {X P L : Type 0} (lasts : List Turn) (works : List (Work X P L)) (events acts : ℕ) → halt_among lasts ≡ Some Full → map (λ (w : Work X P L). w.cause) works ≡ map cause_told lasts
    → ((w : Work X P L) → Has works w → w.cause ≡ 1 → events ≤ acts + sum_of starved works) → acts ≤ events → acts ≡ events
all_used lasts works events acts halt same filled few =
    let is = only_full (is_any_halted Memory lasts) (is_any_halted Full lasts) halt in
    let none = none_starved lasts works same is.0 in
    let met = met_full lasts works same is.1 in
    let most = filled met.0 met.1 met.2 in omega arith

-- where no worker was halted, each script has ended
pub all_ended : {B X P L : Type 0} (r : Rules P L) (ws : List (Worker B (PartHand X P L))) → Done ws → halt_of ws ≡ None
    → All (λ (w : Worker B (PartHand X P L)). Says r w.hand.local w.last) ws → All (λ (w : Worker B (PartHand X P L)). r.want w.hand.local ≡ None) ws
all_ended r ws done none say = λ k d less. subst (Says r (get_or ws k d).hand.local) (over_all ws done none k d less) (say k d less)

-- the last answers, beside the locals
pub lasts_are : {B X P L : Type 0} (r : Rules P L) (ws : List (Worker B (PartHand X P L))) → Done ws
    → All (λ (w : Worker B (PartHand X P L)). Says r w.hand.local w.last) ws
    → AreLasts r (map (λ (w : Worker B (PartHand X P L)). w.hand.local) ws) (lasts_of ws)
lasts_are {B} {X} {P} {L} r ws done say =
    let last : Worker B (PartHand X P L) → Turn = λ w. w.last in let local : Worker B (PartHand X P L) → L = λ w. w.hand.local in
    let many = length-map ws last in let wide = length-map ws local in record {
      many = omega arith;
      says = λ t l answer at told.
          let inside = slice_get_within (map local ws) t l at in
          let w = there_is ws t (omega arith) in
          let here = get_or_from_slice_get ws t w.0 w.0 w.1 in
          let said = subst (λ (v : Worker B (PartHand X P L)). Says r v.hand.local v.last) here (say t w.0 (omega arith)) in
          let its : w.0.hand.local ≡ l = same_some w.0.hand.local l (sym (slice_get-map local ws t ∙ ap (option_map local) w.1) ∙ at) in
          let the : w.0.last ≡ answer = same_some w.0.last answer (sym (slice_get-map last ws t ∙ ap (option_map last) w.1) ∙ told) in
          subst (Says r l) the (subst (λ (x : L). Says r x w.0.last) its said);
      over = λ none. All-map (λ (t : Turn). t ≡ Ended) last ws (over_all ws done none);
    }
