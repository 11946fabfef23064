-- In polite orders few threads switch in: a thread that did goes on until what is open at its CPU comes to an end.
use Rattle.std.proofs.Common.{◌≡◌, ℕ, ◌+◌, ◌<◌, ◌≤◌, ◌⊎◌, true, eqb, List, [], ◌∷◌, ◌++◌, length, Some, refl, sym, ap, ◌∙◌, subst, inl, inr, arith}
use Rattle.std.proofs.Common.{slice_get, Option, option_map}
use Rattle.std.proofs.lemmas.Bool.Decides.{nat_tests}
use Rattle.cpu_rows.proofs.Common.{eq-eqb, false_from_ne_true, eqb-true, false≢true, lt-ltb, length-append, ThreadNo, PartNo, MOST_PICKS, Input, Rules, World}
use Rattle.cpu_rows.proofs.Common.{start, with_pair, set_here, set_elsewhere, CpuPart, Local, Step, thread_no, Part, front_of, after, rules, number}
use Rattle.cpu_rows.proofs.Common.{front_after, front_yields, yields_for, about_row, Kind, enters, closes, neither, kind_at, kind_of, step_kind, counts}
use Rattle.cpu_rows.proofs.Common.{count_at, SwitchesAreFew, CpuHolds, IsSeated, cpu_planned, limits_of, IsValidInput, standing_of, slice_get-map}
use Rattle.alloc_rules.{proofs.First.served_first, proofs.Runs.served_kept, proofs.Serving.IsServed}
use Rattle.alloc_rules.specs.declared.part.Part.TheVariants.{Front, Heap, Map, Names, Shard}
use Rattle.cpu_rows.specs.Machine.{Cpu}
use Rattle.tc_model.{proofs.MovingFacts.pick_moves, specs.Chains.IsPolite, specs.Chains.IsPoliteMove, specs.Run.pick}
use Rattle.cpu_rows.specs.CpuFront as at
use Rattle.alloc_rules.specs.Machine as machine
use Rattle.cpu_rows.proofs.CpuLaw.{lawful_in}
use Rattle.cpu_rows.proofs.Entering.{CopiesFew, DoesAs, Enters, Executes, HasToEnter, Stays, act_as, cpu_pair, executed, executed_few, runs_open}

-- A thread that switched in at CPU c, where nothing has ended since: it is in its sequence, and all that was executed there is its own.
pub record HasEntered (c ins ends : ℕ) (w : World Part Local) : Type 0 where
  pub cpu : CpuPart
  pub thread : ℕ
  pub local : Local
  pub there : slice_get w.parts c ≡ Some (Cpu cpu)
  pub mine : slice_get w.locals thread ≡ Some local
  pub runs : cpu.running ≡ Some (thread_no thread)
  pub marked : cpu.is_open ≡ true
  pub home : local.seat.cpu.0 ≡ c
  pub has : HasToEnter local.step
  pub few : CopiesFew local.regs.count local.regs.pc
  pub ran : cpu.ran ≤ executed local.regs.count local.regs.pc
  pub one : ins ≤ ends + 1

-- so many acts In and so many ends at a CPU
abbrev pub Balance : ℕ → ℕ → ℕ → World Part Local → Type 0
Balance c ins ends w = (ins ≤ ends) ⊎ HasEntered c ins ends w

-- the part that a thread wants
abbrev place_of : Input → Local → Option PartNo
place_of input l = machine.place_of (front_of input) about_row l

-- the part that a thread wants before it enters is its own CPU
home_by : (input : Input) (l : Local) (s : Step) → l.step ≡ s → HasToEnter s → l.seat.cpu.0 < input.asked.config.cpus → place_of input l ≡ Some (number l.seat.cpu.0)
home_by input l s is has low = grind (arith, lt-ltb)

-- An act of thread t, of this local.
module _ (input : Input) (c ins ends : ℕ) (w : World Part Local) (t : ℕ) (l : Local) (mine : slice_get w.locals t ≡ Some l) (low : l.seat.cpu.0 < input.asked.config.cpus) where
  -- the thread that has entered is t, or another, which the act leaves as it is
  is_own : (e : HasEntered c ins ends w) → e.thread ≡ t → e.local ≡ l
  is_own e same = grind arith

  -- Elsewhere: another thread has entered at c, since this one would be there.
  other_place : (place : PartNo) → place_of input l ≡ Some place → (place.0 ≡ c → ⊥) → (e : HasEntered c ins ends w) → e.thread ≡ t → ⊥
  other_place place want apart e same = grind (arith, home_by, is_own)

  stays_elsewhere : (place : PartNo) (pair : Part × Local) → place_of input l ≡ Some place → (place.0 ≡ c → ⊥) → Balance c ins ends w
      → Balance c (ins + 0) (ends + 0) (with_pair w place.0 t pair)
  stays_elsewhere place pair want apart given = grind (arith, other_place, set_elsewhere)

  -- at CPU c
  module _ (place : PartNo) (want : place_of input l ≡ Some place) (here : place.0 ≡ c) (p : CpuPart) (there : slice_get w.parts c ≡ Some (Cpu p))
      (thread : l.regs.thread.0 ≡ t) (x : CpuPart × Local) where
    abbrev v : World Part Local
    v = with_pair w c t (Cpu x.0, x.1)

    same_cpu : (e : HasEntered c ins ends w) → e.cpu ≡ p
    same_cpu e = let h : Some (Cpu e.cpu) ≡ Some (Cpu p) = sym e.there ∙ there in cc

    runs_own : Some l.regs.thread ≡ Some (thread_no t)
    runs_own = ap (λ n. Some (thread_no n)) thread

    home_of : HasToEnter l.step → l.seat.cpu.0 ≡ c
    home_of has = grind (arith, home_by)

    runs_by : (e : HasEntered c ins ends w) → p.running ≡ Some (thread_no e.thread)
    runs_by e = ap (λ (q : CpuPart). q.running) (sym (same_cpu e)) ∙ e.runs

    open_by : (e : HasEntered c ins ends w) → p.is_open ≡ true
    open_by e = ap (λ (q : CpuPart). q.is_open) (sym (same_cpu e)) ∙ e.marked

    ran_by : (e : HasEntered c ins ends w) → p.ran ≤ executed e.local.regs.count e.local.regs.pc
    ran_by e = subst (λ (q : CpuPart). q.ran ≤ executed e.local.regs.count e.local.regs.pc) (same_cpu e) e.ran

    -- what was begun there goes on
    still_open : (e : HasEntered c ins ends w) → runs_open p ≡ true
    still_open e = grind (arith, executed_few, lt-ltb, open_by, ran_by, runs_by)

    entered_there : Enters p l x → Balance c ins ends w → Balance c (ins + 1) (ends + 0) v
    entered_there a (inl few) = grind (arith, set_here w.parts c (Cpu x.0) (Cpu p) there, set_here w.locals t x.1 l mine, runs_own, home_of a.has)
    entered_there a (inr e) = absurd (false≢true (sym a.closed ∙ still_open e))

    executes_there : Executes p l x → Balance c ins ends w → Balance c (ins + 0) (ends + 0) v
    executes_there a x1 = grind (arith, runs_by, is_own, ran_by, set_here, runs_own, open_by, home_of)

    stays_there : Stays p l x → Balance c ins ends w → Balance c (ins + 0) (ends + 0) v
    stays_there a (inl few) = inl (omega arith)
    stays_there a (inr e) =
        inr (record {
          cpu = x.0;
          thread = e.thread;
          local = e.local;
          there = set_here w.parts c (Cpu x.0) (Cpu p) there;
          mine = set_elsewhere w.locals t e.thread x.1 (λ same. a.away (subst (λ (k : Local). HasToEnter k.step) (is_own e (sym same)) e.has)) ∙ e.mine;
          runs = a.same ∙ runs_by e;
          marked = a.marked ∙ open_by e;
          home = e.home;
          has = e.has;
          few = e.few;
          ran = omega (arith, a.ran, ran_by e);
          one = omega (arith, e.one);
        })

    does_there : (k : Kind) → DoesAs k p l x → Balance c ins ends w → Balance c (ins + counts enters k) (ends + counts closes k) v
    does_there k a b = grind (arith, entered_there, executes_there, stays_there)

-- the kind of a pick, by the thread's place; elsewhere it is neither, whatever is at c
kind_by_place : (r : Rules Part Local) (w : World Part Local) (c t : ℕ) (l : Local) (place : PartNo) → slice_get w.locals t ≡ Some l → r.want l ≡ Some place
    → kind_of r w c t ≡ kind_at c l (Some place) (slice_get w.parts c)
kind_by_place r w c t l place local want = rw (local, want) refl

kind_elsewhere : (c : ℕ) (l : Local) (place : PartNo) (o : Option Part) → (place.0 ≡ c → ⊥) → kind_at c l (Some place) o ≡ neither
kind_elsewhere c l place (Some (Front (at.Cpu p))) apart = rw (false_from_ne_true (eqb place.0 c) (λ is. apart (eqb-true place.0 c is))) refl
kind_elsewhere c l place o apart = refl

-- what is known of every run
abbrev Served : Input → World Part Local → List ℕ → Type 0
Served input w past = IsServed (front_of input) about_row (cpu_planned input.rows input.asked.config) (CpuHolds input.rows input.asked.config) input.asked w past

-- an act at a CPU, as the rules have it
pair_is : (input : Input) (p : CpuPart) (l : Local) (s : Step)
    → (let y = front_after (front_of input) about_row (at.Cpu p) l s in let pair : Part × Local = (Front y.0, y.1) in pair) ≡ (let x = cpu_pair input.rows p l s in (Cpu x.0, x.1))
pair_is input p l s = grind arith

-- and whether it is polite
yields_is : (input : Input) (p : CpuPart) (l : Local) (s : Step) → front_yields (front_of input) (at.Cpu p) l s ≡ yields_for p l s
yields_is input p l s = grind arith

-- a polite pick keeps the balance
module _ (input : Input) (valid : IsValidInput input) (c : ℕ) (w : World Part Local) (past : List ℕ) (served : Served input w past) (t : ℕ) (m : IsPoliteMove (rules input) w t) where
  abbrev r : Rules Part Local
  r = rules input

  there_in : slice_get served.locals t ≡ Some m.local
  there_in = ap (λ (u : World Part Local). slice_get u.locals t) (sym served.is) ∙ m.local_there

  seat : IsSeated input.rows input.asked.config t (standing_of m.local)
  seat = served.front.threads t (standing_of m.local) (slice_get-map standing_of served.locals t ∙ ap (option_map standing_of) there_in)

  pub moves_to : pick r w t ≡ with_pair w m.place.0 t (after input m.part m.local)
  moves_to = pick_moves r w t (record { local = m.local; place = m.place; part = m.part; local_there = m.local_there; wants = m.wants; part_there = m.part_there; goes = m.moves })

  class : m.local.regs.class.0 < length input.rows
  class = (served.works t m.local there_in).shaped.class

  kind_is : kind_of r w c t ≡ kind_at c m.local (Some m.place) (slice_get w.parts c)
  kind_is = kind_by_place r w c t m.local m.place m.local_there m.wants

  module _ (ins ends : ℕ) where
    -- after a pick of this kind
    abbrev Behind : Kind → World Part Local → Type 0
    Behind k u = Balance c (ins + counts enters k) (ends + counts closes k) u

    not_there : (part : Part) → slice_get w.parts c ≡ Some part → (u : World Part Local) → ((e : CpuPart) → part ≡ Cpu e → ⊥) → Balance c ins ends w → Behind neither u
    not_there part there u other given = grind arith

    at_part : (part : Part) → m.place.0 ≡ c → slice_get w.parts c ≡ Some part → machine.yields (front_of input) about_row part m.local ≡ true
        → Balance c ins ends w → Behind (kind_at c m.local (Some m.place) (Some part)) (with_pair w c t (after input part m.local))
    at_part (Front (at.Cpu p)) here there polite b =
        let act = act_as (limits_of input.rows input.asked.config) p m.local valid.rows class seat.regs (sym (yields_is input p m.local m.local.step) ∙ polite) in
        rw (eq-eqb m.place.0 c here) (subst (λ (pair : Part × Local). Behind (step_kind p m.local m.local.step) (with_pair w c t pair)) (sym (pair_is input p m.local m.local.step))
        (does_there input c ins ends w t m.local m.local_there seat.home m.place m.wants here p there (ap (λ (n : ThreadNo). n.0) seat.thread)
        (cpu_pair input.rows p m.local m.local.step) (step_kind p m.local m.local.step) act b))
    at_part (Shard s) here there polite b = not_there (Shard s) there _ (λ e is. cc) b
    at_part (Heap h) here there polite b = not_there (Heap h) there _ (λ e is. cc) b
    at_part (Map x) here there polite b = not_there (Map x) there _ (λ e is. cc) b
    at_part (Names n) here there polite b = not_there (Names n) there _ (λ e is. cc) b
    at_part (Front (at.Domain k d)) here there polite b = not_there (Front (at.Domain k d)) there _ (λ e is. cc) b

    pub keeps : Balance c ins ends w → Behind (kind_of r w c t) (pick r w t)
    keeps b =
        grind (
          arith,
          nat_tests,
          moves_to,
          kind_is,
          at_part m.part,
          kind_elsewhere c m.local m.place,
          stays_elsewhere input c ins ends w t m.local m.local_there seat.home m.place (after input m.part m.local) m.wants,
        )

few_of : (c ins ends : ℕ) (w : World Part Local) → Balance c ins ends w → ins ≤ ends + 1
few_of c ins ends w given = grind arith

switches_from : (input : Input) → IsValidInput input → (c : ℕ) (order past : List ℕ) (w : World Part Local) (ins ends : ℕ) → length past + length order ≤ MOST_PICKS → Served input w past
    → IsPolite (rules input) w order → Balance c ins ends w → ins + count_at enters (rules input) w c order ≤ ends + count_at closes (rules input) w c order + 1
switches_from input valid c [] past w ins ends few served polite balance = omega (arith, few_of c ins ends w balance)
switches_from input valid c (t ∷ ts) past w ins ends few served polite balance =
    let m = polite.0 in
    let kept = served_kept (lawful_in input valid) valid w past t m.local m.place m.part (omega arith) served m.local_there m.wants m.part_there m.moves in
    let next = subst (λ (u : World Part Local). Served input u (past ++ t ∷ [])) (sym (moves_to input valid c w past served t m)) kept in
    let kind : Kind = kind_of (rules input) w c t in
    let rest = switches_from input valid c ts (past ++ t ∷ []) (pick (rules input) w t) (ins + counts enters kind) (ends + counts closes kind) (omega (arith, length-append past (t ∷ []))) next polite.1
    (keeps input valid c w past served t m ins ends balance) in
    omega (arith, rest)

-- in every polite order
pub switches_are_few : (input : Input) → IsValidInput input → (order : List ℕ) → length order ≤ MOST_PICKS
    → IsPolite (rules input) (start (rules input)) order → SwitchesAreFew (rules input) order
switches_are_few input valid order few polite c =
    omega (arith, switches_from input valid c order [] (start (rules input)) 0 0 (omega arith) (served_first (lawful_in input valid) valid) polite (inl (omega arith)))
