-- What one step leaves as it was for the other seats.
use Rattle.std.proofs.Common.{Bool, refl, length, Some, ◌≡◌, ◌≢◌, ℕ, ◌+◌, ◌%◌, ◌^◌, ◌<◌, length-append, append_assoc}
use Rattle.std.proofs.Common.{◌≤◌, List, map, [], ◌++◌, set, get_or, sym, ap, ◌∙◌, ⊎_elim, arith}
use Rattle.std.proofs.lemmas.List.{set-get_or, get_or-set_other, get_or-set_same, append-nil}
use mathlib.Core.Option.{Option, some, some-injective}
use mathlib.Core.Logic.{dite}
use native.Mathlib.Decide.{ℕ_discrete}
use lib.ListN.{get_elem?}
use Rattle.atomic_table.specs.Table.{Valid, stepped, carried_after, State, keeps}
use Rattle.atomic_table.specs.Table as table
use Rattle.atomic_table.proofs.Lists.{at_set, set_else, set_again}
use Rattle.tc_model.specs.declared.board.Act.{Act}
use Rattle.tc_model.specs.Run.{Rules}
use Rattle.tc_model.specs.Rises.{Has}
use Rattle.part_lock.specs.declared.view.Key.{Key}
use Rattle.part_lock.specs.declared.view.Stall.{Stall}
use Rattle.part_lock.specs.declared.view.Hold.{Hold}
use Rattle.part_lock.specs.declared.view.Visit.{Visit}
use Rattle.part_lock.specs.declared.view.Stage.{Stage}
use Rattle.part_lock.specs.declared.view.Stage.TheVariants.{Idle, Taken, Drawn}
use Rattle.part_lock.specs.declared.view.Work.{Work}
use Rattle.part_lock.specs.declared.view.View.{View}
use Rattle.part_lock.specs.declared.view.View.TheVariants.{Leads, Works, Spent}
use Rattle.part_lock.specs.Lock.{ticket_word, part_word, Place, lies, held, entries_at, at_part, of_thread, part_left, local_left, Account, entry_of, Saw, Caused, Knows, Holding}
use Rattle.part_lock.specs.Lock.{StageFits, Fits, Mine, Out, Names, one, ended, lost, starved, total, LeadsAt, Halting, Ties, Kept}
use Rattle.part_lock.proofs.Facts.{set_at, few_threads, total_set, ended_le}

abbrev pub word : List ℕ → ℕ → ℕ
word ws i = get_or ws i 0

pub held_same : (a b : ℕ) → held a ≡ held b → a ≡ b
held_same a b e = cc

pub lies_held : (a b : ℕ) → lies a ≡ held b → ⊥
lies_held a b e = cc

pub mod_small : (y : ℕ) → y < 2 ^ 64 → y % 2 ^ 64 ≡ y
mod_small y h = omega arith

module _ {X P L : Type 0} (mach : X → Rules P L) (x : X) (events : ℕ) (words words' : List ℕ) (slots : ℕ) (a a' : Account P L) (threads threads' : List ℕ) where
  -- the words and the deeds only grow
  pub record Later : Type 0 where
    pub halt : word words 0 ≤ word words' 0
    pub next : word words ticket_word ≤ word words' ticket_word
    pub grew : (i : ℕ) → (more : List (Act P L)) × (at_part i a'.deeds ≡ at_part i a.deeds ++ more)
    pub listed : (t : ℕ) → Has threads t → Has threads' t

  -- what the seat j knows stays as it is
  pub record Same (j : ℕ) : Type 0 where
    pub holds : (k : ℕ) → k < slots → a.holder k ≡ j → word words (part_word k) ≢ 0
        → (a'.holder k ≡ j) × (word words' (part_word k) ≡ word words (part_word k)) × (at_part k a'.deeds ≡ at_part k a.deeds)
    pub tickets : (t : ℕ) → a.owner t ≡ held j → t < word words ticket_word → a'.owner t ≡ held j
    pub of_seat : (t : ℕ) → Has threads t → a.seat t ≡ j → (a'.seat t ≡ j) × (of_thread t a'.deeds ≡ of_thread t a.deeds)
    pub lead : j ≡ 0 → threads ≡ threads'

module _ {X P L : Type 0} {mach : X → Rules P L} {x : X} {events : ℕ} {words words' : List ℕ} {slots : ℕ} {a a' : Account P L} {threads threads' : List ℕ}
    (later : Later mach x events words words' slots a a' threads threads') where
  abbrev Stays : ℕ → Type 0
  Stays j = Same mach x events words words' slots a a' threads threads' j

  pub saw_stays : (v : Visit P) → Saw mach x events a.deeds v → Saw mach x events a'.deeds v
  saw_stays v s = let g = later.grew v.slot in let n = length-append s.1 g.0 in
      (s.0, s.1 ++ g.0, g.1 ∙ rw (s.2, append_assoc) refl, s.3, s.4, (let low = s.5 in omega arith))

  pub caused_stays : (c : ℕ) (n : Bool) → Caused {P = P} {L = L} mach x events words slots a threads c n → Caused {P = P} {L = L} mach x events words' slots a' threads' c n
  caused_stays c n f = (f.0, (λ e. let low = f.1 e in omega arith), (λ e. let low = f.2 e in omega arith))

  pub knows_stays : (w : Work X P L) → of_thread w.thread a'.deeds ≡ of_thread w.thread a.deeds
      → Knows mach x events words slots a threads w → Knows mach x events words' slots a' threads' w
  knows_stays w d k = let (machine, events, named, local, made, saw, caused) = k in
      (machine, events, later.listed w.thread named, ap (local_left (mach x) w.thread) d ∙ local, made ∙ sym d, (λ v h. saw_stays v (saw v h)), caused_stays w.cause w.noted caused)

  holding_stays : (j thread : ℕ) (h : Hold P) → Stays j → Holding mach x events words slots a threads j thread h → Holding mach x events words' slots a' threads' j thread h
  holding_stays j thread h s t = let u = s.holds h.slot t.0 t.1 (λ z. let full = t.2 in omega arith) in
      (t.0, u.0, u.1 ∙ t.2, t.3 ∙ ap (λ l. map entry_of l) (sym u.2), ap (part_left (mach x) h.slot) u.2 ∙ t.4)

  stage_stays : (j : ℕ) (w : Work X P L) (st : Stage P) → Stays j → Has threads w.thread → a.seat w.thread ≡ j
      → StageFits mach x events words slots a threads j w st → StageFits mach x events words' slots a' threads' j w st
  stage_stays j w Idle s i e f = tt
  stage_stays j w (Taken h) s i e f = holding_stays j w.thread h s f
  stage_stays j w (Drawn h t) s i e f =
      let (b, owned, drawn, low, of_part, of_seat, fresh) = f in
      let u = s.holds h.slot b.0 b.1 (λ z. let full = b.2 in omega arith) in let v = s.of_seat w.thread i e in
      (holding_stays j w.thread h s b, s.tickets t owned drawn, omega arith, low, (λ d g. of_part d (rw u.2 at g)), (λ d g. of_seat d (rw v.1 at g)), fresh)

  pub fits_stays : (j : ℕ) (v : View X P L) → Stays j → Fits mach x events words slots a threads j v → Fits mach x events words' slots a' threads' j v
  fits_stays j (Leads m) s f = let (main, machine, events, threads, kept, once) = f in
      (main, machine, events, threads ∙ s.lead main, (λ w h. let k = kept w h in let u = s.of_seat w.thread k.0.2 (k.1 ∙ sym main) in (knows_stays w u.1 k.0, u.0 ∙ main, k.2)), once)
  fits_stays j (Works w) s f = let u = s.of_seat w.thread f.0.2 f.1 in (knows_stays w u.1 f.0, u.0, stage_stays j w w.stage s f.0.2 f.1 f.2)
  fits_stays j Spent s f = tt

  -- the seat id changes its view, and what the others know stays
  pub each_moves : (views : List (View X P L)) (id : ℕ) (u : View X P L) (slots' : ℕ) → slots ≡ slots'
      → ((j : ℕ) (v : View X P L) → get_elem? views j ≡ some v → Fits mach x events words slots a threads j v)
      → ((j : ℕ) → j ≢ id → Stays j) → Fits mach x events words' slots a' threads' id u
      → (j : ℕ) (v : View X P L) → get_elem? (set views id u) j ≡ some v → Fits mach x events words' slots' a' threads' j v
  each_moves views id u slots' same each stay mine j v e = rw (← same) (⊎_elim
      (λ (t : (j ≡ id) × (u ≡ v)). rw (t.0, ← t.1) mine)
      (λ (t : (j ≢ id) × (get_elem? views j ≡ some v)). fits_stays j v (stay j t.0) (each j v t.1))
      (at_set views id j u v e))

module _ {X P L : Type 0} where
  -- the leader is seat 0, and no worker
  leader_else : (views : List (View X P L)) (threads : List ℕ) (id : ℕ) (w : Work X P L) → LeadsAt views threads → get_elem? views id ≡ some (Works w) → id ≢ 0
  leader_else views threads id w l at e = absurd (cc (some-injective (Leads l.0) (Works w) (sym l.1 ∙ rw e at at)))

  abbrev pub At : (View X P L → Type 0) → List (View X P L) → ℕ → Type 0
  At Q views j = (o : View X P L) × (get_elem? views j ≡ some o) × Q o

  -- where a view changes, what held of the view at j still does, if the change keeps it
  pub view_stays : (Q : View X P L → Type 0) (views : List (View X P L)) (id : ℕ) (v u : View X P L) (j : ℕ)
      → get_elem? views id ≡ some v → (Q v → Q u) → At Q views j → At Q (set views id u) j
  view_stays Q views id v u j at f o = dite (ℕ_discrete j id)
      (λ e. (u, rw e (set_at views id v u at), f (rw (some-injective o.0 v (sym o.1 ∙ rw e at)) at o.2)))
      (λ ne. (o.0, set_else views id j u ne ∙ o.1, o.2))

  -- what a worker's new view changes in the sums
  pub record Sums (views : List (View X P L)) (id : ℕ) (w u : Work X P L) : Type 0 where
    pub ones : total one (set views id (Works u)) ≡ total one views
    pub ends : total ended (set views id (Works u)) + ended w ≡ total ended views + ended u
    pub loses : total lost (set views id (Works u)) + lost w ≡ total lost views + lost u
    pub starves : total starved (set views id (Works u)) + starved w ≡ total starved views + starved u

  pub sums : (views : List (View X P L)) (id : ℕ) (w u : Work X P L) → get_elem? views id ≡ some (Works w) → Sums views id w u
  sums views id w u at =
      let now : (f : Work X P L → ℕ) → total f (set views id (Works u)) + f w ≡ total f views + f u = λ f. total_set f views id (Works w) (Works u) at in
      record { ones = omega (arith, now one); ends = now ended; loses = now lost; starves = now starved }

  -- a worker's view changes, and it stays a worker
  pub leader_stays : (views : List (View X P L)) (threads : List ℕ) (id : ℕ) (w u : Work X P L)
      → LeadsAt views threads → get_elem? views id ≡ some (Works w) → LeadsAt (set views id (Works u)) threads
  leader_stays views threads id w u l at = (l.0, set_else views id 0 (Works u) (λ e. leader_else views threads id w l at (sym e)) ∙ l.1, (sums views id w u at).ones ∙ l.2)

  -- the ticket word doesn't wrap
  pub narrow : {mach : X → Rules P L} {key : Key X} {words : List ℕ} {homes : List (Option (Stall P))} {views : List (View X P L)} {a : Account P L} {threads : List ℕ}
      → Ties mach key words homes views a threads → word words ticket_word ≤ key.events + 256
  narrow {views = views} {threads = threads} t = let le = ended_le views in let l = t.leader in let sum = l.2 in let few = few_threads threads 256 t.once t.small in omega arith

  -- a word is written as it was, and nothing else happens
  pub stands_still : (mach : X → Rules P L) (key : Key X) (s : State (Stall P) (View X P L)) (id i : ℕ) (v : View X P L) (c : List (ℕ × Stall P))
      → Kept mach key s → get_elem? s.views id ≡ some v → Kept mach key (stepped s i (word s.words i) id c v keeps)
  stands_still mach key s id i v c kept at = rw (set-get_or s.words i 0, set_again s.views id v at) kept

  abbrev pub Goes : (X → Rules P L) → Key X → State (Stall P) (View X P L) → ℕ → Mine X P L → ℕ → (ℕ → Mine X P L → Type 0) → ℕ → Type 0
  Goes mach key s id me i then new =
      (w : View X P L) × (a : table.Act (Stall P)) × Valid s.homes me.1 a × Kept mach key (stepped s i new id me.1 w a) × then (word s.words i) (w, carried_after me.1 a)

-- the word of the slot i is written
pub record Written (ws : List ℕ) (i n : ℕ) : Type 0 where
  pub zeroth : word (set ws (part_word i) n) 0 ≡ word ws 0
  pub first : word (set ws (part_word i) n) ticket_word ≡ word ws ticket_word
  pub other : (k : ℕ) → k ≢ i → word (set ws (part_word i) n) (part_word k) ≡ word ws (part_word k)
  pub here : part_word i < length ws → word (set ws (part_word i) n) (part_word i) ≡ n

pub written : (ws : List ℕ) (i n : ℕ) → Written ws i n
written ws i n = grind (arith, get_or-set_other, get_or-set_same)

module _ {P L : Type 0} where
  pub same_deeds : (a : Account P L) (i : ℕ) → (more : List (Act P L)) × (at_part i a.deeds ≡ at_part i a.deeds ++ more)
  same_deeds a i = ([], sym (append-nil (at_part i a.deeds)))

module _ {X P L : Type 0} (mach : X → Rules P L) (key : Key X) (words words' : List ℕ) (homes homes' : List (Option (Stall P))) (views : List (View X P L)) (a : Account P L) (threads : List ℕ)
    (id : ℕ) (u : Work X P L) (holder : ℕ → ℕ) (owner : ℕ → Place) where
  -- what a step of the worker's seat id owes that adds no act
  pub record Turned : Type 0 where
    pub long : length words' ≡ length words
    pub wide : length homes' ≡ length homes
    pub halt : word words 0 ≤ word words' 0
    pub next : word words ticket_word ≤ word words' ticket_word
    pub home : (i : ℕ) → i < length homes → word words' (part_word i) ≡ 0
        → (x : Stall P) × (get_elem? homes' i ≡ some (some x)) × (x.entries.items ≡ entries_at i a.deeds) × (part_left (mach key.machine) i (at_part i a.deeds) ≡ Some x.part)
    pub away : (i : ℕ) → i < length homes → word words' (part_word i) ≢ 0 → Out (set views id (Works u)) (holder i) i
    pub holds : (j k : ℕ) → j ≢ id → k < length homes → a.holder k ≡ j → word words (part_word k) ≢ 0 → (holder k ≡ j) × (word words' (part_word k) ≡ word words (part_word k))
    pub owned : (t : ℕ) → t < word words ticket_word → owner t ≡ a.owner t
    pub mine : Fits mach key.machine key.events words' (length homes) record { deeds = a.deeds; holder = holder; seat = a.seat; owner = owner } threads id (Works u)
    pub bounded : word words' ticket_word ≤ key.events + total ended (set views id (Works u))
    pub complete : (k : ℕ) → k ≤ word words' ticket_word → k ≤ key.events → k ≤ length a.deeds + total lost (set views id (Works u))
    pub halting : Halting words' key.events (set views id (Works u))

  -- such a step keeps the rule
  pub turned_ties : (w : Work X P L) → w.thread ≡ u.thread → get_elem? views id ≡ some (Works w) → Ties mach key words homes views a threads → Turned
      → Ties mach key words' homes' (set views id (Works u)) record { deeds = a.deeds; holder = holder; seat = a.seat; owner = owner } threads
  turned_ties w same at r t =
      let later : Later mach key.machine key.events words words' (length homes) a record { deeds = a.deeds; holder = holder; seat = a.seat; owner = owner } threads threads =
      record { halt = t.halt; next = t.next; grew = same_deeds a; listed = λ _ h. h } in record {
        sized = omega (arith, t.long, t.wide, r.sized);
        counted = t.wide ∙ r.counted;
        at_home = λ i less zero. t.home i (omega arith) zero;
        away = λ i less full. t.away i (omega arith) full;
        each = each_moves later views id (Works u) (length homes') (sym t.wide) r.each
            (λ j apart. record {
              holds = λ k less h f. let s = t.holds j k apart less h f in (s.0, s.1, refl);
              tickets = λ k o less. t.owned k less ∙ o;
              of_seat = λ t h e. (e, refl);
              lead = λ e. refl;
            }) t.mine;
        chained = r.chained;
        rises = r.rises;
        steady = r.steady;
        owned = λ i d e. let (lies_at, drawn, low, named, near) = r.owned i d e in (t.owned d.ticket drawn ∙ lies_at, omega arith, low, named, omega arith);
        leader = leader_stays views threads id w u r.leader at;
        once = r.once;
        small = r.small;
        standing = λ q h. view_stays (Names q) views id (Works w) (Works u) (a.seat q) at (λ z. sym same ∙ z) (r.standing q h);
        bounded = t.bounded;
        complete = t.complete;
        halting = t.halting;
      }
