-- The rule of the table of parts, and what each step tells.
use Rattle.std.specs.Prelude.{◌≡◌, ◌≢◌, ℕ, zero, suc, ◌+◌, ◌-◌, ◌*◌, ◌/◌, ◌<◌, ◌≤◌, List, [], ◌∷◌, ◌++◌, length, map, filter, slice_index, slice_get, Bool, true, false, Some, None}
use Rattle.std.specs.Prelude.{Option as Maybe}
use mathlib.Core.Option.{Option, some}
use lib.ListN.{get_elem?}
use Rattle.atomic_table.specs.Table.{State, Me, Step, rest}
use Rattle.tc_model.specs.declared.board.Act.{Act}
use Rattle.tc_model.specs.declared.board.Entry.{Entry}
use Rattle.tc_model.specs.declared.machine.PartNo.{PartNo}
use Rattle.tc_model.specs.Run.{Rules, start}
use Rattle.tc_model.specs.Chains.{at, by, left_by, part_after, local_after, AreChainedFrom}
use Rattle.tc_model.specs.Rises.{Has, Rising}
use Rattle.part_lock.specs.declared.view.Key.{Key}
use Rattle.part_lock.specs.declared.view.Stall.{Stall}
use Rattle.part_lock.specs.declared.view.Hold.{Hold}
use Rattle.part_lock.specs.declared.view.Visit.{Visit}
use Rattle.part_lock.specs.declared.view.Stage.{Stage}
use Rattle.part_lock.specs.declared.view.Stage.TheVariants.{Idle, Taken, Drawn}
use Rattle.part_lock.specs.declared.view.Lead.{Lead}
use Rattle.part_lock.specs.declared.view.Work.{Work}
use Rattle.part_lock.specs.declared.view.View.{View}
use Rattle.part_lock.specs.declared.view.View.TheVariants.{Leads, Works, Spent}

-- where a ticket is: nowhere, with the deed of a number, or with a seat
pub data Place : Type 0 where
  nowhere : Place
  lies : ℕ → Place
  held : ℕ → Place

-- The words of the table: 0 is of halt, and then come those of tickets and of each part. Unused words stand between them, so that no two lie
-- in one line of a cache, of 8 words, nor in two that a processor fetches together.
abbrev pub ticket_word : ℕ
ticket_word = 16

abbrev pub part_word : ℕ → ℕ
part_word i = 16 * (i + 2)

abbrev pub slot_of : ℕ → ℕ
slot_of word = word / 16 - 2

abbrev pub flag : ℕ → ℕ
flag zero = 0
flag (suc n) = 1

-- no member stands twice
abbrev pub Once : List ℕ → Type 0
Once [] = Unit {0}
Once (t ∷ ts) = Once ts × ((Has ts t) → ⊥)

abbrev pub hold : {P : Type 0} → ℕ → Stall P → Hold P
hold i x = record { slot = i; found = x.entries.items; part = x.part }

abbrev pub part_no : ℕ → PartNo
part_no i = record { 0 = i }

-- what the rule knows beside the table: the acts in the order in which their parts were given back, which view holds each part,
-- which view each thread's seat has (0 where it was joined), and where each ticket is
pub record Account (P L : Type 0) : Type 0 where
  pub deeds : List (Act P L)
  pub holder : ℕ → ℕ
  pub seat : ℕ → ℕ
  pub owner : ℕ → Place

module _ {P L : Type 0} where
  abbrev pub rank : Act P L → ℕ
  rank a = a.ticket

  -- the acts at one part, and those of one thread
  abbrev pub at_part : ℕ → List (Act P L) → List (Act P L)
  at_part i acts = filter (at i) acts

  abbrev pub of_thread : ℕ → List (Act P L) → List (Act P L)
  of_thread t acts = filter (by t) acts

  abbrev pub entry_of : Act P L → Entry
  entry_of a = record { ticket = a.ticket; thread = record { 0 = a.thread } }

  abbrev pub entries_at : ℕ → List (Act P L) → List Entry
  entries_at i acts = map entry_of (at_part i acts)

  -- what acts at a part left of it, from its start on, and what acts of a thread left of its local
  abbrev pub part_left : Rules P L → ℕ → List (Act P L) → Maybe P
  part_left r i acts = left_by (part_after r) (slice_get r.parts i) acts

  abbrev pub local_left : Rules P L → ℕ → List (Act P L) → Maybe L
  local_left r t acts = left_by (local_after r) (slice_get r.locals t) acts

module _ {X P L : Type 0} where
  abbrev pub thread_of : Work X P L → ℕ
  thread_of w = w.thread

module _ {X P L : Type 0} (mach : X → Rules P L) (x : X) (events : ℕ) where
  -- a turn that is over: the part's first entries are those that it found, they left the part that it found, and its own entry came behind them
  abbrev pub Saw : List (Act P L) → Visit P → Type 0
  Saw deeds v = (before : List (Act P L)) × (after : List (Act P L)) × (at_part v.slot deeds ≡ before ++ after) × (length before ≡ v.found)
      × (part_left (mach x) v.slot before ≡ Some v.part) × (v.entered ≤ length after)

  module _ (words : List ℕ) (slots : ℕ) (a : Account P L) (threads : List ℕ) where
    -- the halt word is no less than a cause that was noted, and the limit was passed where it was met
    abbrev pub Caused : ℕ → Bool → Type 0
    Caused cause noted = (cause ≤ 2) × (noted ≡ true → cause ≤ slice_index words 0) × (cause ≡ 1 → events < slice_index words ticket_word)

    -- the seat of a thread that is listed has the local that its last act left, and its own acts
    abbrev pub Knows : Work X P L → Type 0
    Knows w = (w.machine ≡ x) × (w.events ≡ events) × Has threads w.thread × (local_left (mach x) w.thread (of_thread w.thread a.deeds) ≡ Some w.local)
        × (w.made ≡ of_thread w.thread a.deeds) × ((v : Visit P) → Has w.visits v → Saw a.deeds v) × Caused w.cause w.noted

    -- the seat id, of that thread, holds the part
    abbrev pub Holding : ℕ → ℕ → Hold P → Type 0
    Holding id thread h = (h.slot < slots) × (a.holder h.slot ≡ id) × (slice_index words (part_word h.slot) ≡ thread + 1)
        × (h.found ≡ entries_at h.slot a.deeds) × (part_left (mach x) h.slot (at_part h.slot a.deeds) ≡ Some h.part)

    -- a ticket that is held is below the next one and above all entries of its part and of its thread
    abbrev pub StageFits : ℕ → Work X P L → Stage P → Type 0
    StageFits id w Idle = Unit {0}
    StageFits id w (Taken h) = Holding id w.thread h
    StageFits id w (Drawn h t) =
        Holding id w.thread h × (a.owner t ≡ held id) × (t < slice_index words ticket_word) × (t < events)
        × ((d : Act P L) → Has (at_part h.slot a.deeds) d → d.ticket < t) × ((d : Act P L) → Has (of_thread w.thread a.deeds) d → d.ticket < t) × (w.cause ≡ 0)

    abbrev pub Fits : ℕ → View X P L → Type 0
    Fits id (Leads m) = (id ≡ 0) × (m.machine ≡ x) × (m.events ≡ events) × (m.threads ≡ threads) × ((w : Work X P L) → Has m.kept w → Knows w
        × (a.seat w.thread ≡ 0) × (w.stage ≡ Idle)) × Once (map thread_of m.kept)
    Fits id (Works w) = Knows w × (a.seat w.thread ≡ id) × StageFits id w w.stage
    Fits id Spent = Unit {0}

abbrev pub Mine : Type 0 → Type 0 → Type 0 → Type 0
Mine X P L = Me (Stall P) (View X P L)

module _ {P : Type 0} where
  abbrev pub IsOut : ℕ → Stage P → Type 0
  IsOut i Idle = ⊥
  IsOut i (Taken h) = h.slot ≡ i
  IsOut i (Drawn h t) = h.slot ≡ i

  -- a turn that is over, with an entry or without
  abbrev pub visit : Hold P → ℕ → Visit P
  visit h e = record { slot = h.slot; found = length h.found; part = h.part; entered = e }

  abbrev pub drawn_in : Stage P → ℕ
  drawn_in Idle = 0
  drawn_in (Taken h) = 0
  drawn_in (Drawn h t) = 1

module _ {X P L : Type 0} where
  -- the view holds the part i
  abbrev pub HasOut : ℕ → View X P L → Type 0
  HasOut i (Leads m) = ⊥
  HasOut i (Works w) = IsOut i w.stage
  HasOut i Spent = ⊥

  abbrev pub Out : List (View X P L) → ℕ → ℕ → Type 0
  Out views j i = (v : View X P L) × (get_elem? views j ≡ some v) × HasOut i v

  -- the view is that of the thread's seat, or keeps it
  abbrev pub Names : ℕ → View X P L → Type 0
  Names t (Leads m) = (w : Work X P L) × Has m.kept w × (w.thread ≡ t)
  Names t (Works w) = w.thread ≡ t
  Names t Spent = ⊥

  abbrev pub Stands : List (View X P L) → ℕ → ℕ → Type 0
  Stands views id t = (v : View X P L) × (get_elem? views id ≡ some v) × Names t v

  -- one, whether it has a cause, whether it met want of memory, and whether it also holds a ticket
  abbrev pub one : Work X P L → ℕ
  one w = 1

  abbrev pub ended : Work X P L → ℕ
  ended w = flag w.cause

  abbrev pub starved : Work X P L → ℕ
  starved w = flag (w.cause - 1)

  abbrev pub lost : Work X P L → ℕ
  lost w = drawn_in w.stage + flag (w.cause - 1)

  abbrev pub sum_of : (Work X P L → ℕ) → List (Work X P L) → ℕ
  sum_of f [] = 0
  sum_of f (w ∷ ws) = f w + sum_of f ws

  abbrev pub weigh : (Work X P L → ℕ) → View X P L → ℕ
  weigh f (Leads m) = sum_of f m.kept
  weigh f (Works w) = f w
  weigh f Spent = 0

  -- over all views, those that the main view keeps among them
  abbrev pub total : (Work X P L → ℕ) → List (View X P L) → ℕ
  total f [] = 0
  total f (v ∷ vs) = weigh f v + total f vs

  -- view 0 is the main one, and there is one view a thread, or one that it keeps
  abbrev pub LeadsAt : List (View X P L) → List ℕ → Type 0
  LeadsAt views threads = (m : Lead X P L) × (get_elem? views 0 ≡ some (Leads m)) × (total one views ≡ length threads)

  abbrev pub Halting : List ℕ → ℕ → List (View X P L) → Type 0
  Halting words events views = (slice_index words 0 ≤ 2) × (slice_index words 0 ≡ 1 → events < slice_index words ticket_word) × (slice_index words 0 ≡ 2 → 0 < total starved views)

  pub record Ties (mach : X → Rules P L) (key : Key X) (words : List ℕ) (homes : List (Option (Stall P))) (views : List (View X P L)) (a : Account P L) (threads : List ℕ) : Type 0 where
    pub sized : length words ≡ part_word (length homes)
    pub counted : length homes ≡ length (mach key.machine).parts
    pub at_home : (i : ℕ) → i < length homes → slice_index words (part_word i) ≡ 0 → (x : Stall P) × (get_elem? homes i ≡ some (some x))
        × (x.entries.items ≡ entries_at i a.deeds) × (part_left (mach key.machine) i (at_part i a.deeds) ≡ Some x.part)
    pub away : (i : ℕ) → i < length homes → slice_index words (part_word i) ≢ 0 → Out views (a.holder i) i
    pub each : (id : ℕ) (v : View X P L) → get_elem? views id ≡ some v → Fits mach key.machine key.events words (length homes) a threads id v
    pub chained : AreChainedFrom (mach key.machine) (start (mach key.machine)) a.deeds
    pub rises : (i : ℕ) → Rising rank (at_part i a.deeds)
    pub steady : (t : ℕ) → Rising rank (of_thread t a.deeds)
    pub owned : (k : ℕ) (d : Act P L) → slice_get a.deeds k ≡ Some d → (a.owner d.ticket ≡ lies k) × (d.ticket < slice_index words ticket_word)
        × (d.ticket < key.events) × Has threads d.thread × (d.place.0 < length homes)
    pub leader : LeadsAt views threads
    pub once : Once threads
    pub small : (t : ℕ) → Has threads t → t < 256
    pub standing : (t : ℕ) → Has threads t → Stands views (a.seat t) t
    pub bounded : slice_index words ticket_word ≤ key.events + total ended views
    pub complete : (k : ℕ) → k ≤ slice_index words ticket_word → k ≤ key.events → k ≤ length a.deeds + total lost views
    pub halting : Halting words key.events views

  -- The rule: at most 40,000,000 tickets are used, and some account fits the table.
  abbrev pub Kept : (X → Rules P L) → Key X → State (Stall P) (View X P L) → Type 0
  Kept mach key s = (key.events ≤ 40000000) × (a : Account P L) × (threads : List ℕ) × Ties mach key s.words s.homes s.views a threads

  abbrev pub first_lead : Key X → Lead X P L
  first_lead k = record { machine = k.machine; events = k.events; threads = []; kept = [] }

  abbrev pub main_view : Key X → View X P L
  main_view k = Leads (first_lead k)

  abbrev pub at_view : (Work X P L → Work X P L) → View X P L → View X P L
  at_view f (Leads m) = Leads m
  at_view f (Works w) = Works (f w)
  at_view f Spent = Spent

  abbrev pub at_stage : Stage P → Work X P L → Work X P L
  at_stage st w = record w { stage = st }

  abbrev pub saw : ℕ → Work X P L → Work X P L
  saw c w = record w { cause = c; noted = true }

  abbrev pub note : Work X P L → Work X P L
  note w = record w { noted = true }

  abbrev pub full : Work X P L → Work X P L
  full w = record w { cause = 1; noted = false }

  abbrev pub deed : Work X P L → Hold P → ℕ → Act P L
  deed w h t = record { ticket = t; thread = w.thread; place = part_no h.slot; part = h.part; local = w.local }

  -- the turn ends without an entry
  abbrev pub left : Hold P → ℕ → Bool → Work X P L → Work X P L
  left h c n w = record w { visits = w.visits ++ visit h 0 ∷ []; stage = Idle; cause = c; noted = n }

  -- the turn ends with one
  abbrev pub entered : Hold P → ℕ → L → Work X P L → Work X P L
  entered h t l w = record w { local = l; made = w.made ++ deed w h t ∷ []; visits = w.visits ++ visit h 1 ∷ []; stage = Idle }

  abbrev pub events_of : View X P L → ℕ
  events_of (Leads m) = m.events
  events_of (Works w) = w.events
  events_of Spent = 0

  abbrev pub draw_at : ℕ → Work X P L → Stage P → Work X P L
  draw_at t w Idle = w
  draw_at t w (Taken h) = at_stage (Drawn h t) w
  draw_at t w (Drawn h u) = w

  abbrev pub back_at : Work X P L → Stage P → Work X P L
  back_at w Idle = w
  back_at w (Taken h) = left h w.cause w.noted w
  back_at w (Drawn h u) = w

  abbrev pub fail_at : Work X P L → Stage P → Work X P L
  fail_at w Idle = w
  fail_at w (Taken h) = left h 2 false w
  fail_at w (Drawn h u) = left h 2 false w

  abbrev pub give_at : (X → Rules P L) → Work X P L → Stage P → Work X P L
  give_at mach w Idle = w
  give_at mach w (Taken h) = w
  give_at mach w (Drawn h t) = entered h t ((mach w.machine).after h.part w.local).1 w

  -- what a load of the halt word tells: no less than the cause noted, and the part wanted is there
  abbrev pub Warned : (X → Rules P L) → ℕ → ℕ → View X P L → Type 0
  Warned mach slots found (Leads m) = Unit {0}
  Warned mach slots found (Works w) = (w.noted ≡ true → w.cause ≤ found) × ((i : ℕ) → (mach w.machine).want w.local ≡ Some (part_no i) → i < slots)
  Warned mach slots found Spent = Unit {0}

  abbrev pub Sees : (X → Rules P L) → Step (Stall P) → Mine X P L → ℕ → Mine X P L → Type 0
  Sees mach st me found me' = (me' ≡ (at_view (saw found) me.0, me.1)) × (found ≤ 2) × Warned mach st.slots found me.0

  abbrev pub Sets : Step (Stall P) → Mine X P L → ℕ → Mine X P L → Type 0
  Sets st me found me' = me' ≡ (at_view note me.0, me.1)

  -- the part has no fewer entries than this seat found before, and more where it entered since
  abbrev pub Fresh : Work X P L → ℕ → ℕ → Type 0
  Fresh w slot found = (v : Visit P) → Has w.visits v → v.slot ≡ slot → v.found + v.entered ≤ found

  -- what the taking of a part tells: the pair fits, and the part has the entries that were found there before
  abbrev pub Finds : (X → Rules P L) → (X → P → L → Type 0) → ℕ → Stall P → View X P L → Type 0
  Finds mach fits i x (Leads m) = Unit {0}
  Finds mach fits i x (Works w) = ((mach w.machine).want w.local ≡ Some (part_no i) → fits w.machine x.part w.local) × Fresh w i (length x.entries.items)
  Finds mach fits i x Spent = Unit {0}

  abbrev pub Takes : (X → Rules P L) → (X → P → L → Type 0) → Step (Stall P) → Mine X P L → ℕ → Mine X P L → Type 0
  Takes mach fits st me found me' =
      (found ≡ 0 → (x : Stall P) × (me' ≡ (at_view (at_stage (Taken (hold (slot_of st.word) x))) me.0, (slot_of st.word, x) ∷ me.1)) × Finds mach fits (slot_of st.word) x me.0)
      × (found ≢ 0 → me' ≡ me)

  abbrev pub Draws : Step (Stall P) → Mine X P L → ℕ → Mine X P L → Type 0
  Draws st me found me' =
      (found < events_of me.0 → me' ≡ (at_view (λ w. draw_at found w w.stage) me.0, me.1))
      × (events_of me.0 ≤ found → me' ≡ (at_view full me.0, me.1))

  abbrev pub Gives : (X → Rules P L) → Step (Stall P) → Mine X P L → ℕ → Mine X P L → Type 0
  Gives mach st me found me' = me' ≡ (at_view (λ w. give_at mach w w.stage) me.0, rest me.1)

  abbrev pub Returns : Step (Stall P) → Mine X P L → ℕ → Mine X P L → Type 0
  Returns st me found me' = me' ≡ (at_view (λ w. back_at w w.stage) me.0, rest me.1)

  abbrev pub Fails : Step (Stall P) → Mine X P L → ℕ → Mine X P L → Type 0
  Fails st me found me' = me' ≡ (at_view (λ w. fail_at w w.stage) me.0, rest me.1)

  abbrev pub one_more : ℕ → Lead X P L → Lead X P L
  one_more t m = record m { threads = m.threads ++ t ∷ [] }

  abbrev pub seated : ℕ → View X P L → View X P L
  seated t (Leads m) = Leads (one_more t m)
  seated t (Works w) = Works w
  seated t Spent = Spent

  abbrev pub fresh_work : ℕ → L → Lead X P L → Work X P L
  fresh_work t l m = record { machine = m.machine; thread = t; events = m.events; cause = 0; noted = true; local = l; made = []; visits = []; stage = Idle }

  abbrev pub newcomer_with : ℕ → Lead X P L → Maybe L → View X P L
  newcomer_with t m None = Spent
  newcomer_with t m (Some l) = Works (fresh_work t l m)

  -- the seat of a thread that has none yet
  abbrev pub newcomer : (X → Rules P L) → ℕ → View X P L → View X P L
  newcomer mach t (Leads m) = newcomer_with t m (slice_get (mach m.machine).locals t)
  newcomer mach t (Works w) = Spent
  newcomer mach t Spent = Spent

  abbrev pub one_joined : Lead X P L → Work X P L → Lead X P L
  one_joined m w = record m { kept = m.kept ++ w ∷ [] }

  -- the main seat takes in a worker's
  abbrev pub joined : View X P L → View X P L → View X P L
  joined (Leads m) (Works w) = Leads (one_joined m w)
  joined (Leads m) (Leads n) = Leads m
  joined (Leads m) Spent = Leads m
  joined (Works w) v = Works w
  joined Spent v = Spent

  abbrev pub IsMain : Key X → Lead X P L → Mine X P L → Type 0
  IsMain key m me = (me ≡ (Leads m, [])) × (m.machine ≡ key.machine) × (m.events ≡ key.events)
