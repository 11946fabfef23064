-- How a call goes on leaves the local its shape, and the front-end's invariant holds of the thread as it stands then.
use Rattle.std.proofs.Common.{◌≡◌, ℕ, ◌+◌, ◌<◌, ◌≤◌, List, [], ◌∷◌, length, drop, Option, Some, None, refl, ap, ◌∙◌, arith, Bool}
use Rattle.std.proofs.Common.{cond, ltb, All, slice_set, option_map}
use Rattle.alloc_rules.proofs.Common.{length-drop, All-head, All-tail, Contents, class_of, ClassRow, position_or_len, ltb-true, Addr, Class, Label, ThreadNo, regs_of_call, at_hand}
use Rattle.alloc_rules.proofs.Common.{SpanRef, Call, Malloc, Planned, Block, Regs, HAND_ROOM, LOADED_ROOM, room, without_first, Asking, Serving, Giving, Onward}
use Rattle.alloc_rules.proofs.Common.{Step, Local, step_or, class_row, first_of_call, next_call, decided, goes}
use Rattle.alloc_rules.proofs.Common.{ends, publishes, stock_regs, stock_step, serves_first, gave, clears, given_back, to_hand, About, HasNoLabel, AreRows}
use Rattle.alloc_rules.proofs.Common.{At, Here, Later, Away, Standing, stand, at_row, at_step, standing_of, HandAbout, HasNone, IsGiving}
use Rattle.alloc_rules.proofs.Common.{IsOnward, StepShape, IsShaped, IsOwn, IsLawful, FrontRules, IsEntry, KeepsHand}
use Rattle.tc_units.specs.Classes as classes
use Rattle.call_steps.specs.declared.step.Step.TheVariants as does
use Rattle.call_steps.specs.declared.step.NamesStep.TheVariants as names
use Rattle.call_steps.specs.Calls as calls
use Rattle.call_steps.specs.Rows as has
use Rattle.alloc_rules.proofs.ScriptFacts.{closes, first_of_malloc, regs_of_malloc}

-- the class of a request is in the table
class_low_by : (n len : ℕ) (k : Class) (b : Bool) → ltb n len ≡ b → option_map (λ (j : ℕ). let c : Class = record { 0 = j } in c) (cond b (Some n) None) ≡ Some k → k.0 < len
class_low_by n len k b low is = grind (arith, ltb-true)

class_low : (rows : List ClassRow) (size : ℕ) (k : Class) → class_of rows size ≡ Some k → k.0 < length rows
class_low rows size k is = let n : ℕ = position_or_len (classes.serves size) rows in class_low_by n (length rows) k (ltb n (length rows)) refl is

-- where a thread is at no row
abbrev pub NotHere : {R : Type 0} → At R → Type 0
NotHere (Here row) = ⊥
NotHere (Later k row) = Unit {0}
NotHere Away = Unit {0}

pub giving_not : {R : Type 0} (g : Giving R) → NotHere (at_hand (has.Gives g))
giving_not g = grind arith

pub onward_not : {R : Type 0} (o : Onward R) → NotHere (at_hand (has.GivesSpans o))
onward_not o = grind arith

module _ {P V R : Type 0} {r : FrontRules P V R} {about : R → About} {planned : Planned → Type 0} {Holds : ℕ → List P → List (Standing V R) → Type 0}
    {fits : P → V → Regs → R → Type 0} (law : IsLawful r about planned Holds fits) (table : AreRows r.calls.rows) (t : ℕ) where
  -- all of a shape but the step's
  pub record IsCommon (n : ThreadNo) (k : Class) (held : Contents Addr) (bag : Contents SpanRef) (todo : List Planned) : Type 0 where
    pub thread : n.0 ≡ t
    pub class : k.0 < length r.calls.rows
    pub hand : room held ≡ HAND_ROOM
    pub freed : length bag.items + bag.spare ≡ HAND_ROOM
    pub rest : All planned todo

  abbrev pub CommonOf : Regs → Contents SpanRef → List Planned → Type 0
  CommonOf g bag todo = IsCommon g.thread g.class g.hand bag todo

  abbrev pub Common : Local V R → Type 0
  Common l = CommonOf l.regs l.freed l.rest

  pub common_of : (l : Local V R) → IsShaped r.calls.rows about planned t l → Common l
  common_of l s = record { thread = s.thread; class = s.class; hand = s.hand; freed = s.freed; rest = s.rest }

  pub shape_of : (l : Local V R) → Common l → StepShape r.calls.rows about l l.step → IsShaped r.calls.rows about planned t l
  shape_of l c step = record { thread = c.thread; class = c.class; hand = c.hand; freed = c.freed; rest = c.rest; step = step }

  -- with another class, hand and spans
  pub changed : {n : ThreadNo} {k k' : Class} {held held' : Contents Addr} {bag bag' : Contents SpanRef} {todo : List Planned} → IsCommon n k held bag todo
      → k'.0 < length r.calls.rows → room held' ≡ HAND_ROOM → length bag'.items + bag'.spare ≡ HAND_ROOM → IsCommon n k' held' bag' todo
  changed c low size freed = record { thread = c.thread; class = low; hand = size; freed = freed; rest = c.rest }

  pub kept_by : {g new : Regs} {bag : Contents SpanRef} {todo : List Planned} → KeepsHand g new → CommonOf g bag todo → CommonOf new bag todo
  kept_by k c = grind arith

  -- from one standing of the thread to another the invariant holds on
  abbrev pub Reaches : Standing V R → Standing V R → Type 0
  Reaches s s' = (n : ℕ) (ps : List P) (us : List (Standing V R)) → Holds n ps (slice_set us t s) → Holds n ps (slice_set us t s')

  -- A local behind an act that found this standing.
  pub record IsNext (base : Standing V R) (new : Local V R) : Type 0 where
    pub shaped : IsShaped r.calls.rows about planned t new
    pub stands : Reaches base (standing_of new)

  -- one whose standing is that which was found
  pub same_next : (new : Local V R) → Common new → StepShape r.calls.rows about new new.step → IsNext (standing_of new) new
  same_next new c step = record { shaped = shape_of new c step; stands = λ n ps us holds. holds }

  -- a thread that is at no row: between its acts, and behind the one that it does
  abbrev pub idle_at : Local V R → Standing V R
  idle_at l = stand l.seat l.regs l.acts Away

  abbrev pub away_at : Local V R → Standing V R
  away_at l = stand l.seat l.regs (l.acts + 1) Away

  pub behind : (base base' : Standing V R) (new : Local V R) → Reaches base base' → IsNext base' new → IsNext base new
  behind base base' new reaches n = record { shaped = n.shaped; stands = λ k ps us holds. n.stands k ps us (reaches k ps us holds) }

  -- the hand and the class may change, and acts are done
  pub stays_away : (v : V) (g : Regs) (count more : ℕ) (k : Class) (hand : Contents Addr) → count ≤ more → k.0 < length r.calls.rows → room hand ≡ room g.hand
      → Reaches (stand v g count Away) (stand v (record g { class = k; hand = hand }) more Away)
  stays_away v g count more k hand few low size n ps us holds = law.away n ps us t v g count more k hand few low size holds

  -- the call goes on elsewhere, at a step at which the thread is at no row
  pub goes_away : (l : Local V R) (next : Step R) → Common l → at_step next ≡ Away → StepShape r.calls.rows about (goes l next) next
      → IsNext (away_at l) (goes l next)
  goes_away l next c away shape = grind (arith, shape_of)

  -- with nothing in hand
  pub goes_quiet : (l : Local V R) (next : Step R) → Common l → HasNone l → at_step next ≡ Away
      → (HasNone (goes l next) → StepShape r.calls.rows about (goes l next) next) → IsNext (away_at l) (goes l next)
  goes_quiet l next c n away shape = goes_away l next c away (shape (record { hand = n.hand; freed = n.freed }))

  pub publishes_next : (l : Local V R) (s : Serving) → Common l → HasNone l → IsNext (away_at l) (publishes l s)
  publishes_next l s c n = goes_quiet l (does.Names (names.Publish s.label (Some s.addr))) c n refl (λ none. none)

  -- the first act of a call, with its registers, whose hand is empty
  fresh_next : (l : Local V R) (v : V) (g : Regs) (next : Step R) (rest : List Planned) → CommonOf g l.freed rest → g.hand.items ≡ [] → l.freed.items ≡ []
      → Reaches (idle_at l) (stand v g l.acts (at_step next))
      → (let new : Local V R = record l { seat = v; step = next; regs = g; rest = rest } in (HasNone new → StepShape r.calls.rows about new next) → IsNext (idle_at l) new)
  fresh_next l v g next rest c hand freed reaches shape = grind (arith, shape_of)

  -- a step that has a row of the front-end about this, or is another one that is at none
  pub entry_shape : (a : About) (other : Step R) (l : Local V R) (o : Option R) → IsEntry about a o → HandAbout r.calls.rows l.regs a → l.freed.items ≡ []
      → StepShape r.calls.rows about l other → StepShape r.calls.rows about l (step_or other o)
  entry_shape a other l o entry has none shape = grind arith

  pub entry_at : (base : Standing V R) (v : V) (g : Regs) (count : ℕ) (other : Step R) (o : Option R) → at_step other ≡ Away
      → Reaches base (stand v g count (at_row o)) → Reaches base (stand v g count (at_step (step_or other o)))
  entry_at base v g count other o away reaches = grind arith

  module _ (l : Local V R) (n : HasNone l) (p : Planned) (plan : planned p) (rest : List Planned) (c : CommonOf l.regs l.freed rest) where
    abbrev v : V
    v = r.calls.begins l.seat (Some p)

    abbrev ran : Regs
    ran = record l.regs { ran = 0 }

    begun : Reaches (idle_at l) (stand v l.regs l.acts Away)
    begun k ps us holds = law.begins k ps us t l.seat l.regs l.acts (Some p) plan n.hand holds

    restarted : Reaches (idle_at l) (stand v ran l.acts Away)
    restarted k ps us holds = law.restarts k ps us t v l.regs l.acts (begun k ps us holds)

    malloc_next : (label : Label) (size : ℕ) (o : Option Class) → class_of r.calls.rows size ≡ o
        → IsNext (idle_at l) (record l { seat = v; step = first_of_malloc r.calls v o label size; regs = record (regs_of_malloc r.calls o l.regs) { ran = 0 }; rest = rest })
    malloc_next label size None of = fresh_next l v ran (first_of_malloc r.calls v None label size) rest c n.hand n.freed restarted (λ none. (none, of))
    malloc_next label size (Some k) of = grind (arith, begun, changed, class_low, entry_at, entry_shape, fresh_next, kept_by)

    own_next : (call : Call) → p.call ≡ call → IsOwn p.call
        → IsNext (idle_at l) (record l { seat = v; step = step_or does.Ended (r.calls.other v call); regs = record (r.calls.to_other call l.regs) { ran = 0 }; rest = rest })
    own_next call is own = grind (arith, begun, entry_at, entry_shape, fresh_next)

    call_next : (call : Call) → p.call ≡ call
        → IsNext (idle_at l) (record l { seat = v; step = first_of_call r.calls v call; regs = record (regs_of_call r.calls call l.regs) { ran = 0 }; rest = rest })
    call_next call is = grind (arith, fresh_next, malloc_next, own_next, restarted)

  -- the thread comes to the first of these calls
  pub come_next : (l : Local V R) (todo : List Planned) → CommonOf l.regs l.freed todo → HasNone l → IsNext (idle_at l) (next_call r.calls l todo)
  come_next l [] c n = grind (arith, fresh_next)
  come_next l (p ∷ ps) c n =
      call_next l n p (All-head planned p ps c.rest) ps (record { thread = c.thread; class = c.class; hand = c.hand; freed = c.freed; rest = All-tail planned p ps c.rest }) p.call refl

  -- the call ends: a row of the front-end may come first
  closes_next : (l : Local V R) (o : Option R) → IsEntry about (calls.Other None) o → Common l → HasNone l
      → Reaches (idle_at l) (stand l.seat l.regs l.acts (at_row o)) → IsNext (idle_at l) (closes r.calls l o)
  closes_next l o entry c n reaches = grind (arith, come_next, shape_of)

  pub ends_next : (l : Local V R) → Common l → HasNone l → IsNext (away_at l) (ends r.calls l)
  ends_next l c n =
      closes_next (record l { acts = l.acts + 1 }) (r.calls.last l.seat) (law.entries.last_about l.seat) c (record { hand = n.hand; freed = n.freed })
      (λ k ps us holds. law.lasts k ps us t l.seat l.regs (l.acts + 1) n.hand holds)

  -- an allocation goes on with what came to its hand
  stocks_next : (l : Local V R) (s : Serving) (others : List Addr) → l.regs.hand.items ≡ others → length others ≤ LOADED_ROOM → Common l → l.freed.items ≡ []
      → IsNext (away_at l) (goes (record l { regs = stock_regs r.calls l.regs others }) (stock_step r.calls l.seat s others))
  stocks_next l s others is few c none = grind (arith, entry_at, entry_shape, kept_by, publishes_next, shape_of)

  pub serves_next : (l : Local V R) (a : Asking) (xs : List Addr) → l.regs.hand.items ≡ xs → 0 < length xs → length xs ≤ LOADED_ROOM → Common l
      → l.freed.items ≡ [] → IsNext (away_at l) (serves_first r.calls l a xs)
  serves_next l a [] is some few c none = absurd (omega arith)
  serves_next l a (x ∷ others) is some few c none =
      let hand : Contents Addr = without_first 1 l.regs.hand in
      let l' : Local V R = decided (to_hand l hand) (Malloc a.label a.size) (Block x (class_row r.calls.rows l).size) in
      let size : length l.regs.hand.items ≡ length (x ∷ others) = ap length is in
      let same : room hand ≡ room l.regs.hand = omega (arith, size, length-drop 1 l.regs.hand.items) in
      behind (away_at l) (away_at l') (serves_first r.calls l a (x ∷ others)) (stays_away l.seat l.regs (l.acts + 1) (l.acts + 1) l.regs.class hand (omega arith) c.class same)
      (stocks_next l' (record { label = a.label; addr = x }) others (ap (drop 1) is) (omega (arith, few)) (changed c c.class (same ∙ c.hand) c.freed) none)

  -- a row that comes behind a giving has nothing in hand
  pub later_shape : (l : Local V R) (k : Class) (a : About) → HasNoLabel a → HasNone l → HandAbout r.calls.rows (record l.regs { class = k }) a
  later_shape l k a other n = grind arith

  -- acts elsewhere, while this is to come
  pub waits_at : (l : Local V R) (a : At R) (count more : ℕ) (hand : Contents Addr) → NotHere a → count ≤ more → Common l → room hand ≡ room l.regs.hand
      → Reaches (stand l.seat l.regs count a) (stand l.seat (record l.regs { hand = hand }) more a)
  waits_at l a count more hand none few c same = grind arith

  -- a thread behind which this is to come
  abbrev pub onward_at : Local V R → Onward R → Standing V R
  onward_at l o = stand l.seat l.regs (l.acts + 1) (at_hand (has.GivesSpans o))

  -- what comes once no span is left to give back
  onward_next : (l : Local V R) (o : Onward R) → Common l → HasNone l → IsOnward r.calls.rows about o → IsNext (onward_at l o) (clears r.calls l o [])
  onward_next l o c n is = grind (arith, changed, ends_next, later_shape, publishes_next, shape_of)

  pub clears_next : (l : Local V R) (o : Onward R) (spans : List SpanRef) → l.freed.items ≡ spans → Common l → l.regs.hand.items ≡ []
      → IsOnward r.calls.rows about o → IsNext (onward_at l o) (clears r.calls l o spans)
  clears_next l o spans freed c hand is = grind (arith, onward_next, same_next)

  -- the hand was given
  abbrev pub giving_at : Local V R → Giving R → Standing V R
  giving_at l g = stand l.seat l.regs (l.acts + 1) (at_hand (has.Gives g))

  pub gave_next : (l : Local V R) (g : Giving R) (hand : List Addr) → Common l → l.regs.hand.items ≡ [] → IsGiving r.calls.rows about hand g
      → IsNext (giving_at l g) (gave r.calls l g l.freed.items)
  gave_next l g hand c none is = grind (arith, clears_next)

  pub given_back_next : (l : Local V R) (g : Giving R) (freed : Contents SpanRef) → Common l → length freed.items + freed.spare ≡ HAND_ROOM
      → IsGiving r.calls.rows about l.regs.hand.items g → IsNext (giving_at l g) (given_back r.calls l g freed)
  given_back_next l g freed c size is = grind (arith, changed, gave_next, giving_not, waits_at)
