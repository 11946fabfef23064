-- Where a call goes on with its hand: the account that it has then, its acts and its answers; and an allocation that gets an object.
use Rattle.std.proofs.Common.{◌≡◌, ℕ, ◌+◌, ◌<◌, List, [], ◌∷◌, ◌++◌, Some, refl, sym, ap, ◌∙◌, subst, arith}
use Rattle.alloc_rules.proofs.Common.{append-nil, Contents, class_of, Addr, Class, Label, Run, SpanRef, Malloc, Free, Planned, Block, Freed, Regs, emptied}
use Rattle.alloc_rules.proofs.Common.{Shard, objects_at, small, Account, Doing, Asks, Publishes, Frees, Other, WeighSame, Setup, Stock, Books, IsCut, size_of}
use Rattle.alloc_rules.proofs.Common.{Said, SaysOther, Move, MovesHand, FreesObject, GetsObject, GetsFirst, Rests, MoveObjects, AddSpan, Asking, Freeing}
use Rattle.alloc_rules.proofs.Common.{Giving, Decided, decided, goes, ends, class_row, Local, to_hand, gave}
use Rattle.alloc_rules.proofs.Common.{serves, Parts, About, HasNoLabel, about_giving, doing_about, account_of, stock_of, AreBooksOf, decided_at, Does}
use Rattle.alloc_rules.proofs.Common.{FrontCalls, AreEntries, FrontRules, IsGiving, setup}
use Rattle.holdings.specs.Moves.{with_hand}
use Rattle.call_steps.specs.declared.step.Giving.TheVariants as giving
use Rattle.call_steps.specs.declared.step.Step.TheVariants as step
use Rattle.alloc_rules.proofs.Stored.{does_by, settled, with_stores}
use Rattle.alloc_rules.proofs.Weighing.{bare, ends_counts, entry_is, quiet, weighs_is, weighs_next, weighs_quiet, weighs_same}

-- so does one that comes to a row without a label
pub other_doing : (a : About) → HasNoLabel a → doing_about a ≡ Other
other_doing a other = grind arith

-- a local after its act: its account, one act more, and what it decided
record Goes {V R : Type 0} (about : R → About) (l after : Local V R) (a : Account) (said : List Said) : Type 0 where
  account : account_of about after ≡ a
  acts : after.acts ≡ l.acts + 1
  answers : after.answers ≡ l.answers ++ decided_at l.acts said

-- one act later, with no further answer: an account that weighs as this one
pub record IsSilent {V R : Type 0} (about : R → About) (count : ℕ) (told : List Decided) (after : Local V R) (a : Account) : Type 0 where
  pub weighs : WeighSame a (account_of about after)
  pub acts : after.acts ≡ count + 1
  pub answers : after.answers ≡ told

abbrev pub Silent : {V R : Type 0} → (R → About) → Local V R → Local V R → Account → Type 0
Silent about l after a = IsSilent about l.acts l.answers after a

-- what a call frees is among these objects
abbrev pub HasFreed : Doing → List Addr → Type 0
HasFreed d came = (label : Label) (o : Addr) → d ≡ Frees label o → 0 < objects_at o.0 came

-- an allocation of so many bytes has its object
abbrev got_it : Asking → Addr → ℕ → Said
got_it asking o size = record { call = Malloc asking.label asking.size; answer = Block o size }

module _ {V R : Type 0} (e : FrontCalls V R) (about : R → About) (entries : AreEntries e about) where
  -- the first object in hand is an allocation's answer, and the others stay in hand
  serves_as : (l : Local V R) (asking : Asking) (o : Addr) (others : List Addr) → l.regs.hand.items ≡ o ∷ others
      → Goes about l (serves e l asking) (bare (Publishes asking.label (Some o)) l.regs.class.0 others l.rest) (got_it asking o (class_row e.rows l).size ∷ [])
  serves_as l asking o others is = grind (arith, bare, entry_is)

  -- a call ends with nothing in hand: the account that it has then weighs as one about nothing
  pub ends_as : (l : Local V R) (k : ℕ) → l.regs.hand.items ≡ [] → Silent about l (ends e l) (quiet k l.rest)
  ends_as l k none = let counts = ends_counts e l in record { weighs = weighs_next e about entries l k none; acts = counts.0; answers = counts.1 }

pub comes_as : {V R : Type 0} (about : R → About) (l : Local V R) (j : Class) (row : R) (k : ℕ) → HasNoLabel (about row) → l.regs.hand.items ≡ []
    → Silent about l (goes (record l { regs = record l.regs { class = j } }) (step.Front row)) (quiet k l.rest)
comes_as about l j row k other none = grind (arith, bare, other_doing, quiet, weighs_quiet)

-- an allocation with a new span that is to be added to its shard
abbrev pub adding : {V R : Type 0} → Local V R → Asking → Run → List Addr → Account
adding l asking run hand =
    let spans : List SpanRef = small l.regs.class run ∷ [] in
    record (bare (Asks asking.label asking.size) l.regs.class.0 hand l.rest) { apart = spans; mapped = spans }

-- the parts' books, and the parts with other stores, in which no object is of two spans
pub record Restocked {P V R : Type 0} (r : FrontRules P V R) (about : R → About) (p : Parts P) (locals : List (Local V R)) (b : Books) (new : Parts P) : Type 0 where
  pub books : AreBooksOf r about p locals b
  pub cut : IsCut r.calls.rows (stock_of r about new)

module _ {P V R : Type 0} {r : FrontRules P V R} {about : R → About} (entries : AreEntries r.calls about) (huge labels : ℕ) {p : Parts P}
    {locals : List (Local V R)} {b : Books} {fronts : List P} {shards : List Shard} (store : Restocked r about p locals b (with_stores p fronts shards)) where
  abbrev m : Setup
  m = setup r huge labels

  abbrev new : Stock
  new = stock_of r about (with_stores p fronts shards)

  abbrev Moved : ℕ → List Addr → List Addr → List SpanRef → Type 0
  Moved = MoveObjects (stock_of r about p) new

  abbrev Moves : Account → Account → List Said → Type 0
  Moves a after = Move m (settled r about b p) a new b.heap b.spans p.names after

  abbrev Done : Local V R → Local V R → Type 0
  Done = Does r about m (with_stores p fronts shards) b

  -- objects move between the stock and the hand, spans may come to it, and nothing is decided
  pub carries : {l after : Local V R} {d : Doing} {k : ℕ} {hand came : List Addr} {freed : List SpanRef} {todo : List Planned} → account_of about l ≡ bare d k hand todo
      → Moved k hand came freed → HasFreed d came → Silent about l after (with_hand (bare d k hand todo) came freed) → Done l after
  carries {l = l} {after = after} {came = came} {freed = freed} is move frees silent =
      does_by r about store.books is (MovesHand new came freed (account_of about after) move store.cut frees refl silent.weighs) silent.acts (silent.answers ∙ sym (append-nil l.answers))

  -- an allocation gets the first of the objects that came to its hand
  module _ (l : Local V R) (v : V) (regs : Regs) (asking : Asking) {o : Addr} {others : List Addr} (class : regs.class ≡ l.regs.class)
      (hand : regs.hand.items ≡ o ∷ others) (asked : class_of m.rows asking.size ≡ Some l.regs.class) where
    abbrev served : Local V R
    served = serves r.calls (record l { seat = v; regs = regs }) asking

    gets_by : (a : Account) → account_of about l ≡ a → (WeighSame (bare (Publishes asking.label (Some o)) l.regs.class.0 others l.rest) (account_of about served)
        → Moves a (account_of about served) (got_it asking o (size_of m.rows l.regs.class.0) ∷ [])) → Done l served
    gets_by a is move = grind (arith, bare, does_by, serves_as, weighs_is)

    pub gets_object : account_of about l ≡ bare (Asks asking.label asking.size) l.regs.class.0 [] l.rest → Moved l.regs.class.0 [] (o ∷ others) [] → Done l served
    gets_object is move =
        gets_by (bare (Asks asking.label asking.size) l.regs.class.0 [] l.rest) is
        (λ weighs. GetsObject asking.label asking.size new o others (account_of about served) refl asked refl move store.cut weighs)

    -- with the first objects of a span that it added
    pub gets_first : (run : Run) → account_of about l ≡ adding l asking run [] → AddSpan (stock_of r about p) new l.regs.class.0 (small l.regs.class run) (o ∷ others) → Done l served
    gets_first run is add =
        gets_by (adding l asking run []) is
        (λ weighs. GetsFirst asking.label asking.size new run o others [] [] (account_of about served) refl refl asked refl refl refl add store.cut weighs)

  -- a free is decided, with an empty hand then
  frees_spans : {l after : Local V R} (f : Freeing) {k : ℕ} {hand : List Addr} (freed : List SpanRef) → account_of about l ≡ bare (Frees f.label f.addr) k hand l.rest
      → Moved k hand [] freed → WeighSame (with_hand (bare Other k hand l.rest) [] freed) (account_of about after) → after.acts ≡ l.acts + 1
      → after.answers ≡ l.answers ++ record { act = l.acts; call = Free f.label; answer = Freed f.addr } ∷ [] → Done l after
  frees_spans {after = after} f freed is move weighs acts answers =
      does_by r about store.books {said = record { call = Free f.label; answer = Freed f.addr } ∷ []} is
      (FreesObject f.label f.addr new freed (account_of about after) refl move store.cut refl weighs) acts answers

  pub frees_object : {l : Local V R} (v : V) (regs : Regs) (freed : Contents SpanRef) (f : Freeing) {k : ℕ} {hand : List Addr} → account_of about l ≡ bare (Frees f.label f.addr) k hand l.rest
      → regs.hand.items ≡ [] → Moved k hand [] [] → Done l (ends r.calls (decided (record l { seat = v; regs = regs; freed = freed }) (Free f.label) (Freed f.addr)))
  frees_object {l = l} v regs freed f {k = k} is none move = grind (arith, ends_as, frees_spans)

  -- a hand is given away, and perhaps spans leave
  module _ (l : Local V R) (bag : Contents SpanRef) where
    abbrev k : ℕ
    k = l.regs.class.0

    abbrev hand : List Addr
    hand = l.regs.hand.items

    abbrev given : Local V R
    given = record (to_hand l (emptied l.regs.hand)) { freed = bag }

    abbrev Own : Giving R → Type 0
    Own g = account_of about l ≡ bare (doing_about (about_giving about g)) k hand l.rest

    -- no span leaves, and the call ends or goes on
    pub gives_hand : (g : Giving R) → IsGiving r.calls.rows about hand g → Own g → Moved k hand [] [] → Done l (gave r.calls given g [])
    gives_hand (giving.Rest s) gives is move = carries is move (λ label o doing. cc) (record { weighs = weighs_same _; acts = refl; answers = refl })
    gives_hand (giving.Freed f) gives is move = frees_object l.seat (record l.regs { hand = emptied l.regs.hand }) bag f is refl move
    gives_hand (giving.Row j row) gives is move =
        carries (is ∙ ap (λ (d : Doing). bare d k hand l.rest) (other_doing (about row) gives.1)) move (λ label o doing. cc) (comes_as about given j row k gives.1 refl)
    gives_hand giving.End gives is move = carries is move (λ label o doing. cc) (ends_as r.calls about entries given k refl)

    -- spans leave with that: they are to be cleared
    spans_weigh : (d : Doing) (freed : List SpanRef) → bag.items ≡ freed
        → WeighSame (with_hand (bare d k hand l.rest) [] freed) (record (bare d k [] l.rest) { apart = bag.items; mapped = bag.items })
    spans_weigh d freed are = grind (arith, append-nil, bare, weighs_is)

    pub gives_spans : (g : Giving R) (s : SpanRef) (more : List SpanRef) → IsGiving r.calls.rows about hand g → bag.items ≡ s ∷ more → Own g → Moved k hand [] (s ∷ more)
        → Done l (gave r.calls given g (s ∷ more))
    gives_spans (giving.Rest v) s more gives are is move =
        carries is move (λ label o doing. cc) (record { weighs = spans_weigh (Publishes v.label (Some v.addr)) (s ∷ more) are; acts = refl; answers = refl })
    gives_spans (giving.Freed f) s more gives are is move = frees_spans f (s ∷ more) is move (spans_weigh Other (s ∷ more) are) refl refl
    gives_spans (giving.Row j row) s more gives are is move =
        let other = other_doing (about row) gives.1 in
        carries is move (λ label o doing. cc) (record { weighs = spans_weigh (doing_about (about row)) (s ∷ more) are; acts = refl; answers = refl })
    gives_spans giving.End s more gives are is move = carries is move (λ label o doing. cc) (record { weighs = spans_weigh Other (s ∷ more) are; acts = refl; answers = refl })

  -- no object moves, and something may be decided that is of no label
  pub says_other : {l after : Local V R} {a : Account} (said : List Said) → account_of about l ≡ a → stock_of r about p ≡ new → SaysOther said
      → WeighSame a (account_of about after) → after.acts ≡ l.acts + 1 → after.answers ≡ l.answers ++ decided_at l.acts said → Done l after
  says_other {after = after} {a = a} said is same other weighs acts answers =
      does_by r about store.books is
      (subst (λ (g : Stock). Move m (settled r about b p) a g b.heap b.spans p.names (account_of about after) said) same (Rests (account_of about after) said weighs other)) acts answers
