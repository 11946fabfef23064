-- An act of the front-end is one move of the books: objects move between its part and the hand, and its call goes on or is decided.
use Rattle.std.proofs.Common.{◌≡◌, ℕ, ◌+◌, ◌<◌, ◌⊎◌, List, [], ◌∷◌, Option, Some, None, refl, sym, ap, ◌∙◌, subst, inl, inr, arith, length, slice_get}
use Rattle.std.proofs.Common.{slice_set}
use Rattle.alloc_rules.proofs.Common.{eq-eqb, Addr, Class, Free, Freed, SpanRef, Regs, ClassRow, Serving, Freeing, Planned, Answer, CallLine, HeapConfig}
use Rattle.alloc_rules.proofs.Common.{objects_at, Doing, Other, WeighSame, Books, One, MoveObjects, Asking, Giving, Next, Local, decided, goes, ends, publishes}
use Rattle.alloc_rules.proofs.Common.{serves, gave, About, HasNoLabel, call_about, MayDecide, MayGoOnDecided}
use Rattle.alloc_rules.proofs.Common.{follows, BeginsWith, account_of, doing_about, HandAbout, StepShape, IsNext, IsAct, AreEntries, FrontRules}
use Rattle.alloc_rules.proofs.Common.{Left, Parts, front_after, stock_of, Does, setup, IsBefore, FrontActsMove}
use Rattle.call_steps.specs.declared.step.Giving.TheVariants as giving
use Rattle.call_steps.specs.declared.step.Next.TheVariants as next
use Rattle.call_steps.specs.declared.step.Step.TheVariants as does
use Rattle.call_steps.specs.Calls as calls
use Rattle.alloc_rules.proofs.CutOf.{cut_of}
use Rattle.alloc_rules.proofs.Goings.{HasFreed, Restocked, Silent, carries, comes_as, ends_as, frees_object, gets_object, other_doing, says_other}
use Rattle.alloc_rules.proofs.Stored.{front_stored, stock_same, stores_move, with_stores}
use Rattle.alloc_rules.proofs.Weighing.{bare, none_in_hand, quiet, weighs_same}
use Rattle.std.proofs.lemmas.Bool.Decides.{nat_tests}

-- an object at the head of a list is there
begins_has : (a : Addr) (hand : List Addr) → BeginsWith a hand → 0 < objects_at a.0 hand
begins_has a hand begins = grind (arith, eq-eqb)

-- what a row's call frees is in hand
pub frees_has : (rows : List ClassRow) (g : Regs) (a : About) → HandAbout rows g a → HasFreed (doing_about a) g.hand.items
frees_has rows g a shape label o doing = grind (arith, begins_has)

-- in hand nothing has a class
weighs_class : (d : Doing) (k j : ℕ) (hand : List Addr) (todo : List Planned) → (j ≡ k) ⊎ (hand ≡ []) → WeighSame (bare d k hand todo) (bare d j hand todo)
weighs_class d k j hand todo given = grind (arith, bare, none_in_hand, weighs_same)

module _ {P V R : Type 0} {r : FrontRules P V R} {about : R → About} {planned : Planned → Type 0} (entries : AreEntries r.calls about) where
  module _ {huge labels : ℕ} {limits : HeapConfig} {p : Parts P} {locals : List (Local V R)} {b : Books} {lines : List CallLine} {t : ℕ} {l : Local V R}
      (i : ℕ) (q : P) (row : R) (before : IsBefore r about planned huge labels limits p locals b lines t l) (at : slice_get p.fronts i ≡ Some q)
      (shape : HandAbout r.calls.rows l.regs (about row)) (none_freed : l.freed.items ≡ []) (act : IsAct r about q l.regs row (r.acts q l.seat l.regs row)) where
    abbrev x : Left P V R
    x = r.acts q l.seat l.regs row

    abbrev fronts : List P
    fronts = slice_set p.fronts i x.part

    abbrev at_row : Local V R
    at_row = record l { step = does.Front row }

    abbrev then : Local V R
    then = record at_row { seat = x.seat; regs = x.regs }

    abbrev d : Doing
    d = doing_about (about row)

    abbrev k : ℕ
    k = l.regs.class.0

    abbrev hand : List Addr
    hand = l.regs.hand.items

    abbrev came : List Addr
    came = x.regs.hand.items

    abbrev Goal : Local V R → Type 0
    Goal after = Does r about (setup r huge labels) (with_stores p fronts p.shards) b at_row after

    abbrev Moved : List Addr → List Addr → Type 0
    Moved before after = MoveObjects (stock_of r about p) (stock_of r about (with_stores p fronts p.shards)) k before after []

    store : Restocked r about p locals b (with_stores p fronts p.shards)
    store = record { books = before.books; cut = cut_of r about r.calls.rows (with_stores p fronts p.shards) before.parts.classes before.parts.shards }

    objects : Moved hand came
    objects = grind (arith, stores_move r about p fronts k hand came, front_stored r about p i q x.part)

    same_or_none : (x.regs.class.0 ≡ k) ⊎ (came ≡ [])
    same_or_none = elim act.class [ inl same ↦ inl (ap (λ (c : Class). c.0) same) | inr none ↦ inr none.0 ]

    -- the call goes on about the same
    on : (after : Local V R) → HasFreed d came → account_of about after ≡ bare d x.regs.class.0 came l.rest → after.acts ≡ l.acts + 1 → after.answers ≡ l.answers → Goal after
    on after frees account acts answers =
        let weighs = subst (WeighSame (bare d k came l.rest)) (sym account) (weighs_class d k x.regs.class.0 came l.rest same_or_none) in
        carries entries huge labels store {l = at_row} refl objects frees (record { weighs = weighs; acts = acts; answers = answers })

    with_about : (a : About) → about row ≡ a → account_of about at_row ≡ bare (doing_about a) k hand l.rest
    with_about a is = ap (λ (y : About). bare (doing_about y) k hand l.rest) is

    -- with nothing in hand it ends, or goes on without a label
    given : came ≡ [] → Moved hand []
    given none = subst (Moved hand) none objects

    quiets : (a : About) → about row ≡ a → doing_about a ≡ Other → came ≡ [] → (after : Local V R) → Silent about at_row after (quiet k l.rest) → Goal after
    quiets a is other none after silent =
        carries entries huge labels store (with_about a is ∙ ap (λ (y : Doing). bare y k hand l.rest) other) (given none) (λ label o wrong. absurd (cc)) silent

    publishing : (s : Serving) → about row ≡ calls.Publishes s → came ≡ [] → Goal (publishes then s)
    publishing s is none = grind (arith, bare, on)

    freeing : (f : Freeing) → about row ≡ calls.Frees f → came ≡ [] → Goal (ends r.calls (decided then (Free f.label) (Freed f.addr)))
    freeing f is none = frees_object entries huge labels store x.seat x.regs l.freed f (with_about (calls.Frees f) is) none (given none)

    -- an allocation gets the first object that came to its hand
    serving : (a : Asking) → about row ≡ calls.Asks a → HandAbout r.calls.rows l.regs (calls.Asks a) → (xs : List Addr) → came ≡ xs → 0 < length xs → Goal (serves r.calls then a)
    serving a is has [] are some = absurd (omega arith)
    serving a is has (o ∷ others) are some =
        let class : x.regs.class ≡ l.regs.class = elim act.class [ inl same ↦ same | inr none ↦ absurd (subst HasNoLabel is none.1) ] in
        gets_object entries huge labels store at_row x.seat x.regs a class are has.0 (with_about (calls.Asks a) is ∙ ap (λ (h : List Addr). bare (doing_about (calls.Asks a)) k h l.rest) has.1)
        (subst (λ (h : List Addr). Moved h (o ∷ others)) has.1 (subst (Moved hand) are objects))

    -- a call without a label is decided: no object moves
    stays_stocked : came ≡ hand → stock_of r about p ≡ stock_of r about (with_stores p fronts p.shards)
    stays_stocked same = grind (arith, nat_tests, stock_same r about p fronts, front_stored r about p i q x.part)

    decides : (a : About) (answer : Answer) (to : Option R) → about row ≡ a → MayDecide a answer → came ≡ hand → MayGoOnDecided about to → (to ≡ None → came ≡ [])
        → Goal (follows r.calls then (call_about a) (next.Decide answer to))
    decides (calls.Other (Some call)) answer None is may same on_decided none =
        let silent = ends_as r.calls about entries (decided then call answer) k (none refl) in
        let own = with_about (calls.Other (Some call)) is ∙ ap (λ (h : List Addr). bare Other k h l.rest) (sym same ∙ none refl) in
        says_other entries huge labels store (record { call = call; answer = answer } ∷ []) own (stays_stocked same) (One _ may) silent.weighs silent.acts silent.answers
    decides (calls.Other (Some call)) answer (Some to) is may same on_decided none =
        let weighs = weighs_class Other k x.regs.class.0 came l.rest same_or_none in
        let own = with_about (calls.Other (Some call)) is ∙ ap (λ (h : List Addr). bare Other k h l.rest) (sym same) in
        says_other entries huge labels store (record { call = call; answer = answer } ∷ []) own (stays_stocked same) (One _ may)
        (subst (λ (y : About). WeighSame (bare Other k came l.rest) (bare (doing_about y) x.regs.class.0 came l.rest)) (sym on_decided) weighs) refl refl
    decides a answer to is may same on_decided none = absurd may

    -- a hand that the front-end took itself
    gives : (g : Giving R) → IsNext r about row l.regs x.regs (next.Gave g) → Goal (gave r.calls then g [])
    gives (giving.Rest s) may = publishing s may.0 may.1
    gives (giving.Freed f) may = freeing f may.0 may.1
    gives (giving.Row j to) may = quiets (about to) may.0 (other_doing (about to) may.2.1) may.1 _ (comes_as about then j to k may.2.1 may.1)
    gives giving.End may = quiets (calls.Other None) may.0 refl may.1 (ends r.calls then) (ends_as r.calls about entries then k may.1)

    follows_on : (n : Next R) → IsNext r about row l.regs x.regs n → Goal (follows r.calls then (call_about (about row)) n)
    follows_on (next.Row to) may =
        on (goes then (does.Front to)) (frees_has r.calls.rows x.regs (about row) may.1) (ap (λ (y : About). bare (doing_about y) x.regs.class.0 came l.rest) may.0) refl refl
    follows_on (next.Serve a) may = serving a may.0 (subst (HandAbout r.calls.rows l.regs) may.0 shape) came refl may.1
    follows_on (next.Fetch a) may = grind (arith, bare, on)
    follows_on (next.Give g) may = grind (arith, bare, begins_has, other_doing, on)
    follows_on (next.Gave g) may = subst (λ (ss : List SpanRef). Goal (gave r.calls then g ss)) (sym none_freed) (gives g may)
    follows_on (next.Publish s) may = publishing s may.0 may.1
    follows_on (next.Freed f) may = freeing f may.0 may.1
    follows_on (next.Decide answer None) may = decides (about row) answer None refl may.0 may.1 tt (λ e. may.2)
    follows_on (next.Decide answer (Some to)) may = decides (about row) answer (Some to) refl may.0 may.1 may.2 (λ e. absurd (cc))
    follows_on next.End may = quiets (calls.Other None) may.0 refl may.1 (ends r.calls then) (ends_as r.calls about entries then k may.1)

  pub front_acts_move : FrontActsMove r about planned
  front_acts_move huge labels limits p locals b lines t l i q row before step at act =
      let is : record l { step = does.Front row } ≡ l = ap (λ s. record l { step = s }) (sym step) in
      let shape = subst (StepShape r.calls.rows about l) step before.shaped.step in
      subst (λ (y : Local V R). Does r about (setup r huge labels) (with_stores p (slice_set p.fronts i (front_after r about q y (does.Front row)).0) p.shards) b y (front_after r about q y (does.Front row)).1) is
      (follows_on i q row before at shape.0 shape.1 act (r.acts q l.seat l.regs row).next act.next)
