-- Accounts that weigh the same: one that nothing changes, and one that ends its call and begins the next.
use Rattle.std.proofs.Common.{◌≡◌, ℕ, ◌+◌, Bool, cond, List, [], ◌∷◌, Option, Some, None, refl, ap, sym, subst, arith}
use Rattle.alloc_rules.proofs.Common.{Addr, Class, Label, class_of, Call, Malloc, Free, Release, Drain, Resize, Planned, objects_at, Account, Doing, Takes, regs_of_call}
use Rattle.alloc_rules.proofs.Common.{Other, WeighSame, asking, publishing, taking, loose, got, put, first_of_call}
use Rattle.alloc_rules.proofs.Common.{next_call, ends, Local, step_or, Step, FrontCalls, AreEntries, IsEntry, About, account_of, doing_about}
use Rattle.holdings.specs.Accounts.{holds}
use Rattle.call_steps.specs.declared.step.Step.TheVariants as step
use Rattle.call_steps.specs.Calls as about
use Rattle.alloc_rules.proofs.ScriptFacts.{closes, first_of_malloc, regs_of_malloc}

-- an account that holds no span and no run, and one that has nothing to do with a label either
abbrev pub bare : Doing → ℕ → List Addr → List Planned → Account
bare doing class hand todo = record { doing = doing; class = class; hand = hand; off = []; apart = []; mapped = []; clears = []; todo = todo }

abbrev pub quiet : ℕ → List Planned → Account
quiet class todo = bare Other class [] todo

pub weighs_same : (a : Account) → WeighSame a a
weighs_same a = grind arith

pub weighs_is : (a b : Account) → b ≡ a → WeighSame a b
weighs_is a b is = subst (WeighSame a) (sym is) (weighs_same a)

-- an empty hand has no object of any class
pub none_in_hand : (k n : ℕ) (b : Bool) (hand : List Addr) → hand ≡ [] → cond b (objects_at n hand) 0 ≡ 0
none_in_hand k n b hand none = grind arith

-- with an empty hand the class is nothing
pub weighs_quiet : (k j : ℕ) (hand : List Addr) (todo : List Planned) → hand ≡ [] → WeighSame (quiet k todo) (bare Other j hand todo)
weighs_quiet k j hand todo none = grind (arith, none_in_hand)

-- a call is begun: what its script had to do with labels, its first act has
begun : (k j : ℕ) (hand : List Addr) (d : Doing) (p : Planned) (rest : List Planned) → hand ≡ []
    → ((x : ℕ) → asking x d ≡ got x p.call) → ((x : ℕ) → publishing x d ≡ 0) → ((x : ℕ) → taking x d ≡ put x p.call)
    → ((x : ℕ) (v : Option Addr) → holds x v d ≡ 0) → ((n : ℕ) → loose n d ≡ 0)
    → WeighSame (quiet k (p ∷ rest)) (bare d j hand rest)
begun k j hand d p rest none asks publishes takes value loosely = grind (arith, none_in_hand)

-- a step that has a row of the front-end or another one, both about this
pub entry_is : {V R : Type 0} (of : R → About) (l : Local V R) (other : Step R) (a : About) (o : Option R) → IsEntry of a o
    → account_of of (record l { step = other }) ≡ bare (doing_about a) l.regs.class.0 l.regs.hand.items l.rest
    → account_of of (record l { step = step_or other o }) ≡ bare (doing_about a) l.regs.class.0 l.regs.hand.items l.rest
entry_is of l other a o is same = grind arith

module _ {V R : Type 0} (e : FrontCalls V R) (of : R → About) (entries : AreEntries e of) where
  -- a call is begun with registers whose hand is empty
  module _ (l : Local V R) (k : ℕ) (none : l.regs.hand.items ≡ []) where
    malloc_weighs : (v : V) (label : Label) (size : ℕ) (p : Planned) (rest : List Planned) (c : Option Class) → p.call ≡ Malloc label size
        → WeighSame (quiet k (p ∷ rest)) (account_of of (record l { seat = v; step = first_of_malloc e v c label size; regs = record (regs_of_malloc e c l.regs) { ran = 0 }; rest = rest }))
    malloc_weighs v label size p rest c is = grind (arith, begun, entry_is)

    -- one of the front-end's own
    own_weighs : (v : V) (call : Call) (p : Planned) (rest : List Planned) → ((x : ℕ) → got x p.call ≡ 0) → ((x : ℕ) → put x p.call ≡ 0)
        → WeighSame (quiet k (p ∷ rest)) (account_of of (record l { seat = v; step = step_or step.Ended (e.other v call); regs = record (e.to_other call l.regs) { ran = 0 }; rest = rest }))
    own_weighs v call p rest got_none put_none = grind (arith, begun, entry_is)

    call_weighs : (v : V) (call : Call) (p : Planned) (rest : List Planned) → p.call ≡ call
        → WeighSame (quiet k (p ∷ rest)) (account_of of (record l { seat = v; step = first_of_call e v call; regs = record (regs_of_call e call l.regs) { ran = 0 }; rest = rest }))
    call_weighs v (Malloc label size) p rest is = malloc_weighs v label size p rest (class_of e.rows size) is
    call_weighs v (Free label) p rest is =
        begun k l.regs.class.0 l.regs.hand.items (Takes label) p rest none (λ x. ap (got x) (sym is)) (λ x. refl) (λ x. ap (put x) (sym is)) (λ x w. refl) (λ n. refl)
    call_weighs v (Release pages) p rest is =
        begun k l.regs.class.0 l.regs.hand.items Other p rest none (λ x. ap (got x) (sym is)) (λ x. refl) (λ x. ap (put x) (sym is)) (λ x w. refl) (λ n. refl)
    call_weighs v (Drain c) p rest is = own_weighs v (Drain c) p rest (λ x. ap (got x) is) (λ x. ap (put x) is)
    call_weighs v (Resize c class most) p rest is = own_weighs v (Resize c class most) p rest (λ x. ap (got x) is) (λ x. ap (put x) is)

    script_weighs : (calls : List Planned) → WeighSame (quiet k calls) (account_of of (next_call e l calls))
    script_weighs [] = weighs_quiet k l.regs.class.0 l.regs.hand.items [] none
    script_weighs (p ∷ rest) = call_weighs (e.begins l.seat (Some p)) p.call p rest refl

  -- a call ends: the next one is begun, or a row of the front-end comes first
  closes_weighs : (l : Local V R) (k : ℕ) → l.regs.hand.items ≡ [] → (o : Option R) → IsEntry of (about.Other None) o → WeighSame (quiet k l.rest) (account_of of (closes e l o))
  closes_weighs l k none None entry = script_weighs (record l { ended = l.ended + 1 }) k none l.rest
  closes_weighs l k none (Some row) entry = grind (arith, weighs_quiet)

  pub weighs_next : (l : Local V R) (k : ℕ) → l.regs.hand.items ≡ [] → WeighSame (quiet k l.rest) (account_of of (ends e l))
  weighs_next l k none = closes_weighs (record l { acts = l.acts + 1 }) k none (e.last l.seat) (entries.last_about l.seat)

-- that is one act more, with no further answer
pub ends_counts : {V R : Type 0} (e : FrontCalls V R) (l : Local V R) → ((ends e l).acts ≡ l.acts + 1) × ((ends e l).answers ≡ l.answers)
ends_counts e l = grind arith
