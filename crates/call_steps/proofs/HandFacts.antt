-- Hands as their items and their room, and how calls go on.
use Rattle.std.proofs.Common.{◌≡◌, ℕ, ◌+◌, List, ◌∷◌, drop, Option, Some, None, true, ap, sym, ◌∙◌, refl}
use Rattle.std.specs.Prelude.{is_some}
use Rattle.std.proofs.Common.{arith}
use Rattle.tc_units.specs.Bag.{Contents}
use Rattle.tc_units.specs.declared.units.Addr.{Addr}
use Rattle.tc_units.specs.declared.spans.ClassRow.{ClassRow}
use Rattle.tc_model.specs.declared.calls.Call.{Call}
use Rattle.tc_model.specs.declared.answers.Answer.{Answer}
use Rattle.rseq_core.specs.Bags.{without_first}
use Rattle.tc_model.specs.declared.calls.Call.TheVariants.{Malloc}
use Rattle.tc_model.specs.declared.answers.Answer.TheVariants.{Block}
use Rattle.rseq_core.specs.declared.regs.Regs.{Regs}
use Rattle.call_steps.specs.declared.step.Asking.{Asking}
use Rattle.call_steps.specs.declared.step.Step.{Step}
use Rattle.call_steps.specs.declared.step.Next.TheVariants as next
use Rattle.call_steps.specs.Hands.{stock_step, stock_regs, serves}
use Rattle.call_steps.specs.Fronts.{FrontCalls}
use Rattle.call_steps.specs.Local.{Local, class_row, decided, goes, ends}
use Rattle.call_steps.specs.Follows.{follows}

-- a bag is its items and its room
pub bag_is : {T : Type 0} (b : Contents T) (items : List T) (spare : ℕ) → b.items ≡ items → b.spare ≡ spare → b ≡ record { items = items; spare = spare }
bag_is {T} b items spare is room = ap (λ xs. let c : Contents T = record { items = xs; spare = b.spare } in c) is ∙ ap (λ n. let c : Contents T = record { items = items; spare = n } in c) room

without_is : (old new : Contents Addr) (a : Addr) → old.items ≡ a ∷ new.items → new.spare ≡ old.spare + 1 → new ≡ without_first 1 old
without_is old new a is room = bag_is new (drop 1 old.items) (old.spare + 1) (sym (ap (drop 1) is)) room

-- a call that was undecided is decided, and ends
pub ends_by : {V R : Type 0} (e : FrontCalls V R) (l new : Local V R) (o : Option Call) (answer : Answer) → is_some o ≡ true
    → ((call : Call) → o ≡ Some call → new ≡ ends e (decided l call answer)) → new ≡ follows e l o (next.Decide answer None)
ends_by e l new None answer some made = absurd (cc)
ends_by e l new (Some call) answer some made = made call refl

-- the first object in hand is the answer, and with the others the allocation stocks the front-end, or it publishes its object
pub served : {V R : Type 0} (e : FrontCalls V R) (l new : Local V R) (asking : Asking) (a : Addr) (hand : Contents Addr) (row : ClassRow) (len : ℕ) (regs : Regs) (next : Step R) → row ≡ class_row e.rows l → len ≡ row.size
    → l.regs.hand.items ≡ a ∷ hand.items → hand.spare ≡ l.regs.hand.spare + 1 → regs ≡ stock_regs e (record l.regs { hand = hand }) hand.items → next ≡ stock_step e l.seat (record { label = asking.label; addr = a }) hand.items
    → new ≡ goes (decided (record l { regs = regs }) (Malloc asking.label asking.size) (Block a len)) next → new ≡ serves e l asking
served {V} {R} e l new asking a hand row len regs next at size is room regs_are next_is made = grind (arith, without_is)
