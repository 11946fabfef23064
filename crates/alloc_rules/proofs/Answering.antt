-- An allocation is answered none exactly where the heap has no run for it.
use Rattle.std.proofs.Common.{◌≡◌, ℕ, ◌≤◌, ◌↔◌, Bool, true, [], ◌∷◌, ◌++◌, length, Option, Some, None, refl, sym, ap, ◌∙◌, arith}
use Rattle.alloc_rules.proofs.Common.{append_cancel_left, length-append, pages_holding, Label, Call, Malloc, Answer, Block, NoBlock, Placed, new, none_fits}
use Rattle.alloc_rules.proofs.Common.{address_of, Asking, FrontCalls, FrontRules, ends, class_row, Local, after_new, after_new_span}
use Rattle.alloc_rules.proofs.Common.{heap_after, Decides, pages_asked, AnswersNone, Step, About}
use Rattle.heap_rules.specs.Heap as heaps
use Rattle.call_steps.specs.declared.step.Step.TheVariants as does
use Rattle.call_steps.specs.declared.step.HeapStep.TheVariants as heap

-- a local has decided this call, and answered so
abbrev pub Answers : {V R : Type 0} → Local V R → Local V R → Call → Answer → Type 0
Answers l next call answer = next.answers ≡ l.answers ++ record { act = l.acts; call = call; answer = answer } ∷ []

pub decides_by : {V R : Type 0} (l next : Local V R) (call : Call) (x y : Answer) → Answers l next call x → Decides l next y ↔ (x ≡ y)
decides_by l next call x y is = grind (arith, append_cancel_left)

pub decides_none : {V R : Type 0} (l next : Local V R) (y : Answer) → next.answers ≡ l.answers → Decides l next y → ⊥
decides_none l next y same d = absurd (omega (arith, ap length (sym same ∙ d.answers), length-append l.answers (record { act = l.acts; call = d.call; answer = y } ∷ [])))

-- A local that goes on as another did: with its answers, and no fewer ended calls. A call that ends does.
pub record GoesAs {V R : Type 0} (x y : Local V R) : Type 0 where
  pub ended : x.ended ≤ y.ended
  pub answers : y.answers ≡ x.answers

pub ends_goes : {V R : Type 0} (e : FrontCalls V R) (x : Local V R) → GoesAs x (ends e x)
ends_goes e x = grind arith

-- none, by what the heap gives
module _ {V R : Type 0} (h : heaps.Heap) (l : Local V R) (b : Bool) where
  none_of_block : (label : Label) (size : ℕ) (o : Option Placed) → ((o ≡ None) ↔ (b ≡ true)) → Decides l (after_new h l label size o).1 NoBlock ↔ (b ≡ true)
  none_of_block label size None law = (λ d. law.0 refl, λ is. record { call = Malloc label size; answers = refl })
  none_of_block label size (Some x) law = (
    λ d. let wrong : Block (address_of x.run) _ ≡ NoBlock = (decides_by l _ (Malloc label size) (Block (address_of x.run) _) NoBlock refl).0 d in absurd (cc),
    λ is. let wrong : Some x ≡ None = law.1 is in absurd (cc),
  )

  none_of_span : (a : Asking) (o : Option Placed) → ((o ≡ None) ↔ (b ≡ true)) → Decides l (after_new_span h l a o).1 NoBlock ↔ (b ≡ true)
  none_of_span a None law = (λ d. law.0 refl, λ is. record { call = Malloc a.label a.size; answers = refl })
  none_of_span a (Some x) law = (λ d. absurd (decides_none l _ NoBlock refl d), λ is. let wrong : Some x ≡ None = law.1 is in absurd (cc))

none_by_step : {P V R : Type 0} (r : FrontRules P V R) (about : R → About) (h : heaps.Heap) (l : Local V R) (s : Step R) (n : ℕ) → ((new h n ≡ None) ↔ (none_fits h n ≡ true))
    → pages_asked r.calls.rows l s ≡ Some n → Decides l (heap_after r.calls h l s).1 NoBlock ↔ (none_fits h n ≡ true)
none_by_step r about h l (does.Heap (heap.New label size)) n law is = grind (arith, none_of_block h l (none_fits h n) label size (new h (pages_holding size)))
none_by_step r about h l (does.Heap (heap.NewSpan a)) n law is = grind (arith, none_of_span h l (none_fits h n) a (new h (class_row r.calls.rows l).pages))
none_by_step r about h l s n law is = absurd (cc)

pub answers_none : {P V R : Type 0} (r : FrontRules P V R) (about : R → About) (h : heaps.Heap) (l : Local V R)
    → ((n : ℕ) → pages_asked r.calls.rows l l.step ≡ Some n → (new h n ≡ None) ↔ (none_fits h n ≡ true)) → AnswersNone r about h l
answers_none r about h l law n is = none_by_step r about h l l.step n (law n is) is
