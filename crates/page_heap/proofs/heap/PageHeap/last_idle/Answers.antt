use Rattle.std.proofs.Common.{◌≡◌, ℕ, zero, suc, ◌-◌, ◌<◌, ◌≤◌, false, refl, sym, ap, ◌∙◌, inl, inr, arith}
use Rattle.page_heap.proofs.Common.{cases_lt, cases_eq, Heap, is_idle}
use Rattle.page_heap.proofs.Gives.{idle_none}
use Rattle.page_heap.proofs.Idle.{idle_nowhere, idle_behind, region_there}
use Rattle.page_heap.proofs.Results.{is_heap}
use Rattle.page_heap.proofs.heap.PageHeap.last_idle.Goals as goal

pub loop-above-init : goal.loop-above-init
loop-above-init c = record { within = c.requires.small; behind = c.requires.behind }

pub returns-in_err-huge-clause-none : goal.returns-in_err-huge-clause-none
returns-in_err-huge-clause-none c =
    rw c.from_residual.ensures (λ n. idle_none c.args.self.now n (λ h. elim (cases_lt c.loop-above.above h) [
      | inl far ↦ c.loop-above.invariant.behind h far
      | inr near ↦ idle_nowhere (is_heap c.self.invariant c.self.view_is) h (c.in_err-huge.ensures.none h near)
    ]))

pub is_idle-requires : goal.is_idle-requires
is_idle-requires c = region_there (is_heap c.self.invariant c.self.view_is) c.in_ok-huge.huge.0 c.in_ok-huge.ensures.found

pub returns-then-is_idle-clause-last : goal.returns-then-is_idle-clause-last
returns-then-is_idle-clause-last c =
    let is = is_heap c.self.invariant c.self.view_is in
    record {
      own = region_there is c.in_ok-huge.huge.0 c.in_ok-huge.ensures.found;
      passes = sym c.is_idle.ensures ∙ c.if-is_idle.true;
      behind = idle_behind is c.in_ok-huge.huge.0 c.loop-above.above c.in_ok-huge.ensures.behind c.loop-above.invariant.behind;
    }

pub overflow_sub-above : goal.overflow_sub-above
overflow_sub-above c =
    omega (arith, (region_there (is_heap c.self.invariant c.self.view_is) c.in_ok-huge.huge.0 c.in_ok-huge.ensures.found).from, c.from-above.ensures)

pub loop-above-preserved : goal.loop-above-preserved
loop-above-preserved c =
    let is = is_heap c.self.invariant c.self.view_is in
    let huge = c.in_ok-huge.huge.0 in
    record {
      within = omega (arith, c.from-above.ensures);
      behind = λ h l. elim (cases_eq h huge) [
        | inl same ↦ ap (is_idle c.args.self.now) same ∙ sym c.is_idle.ensures ∙ c.if-is_idle.false
        | inr other ↦ idle_behind is huge c.loop-above.above c.in_ok-huge.ensures.behind c.loop-above.invariant.behind h (past huge h c.from-above.result l c.from-above.ensures other)
      ];
    }
  where
    past : (huge h : ℕ) (from : ℕ) → from - 1 < h → from ≡ huge → (h ≡ huge → ⊥) → huge < h
    past huge h from l e ne = elim (cases_lt huge h) [ inl a ↦ a | inr b ↦ absurd (ne (omega arith)) ]

pub returns-clause-none : goal.returns-clause-none
returns-clause-none c = λ n. idle_none c.args.self.now n (λ h. at_all c.args.self.now c.loop-above.above h c.loop-above-test.false c.loop-above.invariant.behind)
  where
    at_all : (heap : Heap) (above h : ℕ) → above ≤ 0 → ((k : ℕ) → above < k → is_idle heap k ≡ false) → is_idle heap h ≡ false
    at_all heap above zero e past = refl
    at_all heap above (suc k) e past = past (suc k) (omega arith)
