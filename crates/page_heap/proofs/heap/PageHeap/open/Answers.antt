use Rattle.std.proofs.Common.{◌≡◌, ℕ, zero, suc, ◌+◌, not, List, [], ◌∷◌, map, replicate, Option, None, refl, sym, ap, subst, arith}
use Rattle.page_heap.proofs.Common.{enumerate_from, HeapConfig, Hugepage, untouched, is_free, is_free_backed, opened, AreLimits, IsSound, Measures}
use Rattle.page_heap.proofs.Common.{measured, IsWell}
use Rattle.heap_rules.proofs.Opened.{opened_sound}
use Rattle.page_heap.proofs.Frames.{same_cache}
use Rattle.page_heap.proofs.Results.{IsHeap, kept_by, view_by}
use Rattle.page_heap.proofs.heap.PageHeap.open.Goals as goal
use Rattle.page_heap.proofs.heap.PageHeap.open.Goals.{In_ok-open-3}

all_alike : {X : Type 0} (f : Hugepage → X) (n : ℕ) → replicate n (f untouched) ≡ map f (replicate n untouched)
all_alike f zero = refl
all_alike f (suc n) = ap (λ xs. f untouched ∷ xs) (all_alike f n)

untold : (n first : ℕ) → ◌≡◌ {A = List (Option Measures)} (replicate n None) (map (λ (p : ℕ × Hugepage). measured [] p.0 p.1) (enumerate_from first (replicate n untouched)))
untold zero first = refl
untold (suc n) first = ap (λ xs. None ∷ xs) (untold n (first + 1))

well : (config : HeapConfig) → AreLimits config → IsWell (opened config)
well config limits = record { limits = limits; sound = opened_sound config; ordered = tt; routed = λ run has. absurd (omega (arith, has.1)) }

now : (c : In_ok-open-3) →
    IsHeap (record {
      config = c.args.config.now;
      table = c.in_ok-table.table;
      filler = c.in_ok-open.field-0;
      cache = c.in_ok-open-2.field-0;
      regions =
          c.in_ok-open-3.field-0;
      used = 0;
    }) (opened c.args.config.now)
now c =
    let config = c.args.config.now in
    grind (
      arith,
      c.in_ok-table.ensures config refl,
      untold config.huge 1,
      same_cache,
      all_alike (λ x. not (is_free x)) config.huge,
      all_alike (λ x. not (is_free_backed x)) config.huge,
      well config c.requires,
    )

pub invariant_of-result : goal.invariant_of-result
invariant_of-result c = kept_by (now c)

pub returns-clause-opened : goal.returns-clause-opened
returns-clause-opened c = view_by (now c)

pub returns-clause-sound : goal.returns-clause-sound
returns-clause-sound c = subst IsSound (sym (view_by (now c))) (opened_sound c.args.config.now)
