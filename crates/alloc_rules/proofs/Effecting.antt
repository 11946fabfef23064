-- What a release unbacks and what a fetch finds, in an act of a thread.
use Rattle.std.proofs.Common.{◌≡◌, ◌↔◌, ◌<◌, List, [], ◌∷◌, ◌++◌, length, refl, sym, ap, subst, arith}
use Rattle.alloc_rules.proofs.Common.{Addr, Asking, Serving, FrontRules, About, Step, Local, Part, decided, class_row, with_more, fetches, serves_first, shard_after}
use Rattle.alloc_rules.proofs.Common.{heap_after, length-append, Release, Released, release, IsSound, stock_step}
use Rattle.heap_rules.proofs.ReleaseDoes.{release_does}
use Rattle.heap_rules.specs.Heap as heaps
use Rattle.class_shard.proofs.FetchFinds.{fetch_finds}
use Rattle.class_shard.specs.Shard.{Shard, fetched, IsEmpty}
use Rattle.call_steps.specs.declared.step.Step.TheVariants as does
use Rattle.call_steps.specs.declared.step.HeapStep.TheVariants as heap
use Rattle.alloc_rules.specs.declared.part.Part.TheVariants as part
use Rattle.alloc_rules.specs.Effects.{Releases, ReleasesThere, FindsThere}
use Rattle.alloc_rules.proofs.Answering.{ends_goes}

module _ {P V R : Type 0} (r : FrontRules P V R) (about : R → About) where
  pub releases_there : (h : heaps.Heap) (l : Local V R) → IsSound h → ReleasesThere r about h l
  releases_there h l sound n step =
      let left : Step R → Part P × Local V R = λ s. (part.Heap (heap_after r.calls h l s).0, (heap_after r.calls h l s).1) in
      subst (λ s. Releases h n l (left s)) (sym step) (record {
        heap = (release h n).heap;
        told = (release h n).pages;
        part = refl;
        answer = record { call = Release n; answers = (ends_goes r.calls (decided l (Release n) (Released (release h n).pages))).answers };
        does = release_does h n sound;
      })

  -- what is served goes on elsewhere than at the heap
  stocks_on : (s : Serving) (others : List Addr) (a : Asking) (l : Local V R) → stock_step r.calls l.seat s others ≡ does.Heap (heap.NewSpan a) → ⊥
  stocks_on s others a l is = grind arith

  serves_on : (a : Asking) (l : Local V R) (hand : List Addr) → 0 < length hand → (serves_first r.calls l a hand).step ≡ does.Heap (heap.NewSpan a) → ⊥
  serves_on a l [] some is = omega arith
  serves_on a l (o ∷ others) some is = stocks_on (record { label = a.label; addr = o }) others a l is

  some_behind : (hand : List Addr) (o : Addr) (others : List Addr) → 0 < length (hand ++ o ∷ others)
  some_behind hand o others = omega (arith, length-append hand (o ∷ others))

  misses : (a : Asking) (l : Local V R) (got : List Addr) → ((fetches r.calls l a got).step ≡ does.Heap (heap.NewSpan a)) ↔ (got ≡ [])
  misses a l [] = (λ is. refl, λ is. refl)
  misses a l (o ∷ others) = (
    λ is. absurd (serves_on a (with_more l (o ∷ others)) (l.regs.hand.items ++ o ∷ others) (some_behind l.regs.hand.items o others) is),
    λ is. let e = ap length is in absurd (omega (arith, e)),
  )

  both : {A B C : Type 0} → A ↔ B → B ↔ C → A ↔ C
  both one two = (λ a. two.0 (one.0 a), λ c. one.1 (two.1 c))

  pub finds_there : (x : Shard) (l : Local V R) → 0 < (class_row r.calls.rows l).batch → FindsThere r about x l
  finds_there x l some a step =
      subst (λ (s : Step R). ((shard_after r.calls x l s).1.step ≡ does.Heap (heap.NewSpan a)) ↔ IsEmpty x) (sym step)
      (both (misses a l (fetched (class_row r.calls.rows l).batch x)) (fetch_finds (class_row r.calls.rows l).batch x some))
