-- What a run has to tell, from what holds after its order.
use Rattle.std.proofs.Common.{◌≡◌, ℕ, ◌+◌, ◌*◌, ◌≤◌, ◌<◌, List, ◌∷◌, [], length, map, Some, refl, ap, sym, subst, ◌∙◌, arith}
use Rattle.std.specs.Prelude.{All, sum_by}
use Rattle.std.specs.List.{range_with_len, slice_get}
use Rattle.std.proofs.lemmas.List.{length-set}
use Rattle.std.proofs.lemmas.List.Elements.{All-append, All-cons, All-nil}
use Rattle.std.proofs.lemmas.Option.{slice_get_within, get_or_from_slice_get}
use Rattle.tc_units.specs.Units.{page_bytes}
use Rattle.tc_units.specs.declared.rows.RowView.{RowView}
use Rattle.tc_units.specs.Classes.{length_of}
use Rattle.tc_units.specs.declared.spans.ClassRow.{ClassRow}
use Rattle.tc_units.specs.declared.spans.Run.{Run}
use Rattle.tc_model.specs.declared.answers.CallLine.{CallLine}
use Rattle.tc_model.specs.Blocks.{live_bytes, IsBlockRun}
use Rattle.tc_model.specs.Input.{Asked}
use Rattle.tc_model.specs.Run.{Rules, World, world_of, run}
use Rattle.tc_model.specs.Sound.{IsOrder}
use Rattle.tc_model.proofs.MovingFacts.{IsKeptWith, run_keeps_with}
use Rattle.heap_rules.specs.declared.config.HeapConfig.{HeapConfig}
use Rattle.heap_rules.specs.Heap.{Heap, used_pages, backed_pages, row_of}
use Rattle.rseq_core.specs.declared.regs.Regs.{Regs}
use Rattle.call_steps.specs.Calls.{About}
use Rattle.call_steps.specs.Fronts.{FrontRules}
use Rattle.call_steps.specs.Local.{Local}
use Rattle.alloc_rules.specs.declared.part.Part.{Part}
use Rattle.alloc_rules.specs.declared.part.Part.TheVariants as part
use Rattle.alloc_rules.specs.Standings.{Standing}
use Rattle.alloc_rules.specs.Machine.{parts_of, rules}
use Rattle.alloc_rules.specs.Law.{calls, HoldsAfter, AreLawful}
use Rattle.alloc_rules.proofs.Numbers.{get_heap}
use Rattle.tc_machine.specs.declared.standing.Standing.{Standing as Kept}
use Rattle.tc_machine.specs.Standing.{AreStanding}
use Rattle.tc_machine.specs.Finish.{finished_in, totals_of, heap_in}

-- The picks of an order are of threads that there are.
pub record HasThreads {P L : Type 0} (n : ℕ) (w : World P L) (order : List ℕ) : Type 0 where
  pub count : length w.locals ≡ n
  pub below : All (λ t. t < n) order

threads_kept : {P L : Type 0} (r : Rules P L) (n : ℕ) → IsKeptWith 40000000 r (HasThreads n)
threads_kept r n w order t l place q few good local want there goes =
    let within : t < n = omega (arith, slice_get_within w.locals t l local, good.count) in
    record { count = length-set w.locals t (r.after q l).1 ∙ good.count; below = All-append (λ u. u < n) order (t ∷ []) good.below (All-cons (λ u. u < n) t [] within (All-nil (λ u. u < n))) }

pub threads_below : {P L : Type 0} (r : Rules P L) (order : List ℕ) → IsOrder r order → HasThreads (length r.locals) (run r order) order
threads_below r order of = run_keeps_with 40000000 r (HasThreads (length r.locals)) (threads_kept r (length r.locals)) (record { count = refl; below = All-nil (λ u. u < length r.locals) }) order of.few of.moves

module _ {P V R : Type 0} (r : FrontRules P V R) (about : R → About) (Holds : ℕ → List P → List (Standing V R) → Type 0) (asked : Asked) (order : List ℕ) where
  -- What holds tells of the parts and the locals.
  pub record IsTold (parts : List (Part P)) (locals : List (Local V R)) : Type 0 where
    pub holds : HoldsAfter r about Holds asked order
    pub parts_are : parts ≡ parts_of r.split holds.parts
    pub locals_are : locals ≡ holds.locals
    pub heap_at : slice_get parts (r.split + length r.calls.rows) ≡ Some (part.Heap holds.parts.heap)
    pub threads : All (λ t. t < length locals) order

-- the number of the heap
pub place_is : {P V R : Type 0} (r : FrontRules P V R) {rows : List ClassRow} {place : ℕ} → r.calls.rows ≡ rows → place ≡ r.split + length rows → place ≡ r.split + length r.calls.rows
place_is r same is = is ∙ ap (λ rows. r.split + length rows) (sym same)

-- the heap is the part behind the shards
heap_of : {P V R : Type 0} {r : FrontRules P V R} {about : R → About} {Holds : ℕ → List P → List (Standing V R) → Type 0} {asked : Asked} {order : List ℕ}
    → (h : HoldsAfter r about Holds asked order) → r.split ≤ length r.parts → slice_get (parts_of r.split h.parts) (r.split + length r.calls.rows) ≡ Some (part.Heap h.parts.heap)
heap_of {r} h within =
    ap (λ n. slice_get (parts_of r.split h.parts) (r.split + n)) (sym h.counts.shards) ∙ get_heap r.split h.parts (omega (arith, within, h.counts.fronts))

module _ {P V R : Type 0} {r : FrontRules P V R} {about : R → About} {Holds : ℕ → List P → List (Standing V R) → Type 0} {asked : Asked} {order : List ℕ}
    {parts : List (Part P)} {locals : List (Local V R)} where
  -- so does its law, in every order whose picks move
  pub told_under : {fits : P → V → Regs → R → Type 0} {After : List ℕ → Type 0} → AreLawful r about asked fits After → (After order → HoldsAfter r about Holds asked order)
      → r.split ≤ length r.parts → IsOrder (rules r about asked) order → world_of parts locals ≡ run (rules r about asked) order → IsTold r about Holds asked order parts locals
  told_under laws shared within of is =
      let h = shared (laws.holds order of) in
      let same : world_of parts locals ≡ world_of (parts_of r.split h.parts) h.locals = is ∙ h.is in
      let t = threads_below (rules r about asked) order of in
      let parts_are : parts ≡ parts_of r.split h.parts = ap (λ (w : World (Part P) (Local V R)). w.parts) same in
      let count : length locals ≡ length (rules r about asked).locals = ap (λ (w : World (Part P) (Local V R)). length w.locals) is ∙ t.count in
      record {
        holds = h;
        parts_are = parts_are;
        locals_are = ap (λ (w : World (Part P) (Local V R)). w.locals) same;
        heap_at = ap (λ ps. slice_get ps (r.split + length r.calls.rows)) parts_are ∙ heap_of h within;
        threads = subst (λ n. All (λ u. u < n) order) (sym count) t.below;
      }

  module _ (told : IsTold r about Holds asked order parts locals) where
    calls_are : {lines : List CallLine} → lines ≡ calls locals order → lines ≡ calls told.holds.locals order
    calls_are is = is ∙ ap (λ ls. calls ls order) told.locals_are

    -- the calls that are told of the run
    pub told_are : calls locals order ≡ (finished_in r about asked order).calls
    told_are = ap (λ ls. calls ls order) told.locals_are ∙ sym (ap (λ (w : World (Part P) (Local V R)). calls w.locals order) told.holds.is)

    pub blocks_are : {rows : List ClassRow} {lines : List CallLine} → r.calls.rows ≡ rows → lines ≡ calls locals order → IsBlockRun asked.config.huge (length_of rows) lines
    blocks_are {rows} same is = grind (arith)

    module _ {heap : Heap} (there : slice_get parts (r.split + length r.calls.rows) ≡ Some (part.Heap heap)) where
      heap_is : heap ≡ told.holds.parts.heap
      heap_is = let e : Some (part.Heap heap) ≡ Some (part.Heap told.holds.parts.heap) = sym there ∙ told.heap_at in cc

      pub huge_is : heap.config.huge ≡ asked.config.huge
      huge_is = ap (λ (h : Heap). h.config.huge) heap_is ∙ ap (λ (config : HeapConfig). config.huge) told.holds.config

      heap_in_is : heap_in r asked (parts_of r.split told.holds.parts) ≡ told.holds.parts.heap
      heap_in_is = grind (arith, get_or_from_slice_get)

      module _ {lines : List CallLine} {bytes used resident : ℕ} (is : lines ≡ calls locals order) (bytes_are : bytes ≡ live_bytes lines) (used_is : used ≡ used_pages heap) where
        pub totals_are : {s : Kept} {count : ℕ} {rows : List RowView} → AreStanding lines s → count ≡ length lines → resident ≡ backed_pages heap
            → rows ≡ map (row_of heap) (range_with_len 1 heap.config.huge)
            → record { calls = count; live = s.count; live_bytes = bytes; used = used; resident = resident; rows = rows } ≡ totals_of (finished_in r about asked order)
        totals_are {s} {count} {rows} stand count_is resident_is rows_are = grind (arith, calls_are, heap_is, heap_in_is)

        pub covered_is : used ≡ sum_by (λ (x : Run). x.pages) heap.runs → used_pages heap ≤ resident → bytes ≤ resident * page_bytes
        covered_is runs_are covers = grind (arith)

-- of its parts alone
pub told_by_parts : {P V R : Type 0} {r : FrontRules P V R} {about : R → About} {Holds : ℕ → List P → List (Standing V R) → Type 0} {asked : Asked} {order : List ℕ}
    {parts : List (Part P)} {fits : P → V → Regs → R → Type 0} {After : List ℕ → Type 0} → AreLawful r about asked fits After → (After order → HoldsAfter r about Holds asked order)
    → r.split ≤ length r.parts → IsOrder (rules r about asked) order → parts ≡ (run (rules r about asked) order).parts
    → IsTold r about Holds asked order parts (run (rules r about asked) order).locals
told_by_parts {r} {about} {asked} {order} laws shared within of is = told_under laws shared within of (ap (λ ps. world_of ps (run (rules r about asked) order).locals) is)
