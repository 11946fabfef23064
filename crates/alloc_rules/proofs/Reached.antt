-- The part that a thread wants is there, its act fits, and what it leaves keeps all that holds.
use Rattle.std.proofs.Common.{◌≡◌, ℕ, zero, suc, ◌+◌, ◌<◌, ◌≤◌, false, List, [], ◌∷◌, length, map, Some, refl, sym, ap, ◌∙◌, subst, arith, option_map}
use Rattle.std.proofs.Common.{slice_get, slice_set}
use Rattle.alloc_rules.proofs.Common.{Planned, PartNo, Asked, world_of, with_pair, Regs, Books, Step, ShardStep, HeapStep, MapStep, NamesStep, Local, About}
use Rattle.alloc_rules.proofs.Common.{target_at, shard_after, heap_after, map_after, names_after, waits_for, front_after}
use Rattle.alloc_rules.proofs.Common.{Part, Front, Heap, Map, Names, number_of, Parts, parts_of, after, waits, Standing, standing_of, FitsAt}
use Rattle.alloc_rules.proofs.Common.{IsLawful, FrontRules, Fits, fits_step, FitsShard, FitsHeap, FitsMap, FitsNames, FitsFront, IsValid}
use Rattle.alloc_rules.specs.declared.part.Part.TheVariants.{Shard}
use Rattle.class_shard.specs.Shard as shards
use Rattle.call_steps.specs.declared.step.Step.TheVariants as does
use Rattle.alloc_rules.proofs.Numbers.{front_number, get_front, get_heap, get_map, get_names, get_shard, set_front, set_heap, set_map, set_names, set_shard}
use Rattle.alloc_rules.proofs.Serving.{IsActed, Moment}
use Rattle.alloc_rules.proofs.Steps.{acts_few, acts_low, front_acted, heap_acted, heap_fit, map_acted, map_fit, names_acted, names_fit, ready_row}
use Rattle.alloc_rules.proofs.Steps.{shard_acted, shard_fit, stands_row}

pub there_is : {X : Type 0} (xs : List X) (i : ℕ) → i < length xs → (x : X) × (slice_get xs i ≡ Some x)
there_is [] i low = absurd (omega arith)
there_is (x ∷ xs) zero low = (x, refl)
there_is (x ∷ xs) (suc i) low = there_is xs i (omega arith)

module _ {P V R : Type 0} {r : FrontRules P V R} {about : R → About} {planned : Planned → Type 0} {Holds : ℕ → List P → List (Standing V R) → Type 0}
    {fits : P → V → Regs → R → Type 0} (law : IsLawful r about planned Holds fits) {asked : Asked} (valid : IsValid r.calls.rows planned asked)
    {p : Parts P} {locals : List (Local V R)} {b : Books} {order : List ℕ} {t : ℕ} {l : Local V R}
    (now : Moment r about planned Holds asked p locals b order t l) where
  -- the act at part i leaves other parts and another local, in which all holds
  pub record Goes (i : ℕ) (part : Part P) : Type 0 where
    pub parts : Parts P
    pub left : Local V R
    pub acted : IsActed now parts left
    pub is : with_pair (world_of (parts_of r.split p) locals) i t (after r about part l) ≡ world_of (parts_of r.split parts) (slice_set locals t left)

  pub record Reached (i : ℕ) : Type 0 where
    pub part : Part P
    pub there : slice_get (parts_of r.split p) i ≡ Some part
    pub fit : Fits r.calls.rows fits part l
    pub goes : waits part l ≡ false → Goes i part

  split_few : r.split ≤ length p.fronts
  split_few = omega (arith, law.split, now.placed.fronts)

  -- with so many classes as the parts have
  classes_are : length p.shards ≡ length r.calls.rows
  classes_are = now.placed.ok.classes

  -- a part that is there, which the act fits and leaves with these parts and this local
  at_part : (i : ℕ) (part x : Part P) (left : Local V R) (new : Parts P) → slice_get (parts_of r.split p) i ≡ Some part → fits_step r.calls.rows fits part l
      → (waits part l ≡ false → IsActed now new left) → (let pair : Part P × Local V R = (x, left) in after r about part l ≡ pair)
      → slice_set (parts_of r.split p) i x ≡ parts_of r.split new → Reached i
  at_part i part x left new there step acted leaves set =
      record {
        part = part;
        there = there;
        fit = record { step = step; few = acts_low law valid now };
        goes = λ goes. record {
          parts = new;
          left = left;
          acted = acted goes;
          is = ap (with_pair (world_of (parts_of r.split p) locals) i t) leaves ∙ ap (λ xs. world_of xs (slice_set locals t left)) set;
        };
      }

  front_reached : (row : R) → l.step ≡ does.Front row → Reached (front_number r.split (length r.calls.rows) (r.place l.seat l.regs row))
  front_reached row step =
      let i : ℕ = r.place l.seat l.regs row in
      let q0 : FitsAt r fits p.fronts l.seat l.regs row =
      law.ready (length order) p.fronts (map standing_of locals) t l.seat l.regs l.acts row now.few (acts_few law valid now) now.front
      (stands_row law valid now row step) (ready_row law valid now row step) in
      let q : P = q0.part in
      subst Reached (ap (λ (k : ℕ). front_number r.split k i) classes_are)
      (at_part (front_number r.split (length p.shards) i) (Front q) _ (front_after r about q l (does.Front row)).1 _ (get_front r.split p split_few i ∙ ap (option_map Front) q0.there)
      (subst (FitsFront fits q l) (sym step) q0.fit) (λ goes. front_acted law valid now row q step q0.there)
      (ap (λ (s : Step R). let z : Part P × Local V R = (Front (front_after r about q l s).0, (front_after r about q l s).1) in z) step)
      (set_front r.split p split_few i (front_after r about q l (does.Front row)).0))

  shard_reached : (row : ShardStep R) → l.step ≡ does.Shard row → Reached (r.split + l.regs.class.0)
  shard_reached row step =
      let k : ℕ = l.regs.class.0 in
      let low : k < length p.shards = omega (arith, classes_are, (now.works t l now.local).shaped.class) in
      let found = there_is p.shards k low in
      let x : shards.Shard = found.0 in
      at_part (r.split + k) (Shard x) _ (shard_after r.calls x l (does.Shard row)).1 _ (get_shard r.split p split_few k low ∙ ap (option_map Shard) found.1)
      (subst (FitsShard r.calls.rows x l) (sym step) (shard_fit law valid now row x step found.1)) (λ goes. shard_acted law valid now row x step found.1)
      (ap (λ (s : Step R). let z : Part P × Local V R = (Shard (shard_after r.calls x l s).0, (shard_after r.calls x l s).1) in z) step)
      (set_shard r.split p split_few k (shard_after r.calls x l (does.Shard row)).0 low)

  heap_reached : (row : HeapStep R) → l.step ≡ does.Heap row → Reached (r.split + length r.calls.rows)
  heap_reached row step =
      subst Reached (ap (λ (n : ℕ). r.split + n) classes_are)
      (at_part (r.split + length p.shards) (Heap p.heap) _ (heap_after r.calls p.heap l (does.Heap row)).1 _ (get_heap r.split p split_few)
      (subst (FitsHeap r.calls.rows p.heap l) (sym step) (heap_fit law valid now row step)) (λ goes. heap_acted law valid now row step)
      (ap (λ (s : Step R). let z : Part P × Local V R = (Heap (heap_after r.calls p.heap l s).0, (heap_after r.calls p.heap l s).1) in z) step)
      (set_heap r.split p split_few (heap_after r.calls p.heap l (does.Heap row)).0))

  map_reached : (row : MapStep R) → l.step ≡ does.Map row → Reached (r.split + length r.calls.rows + 1)
  map_reached row step =
      subst Reached (ap (λ (n : ℕ). r.split + n + 1) classes_are)
      (at_part (r.split + length p.shards + 1) (Map p.map) _ (map_after r.calls p.map l (does.Map row)).1 _ (get_map r.split p split_few)
      (subst (FitsMap p.map l) (sym step) (map_fit law valid now row step)) (λ goes. map_acted law valid now row step)
      (ap (λ (s : Step R). let z : Part P × Local V R = (Map (map_after r.calls p.map l s).0, (map_after r.calls p.map l s).1) in z) step)
      (set_map r.split p split_few (map_after r.calls p.map l (does.Map row)).0))

  names_reached : (row : NamesStep) → l.step ≡ does.Names row → Reached (r.split + length r.calls.rows + 2)
  names_reached row step =
      subst Reached (ap (λ (n : ℕ). r.split + n + 2) classes_are)
      (at_part (r.split + length p.shards + 2) (Names p.names) _ (names_after r.calls p.names l (does.Names row)).1 _ (get_names r.split p split_few)
      (subst (FitsNames p.names) (sym step) (names_fit law valid now row step))
      (λ goes. names_acted law valid now row step (ap (waits_for p.names) (sym step) ∙ goes))
      (ap (λ (s : Step R). let z : Part P × Local V R = (Names (names_after r.calls p.names l s).0, (names_after r.calls p.names l s).1) in z) step)
      (set_names r.split p split_few (names_after r.calls p.names l (does.Names row)).0))

  at_place : (i : ℕ) (place : PartNo) → (let n : PartNo = record { 0 = i } in Some n) ≡ Some place → Reached i → Reached place.0
  at_place i place is reached = let e : (let n : PartNo = record { 0 = i } in n) ≡ place = cc in subst (λ (n : PartNo). Reached n.0) e reached

  pub reached : (s : Step R) → l.step ≡ s → (place : PartNo) → option_map (number_of r.split (length r.calls.rows)) (target_at r.place l s) ≡ Some place → Reached place.0
  reached s step place want = grind (arith, at_place, front_number, front_reached, heap_reached, map_reached, names_reached, shard_reached)
