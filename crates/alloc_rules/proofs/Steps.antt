-- Each act of a thread, at the part that it wants, keeps what holds of a world.
use Rattle.std.proofs.Common.{true, ◌≡◌, ℕ, ◌+◌, ◌≤◌, false, eqb, List, [], ◌∷◌, length, map, Some, refl, sym, ap, ◌∙◌, subst, arith, All}
use Rattle.std.proofs.Common.{option_map, slice_get, slice_set}
use Rattle.alloc_rules.proofs.Common.{length-set, count_by-le-length, All-set, All-head, slice_get-map, Malloc, Planned, MOST_PICKS, Asked, labels_of, picks_of}
use Rattle.alloc_rules.proofs.Common.{Shard, SpanMap, IsWellFormed, NameState, HeapConfig, Regs, Books, of_all, Step, ShardStep, Does, setup_of, HeapStep}
use Rattle.alloc_rules.proofs.Common.{MapStep, NamesStep, Local, About, undecided, shard_after, heap_after, map_after, names_after, waits_for, front_after, FitsNames}
use Rattle.alloc_rules.proofs.Common.{FitsShard, FitsHeap, FitsMap, heap_config, Parts, HasRoom, IsShardOf, Here, Standing, stand, at_step, standing_of}
use Rattle.alloc_rules.proofs.Common.{StepShape, IsLawful, FrontRules, IsBefore, IsKept, AddsSome, Path, is_under_way, IsValid, calls}
use Rattle.alloc_rules.specs.FrontLaw.{IsReady}
use Rattle.heap_rules.specs.Heap as heaps
use Rattle.heap_rules.specs.Sound as heaps_sound
use Rattle.call_steps.specs.declared.step.Step.TheVariants as does
use Rattle.alloc_rules.proofs.{FrontMoves.front_acts_move, Heads.list_stays, HeapMoves.heap_acts_move, MapMoves.map_acts_move, NameMoves.names_acts_move}
use Rattle.alloc_rules.proofs.{ScriptFacts.HasRow, Sets.each_set, ShardFits.row_is, ShardFits.shard_acts_fit, ShardMoves.shard_acts_move}
use Rattle.alloc_rules.proofs.{Sets.map_set, ShardMoves.shard_stays, Sizes.request_low}
use Rattle.alloc_rules.proofs.ActKeeps.{front_acts_keep, heap_acts_keep, map_acts_keep, names_acts_keep, shard_acts_keep}
use Rattle.alloc_rules.proofs.HeapStays.{heap_stays, map_stays}
use Rattle.alloc_rules.proofs.PartFits.{found_class, heap_fits, map_fits, names_fits}
use Rattle.alloc_rules.proofs.Paths.{front_path, heap_path, map_path, names_path, shard_path}
use Rattle.alloc_rules.proofs.Serving.{ArePlaced, IsActed, Moment}
use Rattle.tc_model.proofs.Lists.{set_there}

-- a fact of all of a list, where one element is replaced
all_set : {X : Type 0} (P : X → Type 0) (xs : List X) (i : ℕ) (x : X) → All P xs → P x → All P (slice_set xs i x)
all_set P xs i x all here = All-set P xs i x here all

-- a thread's picks are among all
picks_few : (t : ℕ) (order : List ℕ) → picks_of t order ≤ length order
picks_few t order = count_by-le-length (λ u. eqb u t) order

-- the next of some calls has its row
pub row_there : {P V R : Type 0} {r : FrontRules P V R} {about : R → About} {planned : Planned → Type 0} {Holds : ℕ → List P → List (Standing V R) → Type 0}
    {fits : P → V → Regs → R → Type 0} (law : IsLawful r about planned Holds fits) (v : V) (calls : List Planned) → All planned calls
    → HasRow r.calls v (slice_get calls 0)
row_there law v [] all = tt
row_there {planned = planned} law v (p ∷ ps) all = λ own. law.other_there v p (All-head planned p ps all) own

-- a world in which an act comes
module _ {P V R : Type 0} {r : FrontRules P V R} {about : R → About} {planned : Planned → Type 0} {Holds : ℕ → List P → List (Standing V R) → Type 0}
    {fits : P → V → Regs → R → Type 0} (law : IsLawful r about planned Holds fits) {asked : Asked} (valid : IsValid r.calls.rows planned asked)
    {p : Parts P} {locals : List (Local V R)} {b : Books} {order : List ℕ} {t : ℕ} {l : Local V R}
    (now : Moment r about planned Holds asked p locals b order t l) where
  abbrev huge : ℕ
  huge = asked.config.huge

  abbrev labels : ℕ
  labels = labels_of asked

  abbrev limits : HeapConfig
  limits = heap_config asked.config

  abbrev Acted : Parts P → Local V R → Type 0
  Acted new after = IsActed now new after

  before : IsBefore r about planned huge labels limits p locals b (calls locals order) t l
  before =
      record {
        rows = valid.rows;
        parts = now.placed.ok;
        same = refl;
        few = valid.limits.few;
        region = valid.limits.region;
        books = now.books;
        facts = now.facts;
        local = now.local;
        shaped = (now.works t l now.local).shaped;
      }

  pub acts_few : l.acts ≤ length order
  acts_few = omega (arith, (now.works t l now.local).acts, picks_few t order)

  pub acts_low : l.acts ≤ MOST_PICKS
  acts_low = omega (arith, acts_few, now.few)

  stands : slice_get (map standing_of locals) t ≡ Some (standing_of l)
  stands = slice_get-map standing_of locals t ∙ ap (option_map standing_of) now.local

  -- an act elsewhere keeps what holds of the front-end
  front_kept : (after : Local V R) → IsKept r about planned Holds t l after → Holds (length order + 1) p.fronts (map standing_of (slice_set locals t after))
  front_kept after kept =
      let front = subst (Holds (length order) p.fronts) (sym (set_there (map standing_of locals) t (standing_of l) stands)) now.front in
      law.passes _ _ _ (subst (Holds (length order) p.fronts) (map_set standing_of locals t after) (kept.stands _ _ _ front))

  there_is : (after : Local V R) → HasRow r.calls after.seat (slice_get l.rest 0)
  there_is after = row_there law after.seat l.rest (now.works t l now.local).shaped.rest

  -- with its step written out
  with_step : (s : Step R) → l.step ≡ s → IsBefore r about planned huge labels limits p locals b (calls locals order) t (record l { step = s })
  with_step s is = subst (λ (x : Step R). IsBefore r about planned huge labels limits p locals b (calls locals order) t (record l { step = x })) is before

  -- no shard and no part of the front-end changes
  placed_elsewhere : (h : heaps.Heap) (m : SpanMap) (names : List NameState) → heaps_sound.IsSound h → h.config ≡ limits → IsWellFormed m → m.huge ≡ huge
      → ArePlaced r asked (record p { heap = h; map = m; names = names })
  placed_elsewhere h m names sound config well same = grind arith

  -- no other part changes
  placed_fronts : (fronts : List P) → length fronts ≡ length p.fronts → ArePlaced r asked (record p { fronts = fronts })
  placed_fronts fronts same = grind arith

  placed_shards : (shards : List Shard) → length shards ≡ length p.shards → ((k : ℕ) (x : Shard) → slice_get shards k ≡ Some x → IsShardOf r.calls.rows k x)
      → All (λ (x : Shard). HasRoom asked.config.transfer x.transfer) shards → ArePlaced r asked (record p { shards = shards })
  placed_shards shards same each room = grind arith

  -- the local with its step written out is the local
  here : (s : Step R) → l.step ≡ s → record l { step = s } ≡ l
  here s step = ap (λ x. record l { step = x }) (sym step)

  -- an act elsewhere than at the front-end
  elsewhere : {new : Parts P} {after : Local V R} → new.fronts ≡ p.fronts → Does r about (setup_of r asked) new b l after → Path r.calls about l after
      → is_under_way l.step ≡ true → ArePlaced r asked new → IsKept r about planned Holds t l after → Acted new after
  elsewhere {new = new} {after = after} same does path way placed kept =
      record {
        does = does;
        path = path;
        way = way;
        placed = placed;
        shaped = kept.shaped;
        front = subst (λ (ps : List P). Holds (length order + 1) ps (map standing_of (slice_set locals t after))) (sym same) (front_kept after kept);
        there = there_is after;
      }

  -- what the acts fit
  pub shard_fit : (row : ShardStep R) (x : Shard) → l.step ≡ does.Shard row → slice_get p.shards l.regs.class.0 ≡ Some x → FitsShard r.calls.rows x l (does.Shard row)
  shard_fit row x step at = shard_acts_fit r about planned huge labels limits p locals b (calls locals order) t l x row before step at

  heap_fits_there : (row : HeapStep R) → l.step ≡ does.Heap row → FitsHeap r.calls.rows p.heap (record l { step = does.Heap row }) (does.Heap row)
  heap_fits_there row step =
      heap_fits r about planned law.entries huge labels limits p locals b (calls locals order) t l row (with_step (does.Heap row) step) (λ label size is.
      let call = ap (undecided about) (step ∙ ap (λ (y : HeapStep R). does.Heap y) is) in
      request_low r.calls.rows planned asked valid t l.ended label size ((now.works t l now.local).inside.call (Malloc label size) call))

  pub heap_fit : (row : HeapStep R) → l.step ≡ does.Heap row → FitsHeap r.calls.rows p.heap l (does.Heap row)
  heap_fit row step = subst (λ (y : Local V R). FitsHeap r.calls.rows p.heap y (does.Heap row)) (here (does.Heap row) step) (heap_fits_there row step)

  map_fits_there : (row : MapStep R) → l.step ≡ does.Map row → FitsMap p.map (record l { step = does.Map row }) (does.Map row)
  map_fits_there row step = map_fits r about planned law.entries huge labels limits p locals b (calls locals order) t l row (with_step (does.Map row) step)

  pub map_fit : (row : MapStep R) → l.step ≡ does.Map row → FitsMap p.map l (does.Map row)
  map_fit row step = subst (λ (y : Local V R). FitsMap p.map y (does.Map row)) (here (does.Map row) step) (map_fits_there row step)

  pub names_fit : (row : NamesStep) → l.step ≡ does.Names row → FitsNames {R = R} p.names (does.Names row)
  names_fit row step = names_fits r about planned law.entries huge labels limits p locals b (calls locals order) t l row (with_step (does.Names row) step)

  -- at a part of the front-end
  module _ (row : R) (step : l.step ≡ does.Front row) where
    shape : StepShape r.calls.rows about l (does.Front row)
    shape = subst (StepShape r.calls.rows about l) step (now.works t l now.local).shaped.step

    pub ready_row : IsReady r t l.regs (about row)
    ready_row = let s = (now.works t l now.local).shaped in record { thread = s.thread; class = s.class; room = s.hand; hand = shape.0 }

    pub stands_row : slice_get (map standing_of locals) t ≡ Some (stand l.seat l.regs l.acts (Here row))
    stands_row = stands ∙ ap (λ (s : Step R). Some (stand l.seat l.regs l.acts (at_step s))) step

  pub front_acted : (row : R) (q : P) → l.step ≡ does.Front row → slice_get p.fronts (r.place l.seat l.regs row) ≡ Some q
      → Acted (record p { fronts = slice_set p.fronts (r.place l.seat l.regs row) (front_after r about q l (does.Front row)).0 }) (front_after r about q l (does.Front row)).1
  front_acted row q step at =
      let act = law.does (length order) p.fronts (map standing_of locals) t q l.seat l.regs l.acts row now.few acts_few now.front (stands_row row step) at (ready_row row step) in
      let shaped = (now.works t l now.local).shaped in
      let kept = front_acts_keep law (length order) t p.fronts (map standing_of locals) l q row valid.rows shaped step now.few acts_few now.front stands at in
      let after : Local V R = (front_after r about q l (does.Front row)).1 in
      record {
        does = front_acts_move law.entries huge labels limits p locals b (calls locals order) t l (r.place l.seat l.regs row) q row before step at act;
        path = front_path r about law.entries l q row step act;
        way = ap is_under_way step;
        placed = placed_fronts _ (length-set p.fronts (r.place l.seat l.regs row) (front_after r about q l (does.Front row)).0);
        shaped = kept.shaped;
        front = subst (Holds (length order + 1) (slice_set p.fronts (r.place l.seat l.regs row) (front_after r about q l (does.Front row)).0)) (map_set standing_of locals t after) kept.stands;
        there = there_is after;
      }

  -- at the shard of the thread's class
  pub shard_acted : (row : ShardStep R) (x : Shard) → l.step ≡ does.Shard row → slice_get p.shards l.regs.class.0 ≡ Some x
      → Acted (record p { shards = slice_set p.shards l.regs.class.0 (shard_after r.calls x l (does.Shard row)).0 }) (shard_after r.calls x l (does.Shard row)).1
  shard_acted row x step at =
      let own = here (does.Shard row) step in
      let shaped = (now.works t l now.local).shaped in
      let stays = shard_stays law.entries before at row step (subst (StepShape r.calls.rows about l) step shaped.step) in
      let fit : FitsShard r.calls.rows x l (does.Shard row) = shard_fit row x step at in
      let same = sym (row_is before at) in
      let kept = shard_acts_keep law t x l row valid.rows shaped step (now.placed.ok.shards l.regs.class.0 x at).sound same stays.1 fit in
      let adds = subst (λ (y : Local V R). AddsSome r.calls.rows x y row) (sym own) stays.2 in
      let new : Shard = (shard_after r.calls x l (does.Shard row)).0 in
      let of_class = subst (λ (y : Local V R). IsShardOf r.calls.rows l.regs.class.0 (shard_after r.calls x y (does.Shard row)).0) own stays.0 in
      let each = each_set (IsShardOf r.calls.rows) p.shards l.regs.class.0 new x at of_class (λ k y apart is. now.placed.ok.shards k y is) in
      let HasList : Shard → Type 0 = λ y. HasRoom asked.config.transfer y.transfer in
      let list = list_stays r.calls asked.config.transfer x l row (of_all HasList p.shards l.regs.class.0 x now.placed.transfers at) in
      record {
        does = shard_acts_move law.entries huge labels limits p locals b (calls locals order) t l x row before step at;
        path = subst (λ (y : Local V R). Path r.calls about y (shard_after r.calls x y (does.Shard row)).1) own (shard_path r.calls about law.entries l x row adds);
        way = ap is_under_way step;
        placed = placed_shards _ (length-set p.shards l.regs.class.0 new) each (all_set HasList p.shards l.regs.class.0 new now.placed.transfers list);
        shaped = kept.shaped;
        front = front_kept (shard_after r.calls x l (does.Shard row)).1 kept;
        there = there_is (shard_after r.calls x l (does.Shard row)).1;
      }

  -- at the page heap
  pub heap_acted : (row : HeapStep R) → l.step ≡ does.Heap row → Acted (record p { heap = (heap_after r.calls p.heap l (does.Heap row)).0 }) (heap_after r.calls p.heap l (does.Heap row)).1
  heap_acted row step =
      let fit = heap_fit row step in
      let after : heaps.Heap = (heap_after r.calls p.heap l (does.Heap row)).0 in
      let kept = heap_acts_keep law t p.heap l row valid.rows (now.works t l now.local).shaped step fit in
      let region : 2 ≤ p.heap.config.region = omega (arith, valid.limits.region, ap (λ (c : HeapConfig). c.region) now.placed.ok.config) in
      let stays = heap_stays r.calls p.heap l row now.placed.ok.heap region fit in
      elsewhere refl
      (heap_acts_move r about planned law.entries huge labels limits p locals b (calls locals order) t l row before step fit)
      (subst (λ (y : Local V R). Path r.calls about y (heap_after r.calls p.heap y (does.Heap row)).1) (here _ step) (heap_path r.calls about law.entries l p.heap row (heap_fits_there row step)))
      (ap is_under_way step) (placed_elsewhere after p.map p.names stays.sound (stays.config ∙ now.placed.ok.config) now.placed.ok.map now.placed.ok.huge) kept

  -- at the page map
  pub map_acted : (row : MapStep R) → l.step ≡ does.Map row → Acted (record p { map = (map_after r.calls p.map l (does.Map row)).0 }) (map_after r.calls p.map l (does.Map row)).1
  map_acted row step =
      let fit = map_fit row step in
      let found = found_class r about planned law.entries huge labels limits p locals b (calls locals order) t l row (with_step (does.Map row) step) in
      let kept = map_acts_keep law t p.map l row valid.rows (now.works t l now.local).shaped step fit found in
      let stays = map_stays r.calls p.map l row now.placed.ok.map fit in
      elsewhere refl
      (map_acts_move r about planned law.entries huge labels limits p locals b (calls locals order) t l row before step fit)
      (subst (λ (y : Local V R). Path r.calls about y (map_after r.calls p.map y (does.Map row)).1) (here _ step) (map_path r.calls about law.entries l p.map row (map_fits_there row step)))
      (ap is_under_way step) (placed_elsewhere p.heap (map_after r.calls p.map l (does.Map row)).0 p.names now.placed.ok.heap now.placed.ok.config stays.well (stays.huge ∙ now.placed.ok.huge)) kept

  -- at the names, where it doesn't wait
  pub names_acted : (row : NamesStep) → l.step ≡ does.Names row → waits_for {R = R} p.names (does.Names row) ≡ false
      → Acted (record p { names = (names_after r.calls p.names l (does.Names row)).0 }) (names_after r.calls p.names l (does.Names row)).1
  names_acted row step goes =
      let fit = names_fit row step in
      let kept = names_acts_keep law t p.names l row valid.rows (now.works t l now.local).shaped step fit in
      elsewhere refl
      (names_acts_move r about planned law.entries huge labels limits p locals b (calls locals order) t l row before step fit goes)
      (subst (λ (y : Local V R). Path r.calls about y (names_after r.calls p.names y (does.Names row)).1) (here _ step) (names_path r.calls about law.entries l p.names row fit goes))
      (ap is_under_way step) (placed_elsewhere p.heap p.map (names_after r.calls p.names l (does.Names row)).0 now.placed.ok.heap now.placed.ok.config now.placed.ok.map now.placed.ok.huge) kept
