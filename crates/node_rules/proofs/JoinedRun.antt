-- Calls of several nodes, each node's a run on disjoint blocks, are one such run as they are told.
use Rattle.std.proofs.Common.{◌≡◌, ◌≢◌, ℕ, ◌+◌, ◌*◌, ◌<◌, ◌≤◌, true, List, [], ◌∷◌, ◌++◌, length, map, Some, refl, sym, ap, ◌∙◌, subst, arith}
use Rattle.std.specs.Prelude.{◌==◌, All, find, option_map, sum_by}
use Rattle.std.specs.List.{list_any}
use Rattle.std.proofs.lemmas.List.{append-nil, append_assoc, map-append, length-append, length-map}
use Rattle.std.proofs.lemmas.List.Elements.{All-nil, All-cons, All-head, All-tail, All-weaker}
use Rattle.std.proofs.lemmas.List.Sums.{sum_by-append}
use Rattle.std.proofs.lemmas.Nat.{mul-le}
use Rattle.std.proofs.lemmas.Bool.Decides.{nat_tests}
use Rattle.tc_units.specs.Arena.{IsInArena}
use Rattle.tc_units.specs.Units.{huge_bytes}
use Rattle.tc_model.specs.declared.calls.Call.{Call}
use Rattle.tc_model.specs.declared.calls.Call.TheVariants.{Malloc, Free}
use Rattle.tc_model.specs.declared.answers.Answer.{Answer}
use Rattle.tc_model.specs.declared.answers.Answer.TheVariants.{Block, Freed, FreedNull, Busy}
use Rattle.tc_model.specs.declared.answers.CallLine.{CallLine}
use Rattle.tc_model.specs.Blocks.{Extent, meets, blocks_with, blocks_after, frees, IsAllowed, IsBlockRun}
use Rattle.holdings.proofs.CallFacts.{blocks_after-push, IsBlockRun-none, IsBlockRun-push, find_all}
use Rattle.node_rules.specs.Joined.{NodeLine, IsAbout, AreOfNodes, AreJoined, IsInNode, bytes_before, shifted, told_line, lines_at}
use Rattle.node_rules.proofs.Shifting.{shift, blocks_shift, bytes_shift, any_shift, find_shift}
use Rattle.node_rules.proofs.SideBySide.{IsWithin, FitsIn, joined, joined_none, sum_joined, find_joined, unmet_by_all, at_each, blocks_joined, within_with}
use Rattle.node_rules.proofs.Lines.{IsAt, lines_here, lines_away, answer_told, freed_told}

-- where a node's bytes begin
abbrev start : ℕ → ℕ → ℕ
start huge k = huge_bytes + bytes_before huge k

start_next : (huge k : ℕ) → start huge (k + 1) ≡ start huge k + huge * huge_bytes
start_next huge k = grind arith

start_rises : (huge j k : ℕ) → j < k → start huge (j + 1) ≤ start huge k
start_rises huge j k less = let rows = mul-le (j + 1) huge k huge (omega (arith, less)) (omega arith) in omega arith

-- a block in its own node's arena, among the bytes of all
in_node : (huge k : ℕ) (b : Extent) → IsInArena huge_bytes huge b.addr b.len → IsWithin (start huge) k (shift (bytes_before huge k) b)
in_node huge k b is = record { some = is.some; from = omega (arith, is.from); to = omega (arith, is.to, start_next huge k) }

in_all : (nodes huge k : ℕ) (b : Extent) → k < nodes → IsWithin (start huge) k b → IsInArena huge_bytes (nodes * huge) b.addr b.len
in_all nodes huge k b there is = record { some = is.some; from = omega (arith, is.from); to = omega (arith, is.to, start_rises huge k nodes there) }

-- the blocks of a node after these calls, where they are told to be
abbrev node_blocks : ℕ → List NodeLine → ℕ → List Extent
node_blocks huge xs k = map (shift (bytes_before huge k)) (blocks_after (lines_at k xs))

-- what holds after some of the calls
record Stands (nodes huge : ℕ) (round : ℕ → ℕ) (xs : List NodeLine) : Type 0 where
  run : IsBlockRun (nodes * huge) round (map (told_line huge) xs)
  inside : (k : ℕ) → All (IsWithin (start huge) k) (node_blocks huge xs k)
  blocks : blocks_after (map (told_line huge) xs) ≡ joined (node_blocks huge xs) 0 nodes

stands_none : (nodes huge : ℕ) (round : ℕ → ℕ) → Stands nodes huge round []
stands_none nodes huge round = grind (arith, IsBlockRun-none round (nodes * huge), All-nil, joined_none 0 nodes)

-- One call more, at a node that allows it.
module _ (nodes huge : ℕ) (round : ℕ → ℕ) (xs : List NodeLine) (stand : Stands nodes huge round xs) (k : ℕ) (there : k < nodes) where
  abbrev before : ℕ
  before = bytes_before huge k

  abbrev mine : List CallLine
  mine = lines_at k xs

  -- a block of the node's that stands
  module _ (addr len : ℕ) (stands : find (λ b. b.addr == addr) (blocks_after mine) ≡ Some (record { addr = addr; len = len })) where
    abbrev block : Extent
    block = record { addr = addr + before; len = len }

    found : find (λ b. b.addr == addr + before) (node_blocks huge xs k) ≡ Some block
    found = find_shift before addr (blocks_after mine) ∙ ap (option_map (shift before)) stands

    found_within : IsWithin (start huge) k block
    found_within = (find_all (IsWithin (start huge) k) (addr + before) (node_blocks huge xs k) block (stand.inside k) found).0

    found_told : find (λ b. b.addr == addr + before) (blocks_after (map (told_line huge) xs)) ≡ Some block
    found_told =
        let blocks : ℕ → List Extent = node_blocks huge xs in
        ap (find (λ (b : Extent). b.addr == addr + before)) stand.blocks
        ∙ find_joined (start huge) (start_rises huge) k block found_within blocks stand.inside block found 0 nodes (omega arith) (omega (arith, there))

  fits : (call : Call) (answer : Answer) → IsAllowed huge round mine call answer → FitsIn (start huge) k (shifted before answer)
  fits call answer allowed = grind (arith, in_node, found_within)

  allowed_told : (call : Call) (answer : Answer) → ((label : ℕ) → frees label call ≡ true → All (IsAt label k) xs)
      → IsAllowed huge round mine call answer → IsAllowed (nodes * huge) round (map (told_line huge) xs) call (shifted before answer)
  allowed_told (Malloc label size) (Block addr len) own allowed =
      let b : Extent = record { addr = addr.0; len = len } in
      let here = in_node huge k b allowed.1.inside in
      let unmet = any_shift before b (blocks_after mine) ∙ allowed.1.apart in
      let apart = unmet_by_all (start huge) (start_rises huge) k (shift before b) here (node_blocks huge xs) stand.inside unmet nodes in
      (allowed.0, record { inside = in_all nodes huge k (shift before b) there here; apart = ap (list_any (meets (shift before b))) stand.blocks ∙ apart })
  allowed_told (Free label) (Freed addr) own allowed = grind (arith, nat_tests, answer_told, found_told, freed_told)
  allowed_told (Free label) FreedNull own allowed = grind (arith, nat_tests, answer_told, freed_told)
  allowed_told call (Busy owner) own allowed = allowed
  allowed_told call answer own allowed = allowed

-- after that call
module _ (nodes huge : ℕ) (round : ℕ → ℕ) (xs : List NodeLine) (stand : Stands nodes huge round xs) (x : NodeLine) (there : x.node < nodes) where
  abbrev longer : List NodeLine
  longer = xs ++ x ∷ []

  abbrev answer : Answer
  answer = (told_line huge x).answer

  its_blocks : node_blocks huge longer x.node ≡ blocks_with (node_blocks huge xs x.node) answer
  its_blocks = grind (arith, shift, lines_here, blocks_after-push, blocks_shift)

  others : (j : ℕ) → j ≢ x.node → node_blocks huge longer j ≡ node_blocks huge xs j
  others j other = ap (λ cs. map (shift (bytes_before huge j)) (blocks_after cs)) (lines_away j xs x other)

  stands_push : ((label : ℕ) → frees label x.line.call ≡ true → All (IsAt label x.node) xs)
      → IsAllowed huge round (lines_at x.node xs) x.line.call x.line.answer → Stands nodes huge round longer
  stands_push own allowed =
      let fit = fits nodes huge round xs stand x.node there x.line.call x.line.answer allowed in
      let allows = allowed_told nodes huge round xs stand x.node there x.line.call x.line.answer own allowed in
      let told = map-append (told_line huge) xs (x ∷ []) in
      let all : List CallLine = map (told_line huge) xs in
      let blocks : ℕ → List Extent = node_blocks huge xs in
      let within = within_with (start huge) (start_rises huge) x.node (blocks x.node) answer fit (stand.inside x.node) in
      let inside : ℕ → List Extent → Type 0 = λ j bs. All (IsWithin (start huge) j) bs in
      record {
        run = rw told (IsBlockRun-push round (nodes * huge) all (told_line huge x) stand.run allows);
        inside = at_each (λ j. inside j (node_blocks huge longer j)) x.node (subst (inside x.node) (sym its_blocks) within)
            (λ j other. subst (inside j) (sym (others j other)) (stand.inside j));
        blocks =
            ap blocks_after told ∙ blocks_after-push all (told_line huge x) ∙ ap (λ bs. blocks_with bs answer) stand.blocks
            ∙ blocks_joined (start huge) (start_rises huge) x.node blocks (node_blocks huge longer) answer stand.inside fit its_blocks others nodes there;
      }

-- what holds of all holds of the first and of the last of them
all_front : (P : NodeLine → Type 0) (xs ys : List NodeLine) → All P (xs ++ ys) → All P xs
all_front P [] ys all = All-nil P
all_front P (x ∷ xs) ys all = All-cons P x xs (All-head P x (xs ++ ys) all) (all_front P xs ys (All-tail P x (xs ++ ys) all))

all_back : (P : NodeLine → Type 0) (xs ys : List NodeLine) → All P (xs ++ ys) → All P ys
all_back P [] ys all = all
all_back P (x ∷ xs) ys all = all_back P xs ys (All-tail P x (xs ++ ys) all)

module _
    (nodes huge : ℕ) (round own : ℕ → ℕ) (xs : List NodeLine) (of : AreOfNodes nodes own xs)
    (runs : (k : ℕ) → k < nodes → IsBlockRun huge round (lines_at k xs)) where
  -- a call at its place
  module _ (earlier : List NodeLine) (x : NodeLine) (later : List NodeLine) (is : earlier ++ x ∷ later ≡ xs) where
    abbrev AtHome : NodeLine → Type 0
    AtHome y = (label : ℕ) → IsAbout label y → y.node ≡ own label

    there : x.node < nodes
    there = let T : NodeLine → Type 0 = λ y. y.node < nodes in All-head T x later (all_back T earlier (x ∷ later) (subst (All T) (sym is) of.there))

    allowed : IsAllowed huge round (lines_at x.node earlier) x.line.call x.line.answer
    allowed = runs x.node there (lines_at x.node earlier) x.line (lines_at x.node later) (sym (lines_here earlier x later) ∙ ap (lines_at x.node) is)

    same_home : (label : ℕ) → frees label x.line.call ≡ true → All (IsAt label x.node) earlier
    same_home label freed =
        grind (arith, All-head AtHome x later, all_back AtHome earlier (x ∷ later), All-weaker AtHome (IsAt label x.node), all_front AtHome earlier (x ∷ later))

    next : Stands nodes huge round earlier → Stands nodes huge round (earlier ++ x ∷ [])
    next stand = stands_push nodes huge round earlier stand x there same_home allowed

    lies : Stands nodes huge round earlier → (addr len : ℕ) → (told_line huge x).answer ≡ Block (record { 0 = addr }) len → IsInNode huge x.node addr len
    lies stand addr len told = grind (arith, fits, there, allowed)

    freed_lies : Stands nodes huge round earlier → (addr : ℕ) → (told_line huge x).answer ≡ Freed (record { 0 = addr })
        → (len : ℕ) × (0 < len) × IsInNode huge x.node addr len
    freed_lies stand addr told =
        let w = subst (FitsIn (start huge) x.node) told (fits nodes huge round earlier stand x.node there x.line.call x.line.answer allowed) in
        (w.0, w.1.some, record { from = w.1.from; to = w.1.to })

  stands_on : (done todo later : List NodeLine) → done ++ (todo ++ later) ≡ xs → Stands nodes huge round done → Stands nodes huge round (done ++ todo)
  stands_on done [] later is stand = subst (Stands nodes huge round) (sym (append-nil done)) stand
  stands_on done (x ∷ todo) later is stand =
      let on = stands_on (done ++ x ∷ []) todo later (append_assoc done (x ∷ []) (todo ++ later) ∙ is) (next done x (todo ++ later) is stand) in
      subst (Stands nodes huge round) (append_assoc done (x ∷ []) todo) on

  pub block_runs_join : AreJoined nodes huge round xs
  block_runs_join =
      let stands : (earlier later : List NodeLine) → earlier ++ later ≡ xs → Stands nodes huge round earlier =
      λ earlier later is. stands_on [] earlier later is (stands_none nodes huge round) in
      let all = stands xs [] (append-nil xs) in
      let bytes : List Extent → ℕ = sum_by (λ b. b.len) in
      let mine : ℕ → List Extent = λ k. blocks_after (lines_at k xs) in
      let f : ℕ → List Extent = node_blocks huge xs in
      record {
        run = all.run;
        inside = λ earlier x later addr len is. lies earlier x later is (stands earlier (x ∷ later) is) addr len;
        freed = λ earlier x later addr is. freed_lies earlier x later is (stands earlier (x ∷ later) is) addr;
        count =
            ap length all.blocks
            ∙ sum_joined length f (λ k. length (mine k)) refl length-append (λ k. length-map (mine k) (shift (bytes_before huge k))) 0 nodes;
        bytes =
            ap bytes all.blocks
            ∙ sum_joined bytes f (λ k. bytes (mine k)) refl (sum_by-append (λ (b : Extent). b.len)) (λ k. bytes_shift (bytes_before huge k) (mine k)) 0 nodes;
      }
