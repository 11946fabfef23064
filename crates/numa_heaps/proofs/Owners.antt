-- Steps of the loops that open memory nodes, and the nodes of labels as they note them.
use Rattle.std.proofs.Common.{◌≡◌, ℕ, zero, suc, ◌<◌, Bool, true, cond, List, [], ◌∷◌, ◌++◌, length, get_or, take, drop, replicate, Some, refl, ap, ◌∙◌, arith}
use Rattle.std.specs.Prelude.{slice_get}
use Rattle.std.specs.List.{list_any}
use Rattle.std.proofs.lemmas.Bool.{false≢true}
use Rattle.std.proofs.lemmas.List.{length-set, length-replicate, append-nil, get_or_default}
use Rattle.std.proofs.lemmas.Option.{slice_get-get_or}
use Rattle.std.proofs.Math.ListN.{drop_of_length-le}
use Rattle.std.proofs.Math.Seq.{take-length}
use Rattle.std.proofs.lemmas.Bool.Decides.{nat_tests}
use Rattle.numa_heaps.proofs.Ranges.{fold_next}
use Rattle.tc_model.specs.declared.calls.Call.{Call}
use Rattle.tc_model.specs.declared.calls.Call.TheVariants.{Malloc}
use Rattle.tc_model.specs.declared.calls.Planned.{Planned}
use Rattle.tc_model.specs.declared.calls.Script.{Script}
use Rattle.tc_machine.specs.Inputs.{script_at}
use Rattle.tc_model.specs.declared.config.Config.{Config}
use Rattle.tc_model.specs.Input.{ThreadCall, script_of}
use Rattle.tc_machine.proofs.InputFacts.{AreBelow}
use Rattle.tc_model.specs.Blocks.{allocates}
use Rattle.tc_model.proofs.Lists.{set_here, set_elsewhere}
use Rattle.numa_heaps.specs.declared.nodes.NodeNo.{NodeNo}
use Rattle.node_rules.specs.Nodes.{maker}
use Rattle.numa_heaps.specs.Opening.{owners_with, owners_behind, home_no, owners_of}

-- the script of a thread that is there
pub script_there : (scripts : List Script) (t : ℕ) (script : Script) → t < length scripts → (get_or scripts t script).calls ≡ script_at scripts t
script_there scripts t script within = ap (λ (s : Script). s.calls) (get_or_default scripts t script (record { calls = [] }) within)

-- a slice of a whole vector is written back
pub written_back : {X : Type 0} (xs ys : List X) (n : ℕ) → length ys ≡ length xs → n ≡ length xs → take n (ys ++ drop (length ys) xs) ≡ ys
written_back xs ys n many is =
    let none : drop (length ys) xs ≡ [] = drop_of_length-le xs (omega (arith, many)) in
    let whole : n ≡ length ys = omega arith in
    rw (none, append-nil, whole) (take-length ys)

-- The nodes of labels
length_with : (here : NodeNo) (os : List NodeNo) (call : Call) → length (owners_with here os call) ≡ length os
length_with here os (Malloc label size) = length-set os label.0 here
length_with here os other = refl

pub length_behind : (here : NodeNo) (os : List NodeNo) (calls : List Planned) → length (owners_behind here os calls) ≡ length os
length_behind here os [] = refl
length_behind here os (p ∷ ps) = length_behind here (owners_with here os p.call) ps ∙ length_with here os p.call

-- whether some of these calls allocates a label
abbrev pub allocated : ℕ → List Planned → Bool
allocated x ps = list_any (λ (p : Planned). allocates x p.call) ps

owner_with : (here : NodeNo) (os : List NodeNo) (x : ℕ) (call : Call) → x < length os
    → slice_get (owners_with here os call) x ≡ cond (allocates x call) (Some here) (slice_get os x)
owner_with here os x (Malloc label size) below =
    let set = set_here os x here (get_or os x here) (slice_get-get_or os x here below) in
    grind (arith, nat_tests, set, set_elsewhere os label.0 x here)
owner_with here os x other below = refl

owner_behind : (here : NodeNo) (os : List NodeNo) (x : ℕ) (ps : List Planned) → x < length os
    → slice_get (owners_behind here os ps) x ≡ cond (allocated x ps) (Some here) (slice_get os x)
owner_behind here os x [] below = refl
owner_behind here os x (p ∷ ps) below =
    let many = length_with here os p.call in
    grind (arith, nat_tests, owner_behind here (owners_with here os p.call) x ps (omega arith), owner_with here os x p.call below)

-- a label that thread m allocates, and no thread of another node
module _ (nodes : ℕ) (config : Config) (script : ℕ → List Planned) (labels : ℕ) where
  abbrev owners : ℕ → List NodeNo
  owners n = owners_of nodes config script labels n

  owners_next : (n : ℕ) → owners (suc n) ≡ owners_behind (home_no nodes config n) (owners n) (script n)
  owners_next n = fold_next (λ os t. owners_behind (home_no nodes config t) os (script t)) (replicate labels (record { 0 = 0 })) n

  length_owners : (n : ℕ) → length (owners n) ≡ labels
  length_owners zero = length-replicate labels (record { 0 = 0 })
  length_owners (suc n) = rw (owners_next, length_behind) (length_owners n)

  module _ (x m : ℕ) (below : x < labels) (made : allocated x (script m) ≡ true)
      (same : (t : ℕ) → allocated x (script t) ≡ true → home_no nodes config t ≡ home_no nodes config m) where
    pub owner_noted : (n : ℕ) → m < n → slice_get (owners n) x ≡ Some (home_no nodes config m)
    owner_noted zero behind = absurd (omega (arith, behind))
    owner_noted (suc n) behind =
        let last = owner_behind (home_no nodes config n) (owners n) x (script n) (omega (arith, below, length_owners n)) in
        grind (arith, nat_tests, owners_next n, last, same n, owner_noted n, made)

any_more : (x t : ℕ) (c : ThreadCall) (cs : List ThreadCall) → allocated x (script_of t cs) ≡ true → allocated x (script_of t (c ∷ cs)) ≡ true
any_more x t c cs some = grind (arith, nat_tests)

-- the thread that allocates a label has it in its script
pub maker_any : (x : ℕ) (cs : List ThreadCall) → list_any (λ (c : ThreadCall). allocates x c.planned.call) cs ≡ true
    → allocated x (script_of (maker x cs) cs) ≡ true
maker_any x [] some = absurd (false≢true some)
maker_any x (c ∷ cs) some = grind (arith, nat_tests, maker_any x cs, any_more x (maker x cs) c cs)

pub maker_below : (x n : ℕ) (cs : List ThreadCall) → AreBelow n cs → list_any (λ (c : ThreadCall). allocates x c.planned.call) cs ≡ true → maker x cs < n
maker_below x n [] below some = absurd (false≢true some)
maker_below x n (c ∷ cs) below some = grind (arith, nat_tests, maker_below x n cs below.1)
