-- A thread's calls by their nodes: the call at a place of its script is the next one of its script at that node.
use Rattle.std.proofs.Common.{◌≡◌, ℕ, ◌⊎◌, Bool, true, eqb, List, ◌∷◌, ◌++◌, take, filter, Option, Some, None, refl, sym, ap, ◌∙◌, subst, arith}
use Rattle.std.specs.Prelude.{slice_get, count_by, option_map}
use Rattle.std.proofs.lemmas.Bool.{false≢true}
use Rattle.std.proofs.lemmas.Option.{slice_get-map}
use Rattle.std.proofs.lemmas.Bool.Decides.{nat_tests}
use Rattle.tc_model.specs.declared.calls.Call.{Call}
use Rattle.tc_model.specs.declared.calls.Planned.{Planned}
use Rattle.tc_model.specs.Blocks.{allocates, frees}
use Rattle.tc_model.specs.Input.{Input, ThreadCall, script_of}
use Rattle.call_steps.specs.Kept.{call_at}
use Rattle.alloc_rules.specs.Inputs.{IsValidInput}
use Rattle.node_rules.specs.Joined.{NodeLine, IsAbout}
use Rattle.node_rules.specs.Nodes.{acts_at, node_of, asked_at, route_of}
use Rattle.node_rules.proofs.Splits.{filter_both}
use Rattle.node_rules.proofs.Counted.{kept_at, kept_there}
use Rattle.node_rules.proofs.NodeInputs.{made_at, owner}

pub map_some : {X Y : Type 0} (f : X → Y) (o : Option X) (y : Y) → option_map f o ≡ Some y → (x : X) × (o ≡ Some x) × (f x ≡ y)
map_some f None y is = absurd (cc)
map_some f (Some x) y is = (x, refl, cc)

module _ (nodes : ℕ) (input : Input) where
  abbrev calls : List ThreadCall
  calls = input.asked.calls

  abbrev own : ℕ → List ThreadCall
  own t = filter (λ (c : ThreadCall). eqb c.thread.0 t) calls

  abbrev At : ℕ → ThreadCall → Bool
  At k c = eqb (node_of nodes input.asked c) k

  -- the place of a call of the thread in what its node is asked for
  abbrev pub place_at : ℕ → ℕ → ℕ → ℕ
  place_at t e k = count_by (λ j. eqb j k) (take e (route_of nodes input.asked t))

  pub call_at_node : (t e k : ℕ) → slice_get (route_of nodes input.asked t) e ≡ Some k
      → call_at (script_of t (asked_at nodes input.asked k).calls) (place_at t e k) ≡ call_at (script_of t calls) e
  call_at_node t e k at =
      let n : ℕ = place_at t e k in
      let same : slice_get (filter (λ (c : ThreadCall). eqb c.thread.0 t) (filter (At k) calls)) n ≡ slice_get (own t) e =
      ap (λ (cs : List ThreadCall). slice_get cs n)
      (filter_both (λ (c : ThreadCall). eqb c.thread.0 t) (At k) calls) ∙ kept_at (node_of nodes input.asked) k (own t) e at in
      ap (option_map (λ (p : Planned). p.call))
      (slice_get-map (λ (c : ThreadCall). c.planned) (filter (λ (c : ThreadCall). eqb c.thread.0 t) (filter (At k) calls)) n
      ∙ (ap (option_map (λ (c : ThreadCall). c.planned)) same ∙ sym (slice_get-map (λ (c : ThreadCall). c.planned) (own t) e)))

  -- a call of the thread's script, in the trace
  pub record IsCallAt (t k : ℕ) (call : Call) : Type 0 where
    pub c : ThreadCall
    pub before : List ThreadCall
    pub behind : List ThreadCall
    pub is : before ++ c ∷ behind ≡ calls
    pub thread : c.thread.0 ≡ t
    pub call_is : c.planned.call ≡ call
    pub node : node_of nodes input.asked c ≡ k

  pub call_there : (t e k : ℕ) (call : Call) → slice_get (route_of nodes input.asked t) e ≡ Some k → call_at (script_of t calls) e ≡ Some call
      → IsCallAt t k call
  call_there t e k call at is = grind (arith, nat_tests, map_some, slice_get-map, kept_there)

  -- it acts at its node
  pub acts_there : (t k : ℕ) (call : Call) → IsCallAt t k call → k ≡ acts_at nodes input.asked t call
  acts_there t k call s =
      sym s.node ∙ (ap (λ u. acts_at nodes input.asked u s.c.planned.call) s.thread ∙ ap (acts_at nodes input.asked t) s.call_is)

  module _ (valid : IsValidInput input) where
    -- which is the node of each label that it is of
    label_by : (t k : ℕ) (label : ℕ) (call : Call) → IsCallAt t k call → (allocates label call ≡ true) ⊎ (frees label call ≡ true)
        → k ≡ owner nodes input valid label
    label_by t k label call s about = grind (arith, nat_tests, made_at, acts_there, false≢true)

    pub label_there : (t k : ℕ) (call : Call) → IsCallAt t k call → (x : NodeLine) → x.node ≡ k → x.line.call ≡ call → (label : ℕ) → IsAbout label x
        → x.node ≡ owner nodes input valid label
    label_there t k call s x at is label about =
        at ∙ label_by t k label call s (subst (λ (c : Call). (allocates label c ≡ true) ⊎ (frees label c ≡ true)) is about)
