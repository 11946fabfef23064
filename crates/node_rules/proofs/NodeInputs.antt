-- What a node is asked for is a valid input of its own: the calls of a label are all at one node.
use Rattle.std.proofs.Common.{◌≡◌, ℕ, ◌<◌, ◌⊎◌, Bool, true, false, cond, eqb, List, [], ◌∷◌, ◌++◌, filter, refl, sym, ap, ◌∙◌, subst, arith}
use Rattle.std.proofs.lemmas.Bool.{cases_Bool, eqb-true}
use Rattle.std.proofs.lemmas.List.Sums.{sum_by-cons}
use Rattle.std.proofs.Math.Seq.{append_snoc}
use Rattle.std.proofs.lemmas.Bool.Decides.{nat_tests}
use Rattle.tc_units.specs.declared.units.Label.{Label}
use Rattle.tc_model.specs.declared.calls.Call.{Call}
use Rattle.tc_model.specs.declared.calls.Call.TheVariants.{Malloc, Free, Release, Drain, Resize}
use Rattle.tc_model.specs.Input.{Input, ThreadCall}
use Rattle.tc_model.specs.Blocks.{allocates}
use Rattle.holdings.specs.Accounts.{got, put}
use Rattle.alloc_rules.specs.Inputs.{IsValidInput, not_taken}
use Rattle.alloc_rules.specs.Valid.{IsInOrder, got_in}
use Rattle.node_rules.specs.Nodes.{home, maker, node_of, acts_at, asked_at, input_at}
use Rattle.node_rules.proofs.Splits.{filter_split, kept_less}

-- an allocation of a label counts for it, and is one of it
got_allocates : (x : ℕ) (call : Call) → got x call ≡ 0 → allocates x call ≡ false
got_allocates x call none = grind (arith, cases_Bool)

-- the maker of a label that no earlier call allocates is behind these
maker_behind : (x : ℕ) (earlier later : List ThreadCall) → got_in x earlier ≡ 0 → maker x (earlier ++ later) ≡ maker x later
maker_behind x [] later none = refl
maker_behind x (c ∷ cs) later none =
    grind (arith, maker_behind x cs later, sum_by-cons (λ (d : ThreadCall). got x d.planned.call) c cs, got_allocates x c.planned.call)

module _ (nodes : ℕ) (input : Input) (valid : IsValidInput input) where
  abbrev calls : List ThreadCall
  calls = input.asked.calls

  -- the node of a label
  abbrev pub owner : ℕ → ℕ
  owner x = home nodes input.asked.config (maker x calls)

  abbrev At : ℕ → ThreadCall → Bool
  At k c = eqb (node_of nodes input.asked c) k

  -- an allocation is at its label's node
  pub made_at : (earlier : List ThreadCall) (c : ThreadCall) (later : List ThreadCall) (label : Label) (size : ℕ) → earlier ++ c ∷ later ≡ calls
      → c.planned.call ≡ Malloc label size → maker label.0 calls ≡ c.thread.0
  made_at earlier c later label size is call = grind (arith, nat_tests, maker_behind)

  -- a call that allocates a label is at its node
  got_here : (x : ℕ) (earlier : List ThreadCall) (c : ThreadCall) (later : List ThreadCall) (call : Call) → earlier ++ c ∷ later ≡ calls → c.planned.call ≡ call
      → (got x call ≡ 0) ⊎ (node_of nodes input.asked c ≡ owner x)
  got_here x earlier c later x4 is call = grind (arith, nat_tests, made_at)

  -- so a node keeps all allocations of its labels
  got_kept : (x k : ℕ) → k ≡ owner x → (earlier es later : List ThreadCall) → earlier ++ (es ++ later) ≡ calls → got_in x (filter (At k) es) ≡ got_in x es
  got_kept x k own earlier [] later is = refl
  got_kept x k own earlier (e ∷ es) later is =
      let rest = got_kept x k own (earlier ++ e ∷ []) es later (append_snoc earlier e (es ++ later) ∙ is) in
      let both = sum_by-cons (λ (d : ThreadCall). got x d.planned.call) e es in
      let kept = sum_by-cons (λ (d : ThreadCall). got x d.planned.call) e (filter (At k) es) in
      grind (arith, nat_tests, got_here x earlier e (es ++ later) e.planned.call is refl)

  in_order : (k : ℕ) (before : List ThreadCall) (c : ThreadCall) (behind : List ThreadCall) (call : Call) → before ++ c ∷ behind ≡ calls → At k c ≡ true
      → c.planned.call ≡ call → IsInOrder before call → IsInOrder (filter (At k) before) call
  in_order k before c behind (Malloc label size) is at call order =
      (order.0, omega (arith, order.1, kept_less (λ (d : ThreadCall). got label.0 d.planned.call) (At k) before))
  in_order k before c behind (Free label) is at call order =
      let here : k ≡ owner label.0 = sym (eqb-true (node_of nodes input.asked c) k at) ∙ ap (acts_at nodes input.asked c.thread.0) call in (
        subst (λ n. 0 < n) (sym (got_kept label.0 k here [] before (c ∷ behind) is)) order.0,
        omega (arith, order.1, kept_less (λ (d : ThreadCall). put label.0 d.planned.call) (At k) before),
      )
  in_order k before c behind (Release pages) is at call order = tt
  in_order k before c behind (Drain cpu) is at call order = tt
  in_order k before c behind (Resize cpu class cap) is at call order = tt

  pub valid_at : (k : ℕ) → IsValidInput (input_at nodes input k)
  valid_at k = grind (arith, filter_split (At k) calls, in_order k)

pub taken_at : (nodes : ℕ) (input : Input) (takes : Call → Bool) (k : ℕ) → not_taken takes input.asked.calls ≡ 0
    → not_taken takes (asked_at nodes input.asked k).calls ≡ 0
taken_at nodes input takes k none =
    let one : ThreadCall → ℕ = λ c. cond (takes c.planned.call) 0 1 in
    omega (arith, none, kept_less one (λ (c : ThreadCall). eqb (node_of nodes input.asked c) k) input.asked.calls)
