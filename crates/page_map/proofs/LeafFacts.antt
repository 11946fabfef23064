-- A leaf that is made for a hugepage in which no span has begun.
use Rattle.std.proofs.lemmas.Bool.Decides.{nat_tests}
use Rattle.std.proofs.Common.{◌≡◌, ℕ, ◌/◌, ◌%◌, ◌<◌, List, length, get_or, set, replicate, false, is_some, Option, Some, None, sym, ap, ◌∙◌, inl, inr, arith}
use Rattle.std.proofs.lemmas.Bool.{cases_eq, true≢false}
use Rattle.std.proofs.lemmas.List.{get_or-replicate, get_or-set_same, get_or-set_other}
use Rattle.tc_units.specs.declared.spans.SpanRef.{SpanRef}
use Rattle.page_map.specs.declared.leaf.Leaf.{Leaf}
use Rattle.page_map.specs.Begins.{begin_in, begin_at}

pub none_by : (o : Option Leaf) → is_some o ≡ false → o ≡ None
none_by o e = grind (arith, nat_tests, true≢false)

pub leaf_made : (leaves : List (Option Leaf)) (index : ℕ) (leaf : Leaf) → index < length leaves → get_or leaves index None ≡ None → leaf.begins.items ≡ replicate 256 None → (k : ℕ) → begin_at (set leaves index (Some leaf)) k ≡ begin_at leaves k
leaf_made leaves index leaf inside none is k =
    elim (cases_eq (k / 256) index) [
      | inr other ↦ ap (λ (o : Option Leaf). begin_in o (k % 256)) (get_or-set_other leaves index (k / 256) (Some leaf) None other)
      | inl same ↦
          (let now : get_or (set leaves index (Some leaf)) (k / 256) None ≡ Some leaf = ap (λ (i : ℕ). get_or (set leaves index (Some leaf)) i None) same ∙ get_or-set_same leaves index (Some leaf) None inside in
          let was : get_or leaves (k / 256) None ≡ None = ap (λ (i : ℕ). get_or leaves i None) same ∙ none in
          ap (λ (o : Option Leaf). begin_in o (k % 256)) now
          ∙ ap (λ (xs : List (Option SpanRef)). get_or xs (k % 256) None) is
          ∙ get_or-replicate 256 (k % 256) None None (omega arith)
          ∙ sym (ap (λ (o : Option Leaf). begin_in o (k % 256)) was))
    ]
