-- The calls of a node among those of all: which they are, and what they say of a label whose calls are all at that node.
use Rattle.std.proofs.Common.{◌≡◌, ◌≢◌, ℕ, List, [], ◌∷◌, ◌++◌, map, refl, ◌∙◌, arith}
use Rattle.std.specs.Prelude.{All, option_map}
use Rattle.std.proofs.lemmas.Bool.{eq-eqb}
use Rattle.std.proofs.lemmas.Bool.Decides.{nat_tests}
use Rattle.std.proofs.lemmas.List.{append-nil, map-append}
use Rattle.std.proofs.lemmas.List.Elements.{All-head, All-tail, filter-append}
use Rattle.tc_model.specs.Blocks.{answer_to, freed_in}
use Rattle.node_rules.specs.Joined.{NodeLine, IsAbout, bytes_before, shifted, told_line, lines_at}

pub lines_append : (k : ℕ) (xs ys : List NodeLine) → lines_at k (xs ++ ys) ≡ lines_at k xs ++ lines_at k ys
lines_append k xs ys = grind (arith, filter-append, map-append)

-- those from a call at the node on, and those before a call at another
pub lines_here : (xs : List NodeLine) (x : NodeLine) (ys : List NodeLine) → lines_at x.node (xs ++ x ∷ ys) ≡ lines_at x.node xs ++ x.line ∷ lines_at x.node ys
lines_here xs x ys = let here = eq-eqb x.node x.node refl in lines_append x.node xs (x ∷ ys) ∙ rw here refl

pub lines_away : (k : ℕ) (xs : List NodeLine) (x : NodeLine) → k ≢ x.node → lines_at k (xs ++ x ∷ []) ≡ lines_at k xs
lines_away k xs x other = grind (arith, nat_tests, lines_append, append-nil)

-- a call of a label is at a node
abbrev pub IsAt : ℕ → ℕ → NodeLine → Type 0
IsAt label k x = IsAbout label x → x.node ≡ k

module _ (huge k label : ℕ) where
  pub answer_told : (xs : List NodeLine) → All (IsAt label k) xs
      → answer_to label (map (told_line huge) xs) ≡ option_map (shifted (bytes_before huge k)) (answer_to label (lines_at k xs))
  answer_told [] own = refl
  answer_told (x ∷ xs) own = grind (arith, nat_tests, answer_told xs (All-tail (IsAt label k) x xs own), All-tail, All-head)

  pub freed_told : (xs : List NodeLine) → All (IsAt label k) xs → freed_in label (map (told_line huge) xs) ≡ freed_in label (lines_at k xs)
  freed_told [] own = refl
  freed_told (x ∷ xs) own = grind (arith, nat_tests, freed_told xs (All-tail (IsAt label k) x xs own), All-tail, All-head)
