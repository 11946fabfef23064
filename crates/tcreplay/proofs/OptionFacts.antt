-- One option more, of those that are left.
use Rattle.std.proofs.Common.{◌≡◌, ℕ, true, false, cond, List, [], ◌∷◌, Some, None, ap, ◌∙◌, option_and_then, arith}
use Rattle.tcreplay.specs.declared.words.Kind.{Kind}
use Rattle.tcreplay.specs.declared.words.Flag.{Flag}
use Rattle.tcreplay.specs.Words.{Options, is_switch, taken_flag, with_switch, with_value, options_of}

-- an option that has no value
pub switch_step : (kind : Kind) (so more : Options) (word : List ℕ) (flag : Flag) (words : List (List ℕ)) → taken_flag kind word ≡ Some flag
    → is_switch flag ≡ true → with_switch so flag ≡ Some more → options_of kind so (word ∷ words) ≡ options_of kind more words
switch_step kind so more word flag [] taken rows with =
    ap (option_and_then (λ flag. cond (is_switch flag) (with_switch so flag) None)) taken ∙ (ap (λ b. cond b (with_switch so flag) None) rows ∙ with)
switch_step kind so more word flag (value ∷ words) taken rows with = grind (arith)

-- an option with its value
pub value_step : (kind : Kind) (so more : Options) (word value : List ℕ) (flag : Flag) (words : List (List ℕ)) → taken_flag kind word ≡ Some flag
    → is_switch flag ≡ false → with_value so flag value ≡ Some more → options_of kind so (word ∷ value ∷ words) ≡ options_of kind more words
value_step kind so more word value flag words taken rows with = grind (arith)
