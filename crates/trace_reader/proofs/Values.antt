-- The values behind a word.
use Rattle.std.proofs.Common.{◌≡◌, ℕ, ◌<◌, ◌^◌, List, [], ◌∷◌, ◌==◌, false, length, Some, None, Ok, arith, lit≤}
use Rattle.std.proofs.lemmas.Bool.Decides.{nat_tests}
use Rattle.tc_model.specs.declared.config.Head as heads
use Rattle.tc_model.specs.declared.config.Head.TheVariants as head
use Rattle.tc_model.specs.Heads.{head_rule}
use Rattle.trace_reader.specs.declared.word.Word.{Word}
use Rattle.trace_reader.specs.declared.form.Form.{Form}
use Rattle.trace_reader.specs.Words.{Range, ranges_of}
use Rattle.trace_reader.specs.Form.{numbers_in, form_of, read_fields}

-- there are none where there are more fields, or fewer
pub numbers_none : (ranges : List Range) (fields : List (List ℕ)) → (length fields == length ranges) ≡ false → numbers_in ranges fields ≡ None
numbers_none [] [] h = grind arith
numbers_none (range ∷ ranges) (f ∷ fs) h = grind (arith, nat_tests, numbers_none ranges fs)
numbers_none _ _ h = grind arith

-- where a word has a form with its fields, there are as many as it wants
pub read_fields_form : (w : Word) (fields : List (List ℕ)) (form : Form) → form_of w fields ≡ Some form → read_fields w fields ≡ Ok form
read_fields_form w fields form h = grind (arith, nat_tests, numbers_none (ranges_of w) fields)

-- the values of heads are small
pub head_most : (h : heads.Head) → (head_rule h).most < 2 ^ 60
head_most head.Cpus = lit≤ tt
head_most _ = lit≤ tt
