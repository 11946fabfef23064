-- The verdict on a line, by what is known of it.
use Rattle.std.proofs.Common.{◌≡◌, ◌&&◌, ℕ, ◌<◌, leb, Bool, true, false, List, drop, Option, Some, None, Ok, Err, refl, sym, ap, ◌∙◌, cond, option_map, arith}
use Rattle.std.proofs.lemmas.Bool.{leb-false, false≢true}
use Rattle.std.specs.Option.{ok_or}
use Rattle.std.proofs.lemmas.Bool.Decides.{nat_tests}
use Rattle.trace_reader.specs.declared.why.LineWhy.{LineWhy}
use Rattle.trace_reader.specs.declared.why.LineWhy.TheVariants as why
use Rattle.trace_reader.specs.declared.word.Word.{Word}
use Rattle.tc_model.specs.Input.{Asked}
use Rattle.trace_reader.specs.declared.form.Form.{Form}
use Rattle.trace_reader.specs.Form.{has_fields, form_of, read_fields}
use Rattle.trace_reader.specs.Reading.{Line, Rule, line_form, rules, verdict}
use Rattle.trace_reader.specs.Steps.{HasWord, broken, Fits}

-- what the rules on the fields give, where their number is right
read_fields-has : (w : Word) (fields : List (List ℕ)) (form : Option Form) → has_fields w fields ≡ true → form_of w fields ≡ form → read_fields w fields ≡ ok_or form why.Number
read_fields-has w fields form has is = ap (λ b. cond b (ok_or (form_of w fields) why.Number) (Err why.Fields)) has ∙ ap (λ o. ok_or o why.Number) is

read_fields-lacks : (w : Word) (fields : List (List ℕ)) → has_fields w fields ≡ false → read_fields w fields ≡ Err why.Fields
read_fields-lacks w fields lacks = ap (λ b. cond b (ok_or (form_of w fields) why.Number) (Err why.Fields)) lacks

-- the fields behind the word are another number of them
verdict-fields : (line : Line) (w : Word) → HasWord line w → has_fields w (drop 1 line.fields) ≡ false → verdict rules line ≡ Some why.Fields
verdict-fields line w known lacks = grind (arith)

-- they aren't all numbers in their ranges
verdict-number : (line : Line) (w : Word) → HasWord line w → has_fields w (drop 1 line.fields) ≡ true → form_of w (drop 1 line.fields) ≡ None → verdict rules line ≡ Some why.Number
verdict-number line w known has none = grind (arith)

-- the reason of the first rule that fails
reason-cond : (fails : Bool) (first others : Option (Rule Line LineWhy))
    → option_map (λ (r : Rule Line LineWhy). r.why) (cond fails first others) ≡ cond fails (option_map (λ (r : Rule Line LineWhy). r.why) first) (option_map (λ (r : Rule Line LineWhy). r.why) others)
reason-cond fails first others = grind arith

-- the line has a form, and the rules on it decide
verdict-form : (line : Line) (w : Word) (form : Form) → HasWord line w → has_fields w (drop 1 line.fields) ≡ true
    → form_of w (drop 1 line.fields) ≡ Some form → verdict rules line ≡ broken line.classes line.before.asked form
verdict-form line w form known has is = grind (arith, nat_tests, reason-cond)

pub verdict-err : (line : Line) (w : Word) (reason : LineWhy) → HasWord line w → read_fields w (drop 1 line.fields) ≡ Err reason → verdict rules line ≡ Some reason
verdict-err line w reason known h = grind (arith, nat_tests, read_fields-lacks, verdict-fields, read_fields-has, verdict-number)

-- where the rules on the fields pass, the fields are right in number, and the word has this form with them
form_from_fields : (w : Word) (fields : List (List ℕ)) (form : Form) → read_fields w fields ≡ Ok form → (has_fields w fields ≡ true) × (form_of w fields ≡ Some form)
form_from_fields w fields form h = grind (arith, nat_tests, read_fields-lacks, read_fields-has)

pub verdict-ok : (line : Line) (w : Word) (form : Form) → HasWord line w → read_fields w (drop 1 line.fields) ≡ Ok form → verdict rules line ≡ broken line.classes line.before.asked form
verdict-ok line w form known h = grind (arith, form_from_fields w (drop 1 line.fields) form h, verdict-form line w form known)

pub line_form-ok : (line : Line) (w : Word) (form : Form) → HasWord line w → read_fields w (drop 1 line.fields) ≡ Ok form → line_form line.fields ≡ Some form
line_form-ok line w form known h = grind (arith, form_from_fields w (drop 1 line.fields) form h)

-- no rule on a form fails, so none of the first ones does
none_first : (fails : Bool) (reason : LineWhy) (others : Option LineWhy) → cond fails (Some reason) others ≡ None → (fails ≡ false) × (others ≡ None)
none_first fails reason others h = grind arith

below : (bound n : ℕ) → leb bound n ≡ false → n < bound
below bound n h = leb-false bound n h

pub fits : (classes : ℕ) (asked : Asked) (form : Form) → broken classes asked form ≡ None → Fits classes asked form
fits classes asked x2 h = grind (arith)

-- where no head may come, what isn't early is none
pub early_head : (late is : Bool) → (late && is) ≡ false → is ≡ true → late ≡ false
early_head false is h e = refl
early_head true is h e = absurd (false≢true (sym h ∙ e))
