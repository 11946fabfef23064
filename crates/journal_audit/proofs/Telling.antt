-- The text of a run is read again: its lines of calls tell the calls that it was printed of.
use Rattle.std.proofs.Common.{◌≡◌, ℕ, ◌&&◌, ◌==◌, if◌then◌else◌, true, false, List, [], ◌∷◌, ◌++◌, length, map, cond, codes, decimal, bytes_eq, Some, refl, sym}
use Rattle.std.proofs.Common.{ap, ◌∙◌, ◌+◌, suc, not, take, subst, arith, append_assoc}
use Rattle.std.specs.List.{All, AllZip, before_first, enumerate_from, position_or_len}
use Rattle.std.proofs.lemmas.Bool.{eq-eqb, false_from_ne_true}
use Rattle.std.proofs.lemmas.List.{map-id}
use Rattle.std.proofs.lemmas.List.Elements.{All-nil, All-cons, All-head, All-tail, All-from_recursion}
use Rattle.std.proofs.lemmas.Slice.Eq.{bytes_eq-Decides}
use Rattle.tc_units.specs.Classes.{length_of}
use Rattle.tc_units.specs.declared.units.ThreadNo.{ThreadNo}
use Rattle.tc_units.specs.declared.rows.RowKind.{RowKind}
use Rattle.tc_units.specs.declared.rows.RowView.{RowView}
use Rattle.tc_model.specs.declared.calls.Call.{Call}
use Rattle.tc_model.specs.declared.answers.Answer.{Answer}
use Rattle.tc_model.specs.declared.answers.Answer.TheVariants as answer
use Rattle.tc_model.specs.declared.answers.CallLine.{CallLine}
use Rattle.tc_model.specs.Blocks.{IsAllowed, IsBlockRun}
use Rattle.trace_text.specs.Joined.{IsField}
use Rattle.trace_text.specs.Lines.{lines_of}
use Rattle.trace_text.proofs.Decimals.{number_of_decimal, decimal_is_field}
use Rattle.trace_text.proofs.Printed.{IsPrinted, word_is_field, printed_append, printed_line, printed_numbers, printed_each}
use Rattle.usage_report.specs.Report as report
use Rattle.usage_report.specs.Report.{letter_of, named_words, answer_words, call_line, fragmentation, summary_of, kind_word, measures, row_line, text_of}
use Rattle.usage_report.specs.Report.{IsSmall, NamesSmall, AnswersSmall, IsTellable}
use Rattle.journal_audit.specs.declared.told.Act.{Act}
use Rattle.journal_audit.specs.Forms.{number, told_by, names, answer_of}
use Rattle.journal_audit.specs.Rules.{Plan, ends, journal_of}
use Rattle.journal_audit.specs.Legal.{Tells}
use Rattle.journal_audit.specs.Printed.{PrintedIsLegal}
use Rattle.journal_audit.proofs.LinesBehind.{printed_stays}

-- What is printed.
printed : (first : List ℕ) (others : List (List ℕ)) → IsField first → All IsField others → IsPrinted (report.line_of first others) ((first ∷ others) ∷ [])
printed first others own rest = grind (arith, printed_line (λ word. word) first others own rest, map-id others)

one : (field : List ℕ) → IsField field → All IsField (field ∷ [])
one field is = All-cons IsField field [] is (All-nil IsField)

two : (a b : List ℕ) → IsField a → IsField b → All IsField (a ∷ b ∷ [])
two a b is more = All-cons IsField a (b ∷ []) is (one b more)

decimals : (n m : ℕ) → All IsField (decimal n ∷ decimal m ∷ [])
decimals n m = two (decimal n) (decimal m) (decimal_is_field n) (decimal_is_field m)

counted : (word : List ℕ) (n : ℕ) → IsField word → All IsField (word ∷ decimal n ∷ [])
counted word n is = two word (decimal n) is (decimal_is_field n)

letter_is_field : (c : Call) → IsField (letter_of c)
letter_is_field x0 = grind (arith)

named_are_fields : (c : Call) → All IsField (named_words c)
named_are_fields c = grind (arith, one, decimal_is_field, All-nil, All-cons, decimals)

answer_is_fields : (a : Answer) → All IsField (answer_words a)
answer_is_fields (answer.Block addr len) = decimals addr.0 len
answer_is_fields answer.NoBlock = one (codes "none") (word_is_field (codes "none") refl)
answer_is_fields (answer.Freed addr) = one (decimal addr.0) (decimal_is_field addr.0)
answer_is_fields answer.FreedNull = one (codes "none") (word_is_field (codes "none") refl)
answer_is_fields (answer.Released pages) = one (decimal pages) (decimal_is_field pages)
answer_is_fields (answer.Drained objects) = counted (codes "ok") objects (word_is_field (codes "ok") refl)
answer_is_fields (answer.Busy owner) = counted (codes "busy") owner.0 (word_is_field (codes "busy") refl)
answer_is_fields answer.CapSet = one (codes "ok") (word_is_field (codes "ok") refl)
answer_is_fields (answer.OverLimit sum) = counted (codes "overlimit") sum (word_is_field (codes "overlimit") refl)
answer_is_fields (answer.OverStatic cap) = counted (codes "overstatic") cap (word_is_field (codes "overstatic") refl)

-- the fields of a call's line
abbrev call_fields : CallLine → List (List ℕ)
call_fields c = letter_of c.call ∷ decimal c.thread.0 ∷ named_words c.call ++ answer_words c.answer

call_printed : (c : CallLine) → IsPrinted (call_line c) (call_fields c ∷ [])
call_printed c = grind (arith, answer_is_fields, decimal, decimal_is_field, letter_is_field, named_are_fields, printed)

-- the lines behind those of calls: the summary, and those of hugepages
kind_is_field : (k : RowKind) → IsField (kind_word k)
kind_is_field k = grind (arith)

abbrev row_fields : ℕ × RowView → List (List ℕ)
row_fields numbered = codes "h" ∷ decimal numbered.0 ∷ kind_word numbered.1.kind ∷ measures numbered.1

row_printed : (numbered : ℕ × RowView) → IsPrinted (row_line numbered.0 numbered.1) (row_fields numbered ∷ [])
row_printed numbered =
    let row = numbered.1 in
    let words : List (List ℕ) = decimal numbered.0 ∷ kind_word row.kind ∷ measures row in
    let numbers : All IsField (measures row) = All-from_recursion IsField (measures row) (
      decimal_is_field row.used,
      (
        decimal_is_field row.allocs,
        (
          decimal_is_field row.backed,
          (
            decimal_is_field row.longest,
            (decimal_is_field (if row.donated then 1 else 0), tt),
          ),
        ),
      ),
    ) in
    let own = All-cons IsField (kind_word row.kind) (measures row) (kind_is_field row.kind) numbers in
    printed (codes "h") words (word_is_field (codes "h") refl) (All-cons IsField (decimal numbered.0) (kind_word row.kind ∷ measures row) (decimal_is_field numbered.0) own)

module _ (calls : List CallLine) (live live_bytes used resident : ℕ) (rows : List RowView) where
  abbrev summary_lines : List (List (List ℕ))
  summary_lines =
      (codes "calls" ∷ decimal (length calls) ∷ []) ∷ (codes "live" ∷ decimal live ∷ decimal live_bytes ∷ []) ∷ (codes "used" ∷ decimal used ∷ [])
      ∷ (codes "resident" ∷ decimal resident ∷ []) ∷ (codes "frag" ∷ decimal (fragmentation resident live_bytes) ∷ []) ∷ []

  summary_printed : IsPrinted (summary_of (length calls) live live_bytes used resident) summary_lines
  summary_printed =
      let calls_are = printed_numbers (codes "calls") (length calls ∷ []) refl in
      let live_is = printed_append _ _ _ _ calls_are (printed_numbers (codes "live") (live ∷ live_bytes ∷ []) refl) in
      let used_is = printed_append _ _ _ _ live_is (printed_numbers (codes "used") (used ∷ []) refl) in
      let resident_is = printed_append _ _ _ _ used_is (printed_numbers (codes "resident") (resident ∷ []) refl) in
      printed_append _ _ _ _ resident_is (printed_numbers (codes "frag") (fragmentation resident live_bytes ∷ []) refl)

  abbrev lines_behind : List (List (List ℕ))
  lines_behind = summary_lines ++ map row_fields (enumerate_from 1 rows)

  text_printed : IsPrinted (text_of calls live live_bytes used resident rows) (map call_fields calls ++ lines_behind)
  text_printed =
      let rows_are = printed_each (λ (numbered : ℕ × RowView). row_line numbered.0 numbered.1) row_fields row_printed (enumerate_from 1 rows) in
      let calls_are = printed_each call_line call_fields call_printed calls in
      let whole = printed_append _ _ _ _ (printed_append _ _ _ _ calls_are summary_printed) rows_are in
      let cut = append_assoc (map call_fields calls) summary_lines (map row_fields (enumerate_from 1 rows)) in
      subst (IsPrinted (text_of calls live live_bytes used resident rows)) cut whole

-- the lines before the summary are those of calls
letter_goes_on : (c : Call) (others : List (List ℕ)) → ends (letter_of c ∷ others) ≡ false
letter_goes_on c others = grind arith

lines_are_calls : (calls : List CallLine) (count : List (List ℕ)) (more : List (List (List ℕ)))
    → before_first ends (map call_fields calls ++ (codes "calls" ∷ count) ∷ more) ≡ map call_fields calls
lines_are_calls [] count more = refl
lines_are_calls (c ∷ cs) count more =
    let rest = map call_fields cs ++ (codes "calls" ∷ count) ∷ more in
    let past : position_or_len ends (call_fields c ∷ rest) ≡ suc (position_or_len ends rest) =
    ap (λ b. cond (not b) (1 + position_or_len ends rest) 0) (letter_goes_on c.call []) ∙ omega arith in
    ap (λ n. take n (call_fields c ∷ rest)) past ∙ ap (λ xs. call_fields c ∷ xs) (lines_are_calls cs count more)

-- What is read.
reads : (n : ℕ) → IsSmall n → number (decimal n) ≡ Some n
reads n small = number_of_decimal 18446744073709551615 n (omega arith) small

no_none : (n : ℕ) → IsSmall n → bytes_eq (decimal n) (codes "none") ≡ false
no_none n small = grind (arith, false_from_ne_true, bytes_eq-Decides (decimal n) (codes "none"), reads n small)

names_resize : (cpu k cap : ℕ) → ((cpu == cpu) && (k == k) && (cap == cap)) ≡ true
names_resize cpu k cap = rw (eq-eqb cpu cpu refl, eq-eqb k k refl, eq-eqb cap cap refl) refl

abbrev line : ThreadNo → Call → Answer → CallLine
line t c a = record { thread = t; call = c; answer = a }

-- a line that was printed tells its call
module _ (huge : ℕ) (round : ℕ → ℕ) (earlier : List CallLine) (t : ThreadNo) (small : IsSmall t.0) where
  says : (c : Call) (a : Answer) (own : Act) → told_by (call_fields (line t c a)) ≡ Some (record { thread = t.0; act = own })
      → names own c ≡ true → a ≡ answer_of own → Tells (told_by (call_fields (line t c a))) (line t c a)
  says c a own form named is = record { told = record { thread = t.0; act = own }; form_is = form; thread = refl; call = named; answer = is }

  same : (n : ℕ) → (n == n) ≡ true
  same n = eq-eqb n n refl

  tells : (c : Call) (a : Answer) → IsAllowed huge round earlier c a → NamesSmall c → AnswersSmall a → Tells (told_by (call_fields (line t c a))) (line t c a)
  tells c a allowed named said = grind (arith, reads, same, says, no_none, names_resize)

module _ (plan : Plan) (calls : List CallLine) (run : IsBlockRun plan.huge (length_of plan.rows) calls) where
  all_tell : (earlier later : List CallLine) → earlier ++ later ≡ calls → All IsTellable later → AllZip Tells (map told_by (map call_fields later)) later
  all_tell earlier [] is tellable = tt
  all_tell earlier (c ∷ cs) is tellable =
      let own = All-head IsTellable c cs tellable in (
        tells plan.huge (length_of plan.rows) earlier c.thread own.thread c.call c.answer (run earlier c cs is) own.named own.answered,
        all_tell (earlier ++ c ∷ []) cs (append_assoc earlier (c ∷ []) cs ∙ is) (All-tail IsTellable c cs tellable),
      )

pub printed_is_legal : PrintedIsLegal
printed_is_legal plan calls live live_bytes used resident rows more run order tellable =
    let text = text_of calls live live_bytes used resident rows in
    let lines = printed_stays text _ more (text_printed calls live live_bytes used resident rows) in
    let cut = append_assoc (map call_fields calls) (lines_behind calls live live_bytes used resident rows) (lines_of more) in
    let journal : journal_of (text ++ more) ≡ map told_by (map call_fields calls) = ap (map told_by) (ap (before_first ends) (lines ∙ cut) ∙ lines_are_calls calls _ _) in
    let told = subst (λ forms. AllZip Tells forms calls) (sym journal) (all_tell plan calls run [] calls refl tellable) in
    record { calls = calls; told = told; order = order; run = run }
