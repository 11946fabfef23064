use Rattle.std.proofs.Common.{arith}
use Rattle.std.proofs.lemmas.Bool.Decides.{nat_tests}
use Rattle.std.proofs.lemmas.List.{take_rest, take-take}
use Rattle.std.proofs.lemmas.List.Edits.{length-between, get_or-between}
use Rattle.std.specs.List.{slice_range}
use Rattle.trace_text.proofs.Blocks.{digits_are_field}
use Rattle.trace_text.proofs.digits.few_digits.Goals as goal

pub returns-clause-length : goal.returns-clause-length
returns-clause-length c =
    let text = c.args.text.now in
    let digits = rw (take_rest text c.args.start) at c.in_ok-value.ensures.digits in
    let size = length-between text c.args.start c.args.end c.requires.within in
    digits_are_field (slice_range text c.args.start c.args.end) c.in_ok-value.count (grind (arith, nat_tests, take-take, digits)) (grind (arith, nat_tests, size))
    (λ l. grind (arith, nat_tests, size, get_or-between text c.args.start c.args.end c.in_ok-value.count 0))
