use Rattle.std.proofs.Common.{get_or, take, refl, arith}
use Rattle.std.proofs.lemmas.List.{length-take-le, get_or-take}
use Rattle.std.proofs.lemmas.List.Sums.{prefix_len-le-length}
use Rattle.std.proofs.lemmas.Bool.Decides.{nat_tests}
use Rattle.std.specs.List.{position_or_len}
use Rattle.trace_text.specs.Lines.{is_space}
use Rattle.trace_text.proofs.Numbers.{one_more, none_more, all_read, in_field, at_space}
use Rattle.trace_text.proofs.fields.first_number.Goals.{else-loop-byte-test, then-loop-byte-test+in-None, then-length-gt1, else-length-gt1}
use Rattle.trace_text.proofs.fields.first_number.Goals as goal

pub returns-in-None-2-clause-number : goal.returns-in-None-2-clause-number
returns-in-None-2-clause-number c =
    let rest = c.args.rest.now in
    let n = position_or_len is_space rest in
    grind (arith, in_field rest n c.loop-byte.length refl, none_more c.args.most c.loop-byte.value c.loop-byte.length (get_or rest c.loop-byte.byte-index 0) (take n rest))

pub loop-byte-preserved : goal.loop-byte-preserved
loop-byte-preserved c =
    let rest = c.args.rest.now in
    let n = position_or_len is_space rest in
    grind (arith, nat_tests, in_field rest n c.loop-byte.length refl, one_more c.args.most c.loop-byte.value c.loop-byte.length (get_or rest c.loop-byte.byte-index 0) c.in-Some.more (take n rest), length-take-le n rest)

pub returns-clause-length : goal.returns-clause-length
returns-clause-length c =
    let rest = c.args.rest.now in
    let n = position_or_len is_space rest in
    elim c.loop-byte-test.branch [
      | else-loop-byte-test w ↦ grind (arith, prefix_len-le-length)
      | then-loop-byte-test+in-None w ↦ at_space rest n c.loop-byte.length refl c.loop-byte.invariant.before (grind (arith, w.if-byte-eq32.true))
    ]

pub returns-clause-number : goal.returns-clause-number
returns-clause-number c =
    let rest = c.args.rest.now in
    let n = position_or_len is_space rest in
    let whole = returns-clause-length c in
    let value = all_read c.args.most c.loop-byte.value n (take n rest) (rw whole at c.loop-byte.invariant.read) in
    elim c.if-length-gt1.branch [
      | then-length-gt1 w ↦ grind (arith, nat_tests, whole, value, length-take-le n rest, prefix_len-le-length, get_or-take)
      | else-length-gt1 w ↦ grind (arith, nat_tests, whole, value, length-take-le n rest, prefix_len-le-length)
    ]
