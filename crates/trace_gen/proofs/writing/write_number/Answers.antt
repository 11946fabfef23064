use Rattle.std.proofs.Common.{arith, ℕ, ◌-◌}
use Rattle.std.proofs.lemmas.List.{drop-set}
use Rattle.trace_gen.proofs.Digits.{twenty_digits}
use Rattle.trace_gen.proofs.writing.write_number.Goals as goal

pub returns-clause-written : goal.returns-clause-written
returns-clause-written c =
    let line = c.write_digits-digits.new.buf in
    let space : ℕ = c.write_digits-digits.result - 1 in
    grind (arith, drop-set line space 32, twenty_digits c.args.n)
