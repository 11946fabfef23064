-- How many digits a number has.
use Rattle.std.proofs.Common.{rules, ℕ, ◌<◌, ◌≤◌, ◌^◌, length}
use Rattle.std.specs.Prelude.{decimal}
use Rattle.std.proofs.lemmas.Fmt.{length-decimal-le}

pub twenty_digits : (n : ℕ) → n < 2 ^ 64 → length (decimal n) ≤ 20
twenty_digits n small = search (rules, length-decimal-le 20)
