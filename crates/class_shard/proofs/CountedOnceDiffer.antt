-- A list in which each address stands at most once has different objects.
use Rattle.std.proofs.Common.{◌≡◌, ℕ, ◌≤◌, ◌==◌, List, length, get_or, take, cond, refl, sym, ◌∙◌, ap, arith}
use Rattle.std.proofs.lemmas.Bool.{cond-true, eq-eqb}
use Rattle.std.proofs.lemmas.List.{length-take-le, get_or-take}
use Rattle.std.proofs.lemmas.List.Sums.{sum_by_more_le, get_or-le-sum_by}
use Rattle.tc_units.specs.declared.units.Addr.{Addr}
use Rattle.central_free.specs.Central.{AreDifferent}
use Rattle.class_shard.specs.Laws.{found_at}

pub once_differ : (list : List Addr) → ((a : ℕ) → found_at a list ≤ 1) → AreDifferent list
once_differ list once i j d less within same =
    let a = (get_or list i d).0 in
    let f : Addr → ℕ = λ x. cond {A = ℕ} (x.0 == a) 1 0 in
    let front : length (take j list) ≡ j = length-take-le j list (omega arith) in
    let here : f (get_or list i d) ≡ 1 = cond-true (a == a) 1 0 (eq-eqb a a refl) in
    let first : f (get_or (take j list) i d) ≡ 1 = ap f (get_or-take j list i d less) ∙ here in
    let second : f (get_or list j d) ≡ 1 = ap f (sym same) ∙ here in
    omega (arith, get_or-le-sum_by f (take j list) i d (omega arith), sum_by_more_le f list j d within, first, second, once a)
