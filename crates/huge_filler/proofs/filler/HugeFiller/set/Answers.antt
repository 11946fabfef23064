use Rattle.std.proofs.Common.{◌+◌, ◌-◌, List, Option, length, sym, ap, subst, arith}
use Rattle.huge_index.specs.Order as preference
use Rattle.huge_index.specs.Total as preference_is
use Rattle.huge_filler.proofs.Common.{Measures, IsKept, key_of}
use Rattle.huge_filler.proofs.Kept.{is_held, kept_set, free_bound}
use Rattle.huge_filler.proofs.filler.HugeFiller.set.Goals as goal

pub rekey-requires : goal.rekey-requires
rekey-requires c =
    is_held c.self.inside.giving.rows c.args.huge.0 c.at-before.result c.requires.low (omega (arith, c.requires.high, ap (λ (rows : List (Option Measures)). length rows) c.self.view_is)) c.at-before.ensures
    key_of preference.comes_before preference_is.total c.self.inside.index.keys c.key_of.result c.self.invariant.keys c.key_of.ensures

pub overflow_add-self : goal.overflow_add-self
overflow_add-self c = omega (arith, c.self.invariant.counted, c.free_of_donated-2.ensures, free_bound c.self.inside.giving.rows c.args.measures c.self.invariant.arena)

pub invariant_of-self : goal.invariant_of-self
invariant_of-self c =
    let donated = c.self.inside.donated_free - c.free_of_donated.result + c.free_of_donated-2.result in
    subst (λ (rows : List (Option Measures)). IsKept rows c.rekey.new.self.keys donated) (sym c.set.ensures)
    (kept_set c.self.inside.giving.rows c.args.huge.0 c.at-before.result c.requires.low (omega (arith, c.requires.high, ap (λ (rows : List (Option Measures)). length rows) c.self.view_is)) c.at-before.ensures
    c.self.inside.index.keys c.rekey.new.self.keys c.self.inside.donated_free c.free_of_donated.result c.free_of_donated-2.result c.args.measures c.key_of.result c.key_of-2.result
    c.self.invariant c.requires.tier c.key_of.ensures c.key_of-2.ensures c.rekey.ensures.keys c.free_of_donated.ensures c.free_of_donated-2.ensures)
