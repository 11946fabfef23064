use Rattle.std.proofs.Common.{◌≡◌, ◌<◌, ◌≤◌, ◌+◌, ◌*◌, ap, sym, ◌∙◌, arith}
use Rattle.std.specs.List.{slice_get}
use Rattle.std.proofs.lemmas.Grind.{div_ceil_times}
use Rattle.std.proofs.lemmas.Option.{slice_get_cases}
use Rattle.tc_units.specs.Classes.{class_of}
use Rattle.size_classes.proofs.ClassFacts.{same_class, is_within, is_enough, is_least, is_none}
use Rattle.size_classes.proofs.table.ClassTable.class_of.Goals as goal

looked : (c : goal.After-copied) → c.copied.result ≡ slice_get c.self.inside.classes.items c.div_ceil.result
looked c = grind (arith, slice_get_cases)

next : (c : goal.After-copied) → (c.args.size ≤ 8 * c.div_ceil.result) × (8 * c.div_ceil.result < c.args.size + 8)
next c = grind (arith, div_ceil_times)

is : (c : goal.After-copied) → c.copied.result ≡ class_of c.self.inside.rows.items c.args.size
is c = same_class c.self.inside.rows.items c.self.invariant.0.rows_rise c.args.size c.div_ceil.result (next c).0 (next c).1 c.copied.result (sym (looked c ∙ c.self.invariant.1 c.div_ceil.result))

pub returns-clause-value : goal.returns-clause-value
returns-clause-value c = is c ∙ ap (λ rows. class_of rows c.args.size) c.self.view_is

pub returns-clause-in_range : goal.returns-clause-in_range
returns-clause-in_range c = rw (← c.self.view_is) (is_within c.self.inside.rows.items c.self.invariant.0.rows_rise c.args.size c.copied.result (is c))

pub returns-clause-holds : goal.returns-clause-holds
returns-clause-holds c = rw (← c.self.view_is) (is_enough c.self.inside.rows.items c.self.invariant.0.rows_rise c.args.size c.copied.result (is c))

pub returns-clause-least : goal.returns-clause-least
returns-clause-least c = rw (← c.self.view_is) (is_least c.self.inside.rows.items c.self.invariant.0.rows_rise c.args.size c.copied.result (is c))

pub returns-clause-none : goal.returns-clause-none
returns-clause-none c = rw (← c.self.view_is) (is_none c.self.inside.rows.items c.self.invariant.0.rows_rise c.args.size c.self.invariant.0.some c.copied.result (is c))
