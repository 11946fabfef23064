use Rattle.std.proofs.Common.{rules, ◌/◌, length, sym, subst, arith}
use Rattle.tc_model.specs.Rises.{AreApart}
use Rattle.merge_journal.proofs.Whole.{apart_front, apart_back, halves, halves_apart, halves_of}
use Rattle.merge_journal.proofs.halves.+merge.Goals as goal

pub merge-requires : goal.merge-requires
merge-requires t c =
    let split = c.split_at.ensures in (
      search rules,
      rw split.front (apart_front _ _ (subst AreApart (sym (halves_of (λ v. v.items) (length c.args.entries.now / 2) c.args.entries.now)) c.requires.apart)),
    )

pub merge-requires-2 : goal.merge-requires-2
merge-requires-2 t c =
    let split = c.split_at.ensures in (
      search rules,
      rw split.back (apart_back _ _ (subst AreApart (sym (halves_of (λ v. v.items) (length c.args.entries.now / 2) c.args.entries.now)) c.requires.apart)),
    )

pub merge_two-requires-clause-apart : goal.merge_two-requires-clause-apart
merge_two-requires-clause-apart t c =
    let split = c.split_at.ensures in
    let apart = subst AreApart (sym (halves_of (λ v. v.items) (length c.args.entries.now / 2) c.args.entries.now)) c.requires.apart in
    let front = rw split.front at c.in_ok-front.ensures in
    let back = rw split.back at c.in_ok-back.ensures in
    rw (c.as_slice.ensures.value, c.as_slice-2.ensures.value) (halves_apart _ _ _ _ apart front back)

pub returns : goal.returns
returns t c =
    let split = c.split_at.ensures in
    let apart = subst AreApart (sym (halves_of (λ v. v.items) (length c.args.entries.now / 2) c.args.entries.now)) c.requires.apart in
    grind (arith, halves_of (λ v. v.items) (length c.args.entries.now / 2) c.args.entries.now, halves)
