use Rattle.std.proofs.lemmas.Bool.Decides.{nat_tests}
use Rattle.place_set.specs.Places.{HasAny}
use Rattle.std.proofs.Common.{◌≡◌, ◌==◌, ◌/◌, cond, length, subst, arith, get_or, sym, ap, ◌∙◌, arith}
use Rattle.std.proofs.lemmas.List.{length-set}
use Rattle.range_bits.specs.Words.{is_marked}
use Rattle.place_set.specs.declared.level.Level.{Level}
use Rattle.place_set.proofs.Trees.{put_tree, put_low}
use Rattle.place_set.proofs.tree.+put_in.Goals as goal

pub returns-then-levels-gt1-clause-tree : goal.returns-then-levels-gt1-clause-tree
returns-then-levels-gt1-clause-tree t c =
    let levels = c.args.levels.now in
    let size = length-set levels 0 c.put-has_any.new.self in
    let own : get_or levels 0 c.index-levels-0-2.result ≡ c.index-levels-0-2.result = sym c.index-levels-0-2.is in
    put_tree levels c.put_in.new.levels c.args.place c.args.is_in c.put-has_any.result c.index-levels-0-2.result c.put-has_any.new.self c.requires.tree (omega (arith, size, c.if-levels-gt1.true)) c.index-levels-0-2.is (c.put-has_any.ensures.size ∙ ap (λ (level : Level). length level.words.items) own) (λ k. c.put-has_any.ensures.places k ∙ ap (λ (level : Level). cond (k == c.args.place) c.args.is_in (is_marked level.words.items k)) own) c.put-has_any.ensures.any c.requires.inside c.put_in.ensures.tree c.put_in.ensures.size c.put_in.ensures.places

pub returns-then-has_any-had_any-clause-tree : goal.returns-then-has_any-had_any-clause-tree
returns-then-has_any-had_any-clause-tree t c =
    let same : c.has_any-had_any.result ≡ c.put-has_any.result = grind (arith, nat_tests) in
    put_low c.args.levels.now c.args.place c.args.is_in c.put-has_any.result c.index-levels-0-2.result c.index-levels-0.result c.put-has_any.new.self c.requires.tree
    c.put-has_any.ensures.size c.put-has_any.ensures.places c.put-has_any.ensures.any (subst (HasAny _ (c.args.place / 64)) same c.has_any-had_any.ensures)
