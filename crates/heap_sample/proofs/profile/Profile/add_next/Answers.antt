use Rattle.std.proofs.Common.{length, ap, ◌∙◌, arith}
use Rattle.std.proofs.lemmas.List.{length-set}
use Rattle.std.proofs.lemmas.Result.{on_ok_weaker}
use Rattle.heap_sample.specs.Profiles.{Follows}
use Rattle.heap_sample.proofs.Sampling.{fresh}
use Rattle.heap_sample.proofs.profile.Profile.add_next.Goals as goal

pub add-requires-clause-fresh : goal.add-requires-clause-fresh
add-requires-clause-fresh c = let b = c.requires.behind in fresh _ _ _ b.1 b.2

pub add-requires-clause-few : goal.add-requires-clause-few
add-requires-clause-few c = let b = c.requires.behind in omega (arith, b.1.count, b.3)

pub returns-clause-step : goal.returns-clause-step
returns-clause-step c = on_ok_weaker c.add.result (λ (f : Follows c.args.self.now c.args.line.now c.add.new.self). f.step) c.add.ensures.follows

pub returns-clause-threads : goal.returns-clause-threads
returns-clause-threads c =
    on_ok_weaker c.add.result (λ (f : Follows c.args.self.now c.args.line.now c.add.new.self). ap length f.asked ∙ length-set c.args.self.now.asked _ _) c.add.ensures.follows
