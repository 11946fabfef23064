use Rattle.std.proofs.Common.{refl, ◌∙◌}
use Rattle.tcreplay.proofs.SampleFacts.{may_sample}
use Rattle.tcreplay.proofs.run.push_sampled.Goals as goal

pub tell-requires-clause-first : goal.tell-requires-clause-first
tell-requires-clause-first g c = record { step = refl; threads = refl; profile = c.in_ok-profile.ensures.of_none }

pub tell-requires-clause-may : goal.tell-requires-clause-may
tell-requires-clause-may g c =
    let valid = c.requires.valid in
    may_sample valid.0 c.args.state.now.input.asked valid.1 _ c.requires.scripts _ _ c.requires.blocks c.in_ok-profile.profile (c.in_ok-profile.ensures.threads ∙ c.threads.ensures)
