use Rattle.tc_machine.proofs.StandingFacts.{may_stand}
use Rattle.tc_machine.proofs.telling.tell_all.Goals as goal

pub tell_calls-requires-clause-first : goal.tell_calls-requires-clause-first
tell_calls-requires-clause-first g c = (c.new.ensures, c.requires.first)

pub tell_calls-requires-clause-may : goal.tell_calls-requires-clause-may
tell_calls-requires-clause-may g c earlier line later is few =
    let run = c.requires.blocks in
    (may_stand run.0 run.1 _ run.2 run.3 earlier line later is few, c.requires.may earlier line later is few)
