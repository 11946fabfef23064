use Rattle.world_lock.proofs.tests.stepped.Given as goal

abbrev pub ghosts-stepped_in : goal.ghosts-stepped_in
ghosts-stepped_in g a = record { input = a.state.input }
