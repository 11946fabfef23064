use Rattle.world_lock.proofs.run.run_all.Given as goal

abbrev pub ghosts-run_in : goal.ghosts-run_in
ghosts-run_in g a = record { input = a.state.input }
