use Rattle.huge_index.proofs.tests.more_runs_come_first_among_equal_ranges.Given as goal

abbrev pub ghosts-first : goal.ghosts-first
ghosts-first g a = record { name = a.blank.name; parts = a.blank.parts }
