use Rattle.huge_index.proofs.tests.new_measures_move_a_hugepage.Given as goal

abbrev pub ghosts-first : goal.ghosts-first
ghosts-first g a = record { name = a.blank.name; parts = a.blank.parts }
