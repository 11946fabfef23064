use Rattle.huge_index.proofs.tests.the_first_of_a_tier.Given as goal

abbrev pub ghosts-first : goal.ghosts-first
ghosts-first g a = record { name = a.blank.name; parts = a.blank.parts }
