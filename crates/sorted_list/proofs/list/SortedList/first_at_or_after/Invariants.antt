use Rattle.sorted_list.proofs.list.SortedList.first_at_or_after.Given as goal

abbrev pub ghosts-found_by : goal.ghosts-found_by
ghosts-found_by g a = record { name = a.blank.name; parts = a.blank.parts }
