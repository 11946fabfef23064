use Rattle.merge_journal.proofs.threads.merge_threads.Given as goal

abbrev pub ghosts-merge_threads_on : goal.ghosts-merge_threads_on
ghosts-merge_threads_on a = record { name = a.blank.name; parts = a.blank.parts }
