use Rattle.place_set.proofs.tree.+open.Given as goal

abbrev pub decreases-open : goal.decreases-open
decreases-open l = l.words
