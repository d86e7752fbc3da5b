use Rattle.leaf_trials.proofs.rings.two_lists_of_four_nodes.Given as goal

abbrev pub ghosts-counted : goal.ghosts-counted
ghosts-counted g a = record { name = a.blank.name; parts = a.blank.parts }
