use Rattle.leaf_trials.proofs.dues.least_come.Goals as goal

pub first_due-requires : goal.first_due-requires
first_due-requires c = record { power = record { exponent = 2; is = c.requires } }
