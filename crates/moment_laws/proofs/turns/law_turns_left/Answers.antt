use Rattle.moment_laws.proofs.StretchFalls.{entry_falls}
use Rattle.moment_laws.proofs.TurnsBound.{turns_left_most, most_turns_fit}
use Rattle.moment_laws.proofs.turns.law_turns_left.Goals as goal

pub returns-clause-falls : goal.returns-clause-falls
returns-clause-falls c m checked well before entry run goes_on = entry_falls m checked well before entry run goes_on

pub returns-clause-most : goal.returns-clause-most
returns-clause-most c m s bounded = turns_left_most m s bounded

pub returns-clause-bound : goal.returns-clause-bound
returns-clause-bound c m = most_turns_fit m
