use Rattle.hall.proofs.whole.hand_over.Goals as goal

pub rename-requires-clause-from : goal.rename-requires-clause-from
rename-requires-clause-from c = (c.requires.may c.in-Some.it c.in-Some.is).from

pub rename-requires-clause-number : goal.rename-requires-clause-number
rename-requires-clause-number c = (c.requires.may c.in-Some.it c.in-Some.is).number

pub rename-requires-clause-to : goal.rename-requires-clause-to
rename-requires-clause-to c = (c.requires.may c.in-Some.it c.in-Some.is).to
