use Rattle.sched_null.proofs.null.NullPolicy.part.Goals as goal

pub part-requires : goal.part-requires
part-requires c = let r = rw (← c.self.view_is, c.in-Some.is) at c.requires in r.idle.waiting
