use Rattle.arinc_frame.proofs.arinc.ArincPolicy.part.Goals as goal

pub part-requires : goal.part-requires
part-requires c = let r = rw (← c.self.view_is, c.in-Some.is) at c.requires in r.idle.waiting
