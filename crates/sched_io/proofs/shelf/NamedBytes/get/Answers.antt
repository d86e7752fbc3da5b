use Rattle.std.proofs.Common.{ap}
use Rattle.std.specs.Option.{option_map}
use Rattle.sched_io.proofs.ShelfLemmas.{lookup_plain}
use Rattle.sched_io.proofs.shelf.NamedBytes.get.Goals as goal

pub returns-in-Some : goal.returns-in-Some
returns-in-Some c =
    rw (c.as_slice.ensures.value, ← c.self.view_is, lookup_plain)
    (ap (option_map (λ w. w.items)) c.in-Some.ensures.value)

pub returns-in-None : goal.returns-in-None
returns-in-None c =
    rw (← c.self.view_is, lookup_plain) (ap (option_map (λ w. w.items)) c.in-None.ensures.value)
