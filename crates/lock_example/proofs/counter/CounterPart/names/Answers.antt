use Rattle.std.proofs.Common.{sym, subst}
use Rattle.lock_moves.specs.declared.names.Names.{Names}
use Rattle.lock_moves.specs.NameSets.{AreNamesOf}
use Rattle.lock_example.specs.Example.{part_after}
use Rattle.lock_example.proofs.Checks.{names-part}
use Rattle.lock_example.proofs.counter.CounterPart.names.Goals as goal

pub returns : goal.returns
returns c = let counter = c.args.self.now in
    subst (λ (names : Names). AreNamesOf (part_after counter.lock counter.count) names) (sym c.names_of.ensures) (names-part counter.lock counter.count counter.number counter.entries)
