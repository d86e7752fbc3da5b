use Rattle.std.proofs.Common.{◌≡◌, List, Bool, false, sym, subst, rules, replicate}
use Rattle.sched_model.specs.declared.config.Config.{Config}
use Rattle.sched_model.specs.declared.event.Entry.{Entry}
use Rattle.sched_times.specs.declared.tally.ResourceTally.{ResourceTally}
use Rattle.sched_times.specs.declared.tally.UserTally.{UserTally}
use Rattle.sched_times.specs.Tallies.{IsTally, unused, awake}
use Rattle.sched_times.proofs.Grows.{tally-new}
use Rattle.sched_times.proofs.Times.room.Goals as goal

pub invariant_of-result : goal.invariant_of-result
invariant_of-result c =
    let config : Config = c.args.config.now in
    let cores : c.in_ok-vec.field-0.items ≡ replicate {A = ResourceTally} 256 unused = search rules in
    let units : c.in_ok-vec-2.field-0.items ≡ replicate {A = UserTally} 2048 awake = search rules in
    let processors : c.in_ok-vec-3.field-0.items ≡ replicate {A = ResourceTally} 256 unused = search rules in
    let vcpus : c.in_ok-vec-4.field-0.items ≡ replicate {A = UserTally} 2048 awake = search rules in
    let idle : c.in_ok-vec-5.field-0.items ≡ replicate {A = Bool} 256 false = search rules in
    subst (λ (z : Config × (List Entry × (List ResourceTally × (List UserTally × (List ResourceTally × (List UserTally × List Bool)))))). IsTally z.0 c.args.range z.1.0 config.granularity config.horizon.0 0 z.1.1.0 z.1.1.1.0 z.1.1.1.1.0 z.1.1.1.1.1.0 z.1.1.1.1.1.1)
    (λ i. (sym c.of.ensures i, (sym c.nothing.ensures i, (sym cores i, (sym units i, (sym processors i, (sym vcpus i, sym idle i)))))))
    (tally-new config c.args.range c.requires)
