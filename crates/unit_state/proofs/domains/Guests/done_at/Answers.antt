use Rattle.std.proofs.Common.{sym, ap, ◌∙◌}
use Rattle.std.specs.Option.{option_copied}
use Rattle.sched_model.specs.Pool.{vcpu_among}
use Rattle.pool_records.proofs.FitsLemmas.{vcpu_among-fits}
use Rattle.unit_state.proofs.GuestLemmas.{all_fit}
use Rattle.unit_state.proofs.domains.Guests.done_at.Goals as goal

pub done_at-requires : goal.done_at-requires
done_at-requires c =
    let there = ap (λ domains. vcpu_among domains c.args.v) (sym c.as_slice.ensures) ∙ sym c.vcpu_of.ensures ∙ ap option_copied c.in-Some.is in
    vcpu_among-fits c.self.inside.domains c.args.v c.in-Some.x.now (all_fit _ c.self.invariant.0) there
