use Rattle.std.proofs.Common.{◌≤◌, ℕ, sym, subst, ◌∙◌}
use Rattle.pool_core.proofs.Telling.{all_members, few_units}
use Rattle.pool_core.proofs.params.stored_values.Goals as goal

pub stored_below-requires-clause-few : goal.stored_below-requires-clause-few
stored_below-requires-clause-few g c = subst (λ (k : ℕ). k ≤ 32) (sym c.unit_count.ensures) (few_units c.args.guests.now c.in-Some.d.0 c.keeps.ensures)

pub stored_below-requires-clause-members : goal.stored_below-requires-clause-members
stored_below-requires-clause-members g c =
    all_members (g.P.Policy.seen c.args.policy.now).scheduler c.in-Some.d.0 c.unit_count.result (c.unit_count.ensures ∙ sym (c.requires.known c.in-Some.d c.in-Some.is))
