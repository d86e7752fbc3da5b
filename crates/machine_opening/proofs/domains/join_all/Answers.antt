use Rattle.std.proofs.Common.{◌≡◌, ◌∙◌, List, ap, sym, arith, length}
use Rattle.std.specs.Prelude.{Some, slice_get}
use Rattle.std.proofs.lemmas.Option.{slice_get-get_or}
use Rattle.sched_model.specs.declared.config.DomConfig.{DomConfig}
use Rattle.machine_opening.proofs.Joining.{between_next, next_fits}
use Rattle.machine_opening.proofs.domains.join_all.Goals as goal

pub join_at_home-requires-clause-room : goal.join_at_home-requires-clause-room
join_at_home-requires-clause-room g c =
    let at : slice_get c.args.config.now.domains c.loop-d.d ≡ Some c.index-domains-d.result = ap (λ (list : List DomConfig). slice_get list c.loop-d.d) (sym c.as_slice-domains.ensures) ∙ slice_get-get_or c.as_slice-domains.result.now c.loop-d.d c.index-domains-d.result c.loop-d-test.true ∙ ap Some (sym c.index-domains-d.is) in
    next_fits c.args.config.now c.args.place c.args.home.now c.args.pool.now c.loop-d.d c.loop-d.pool c.loop-d.invariant c.index-domains-d.result at

pub loop-d-preserved : goal.loop-d-preserved
loop-d-preserved g c =
    let at : slice_get c.args.config.now.domains c.loop-d.d ≡ Some c.index-domains-d.result = ap (λ (list : List DomConfig). slice_get list c.loop-d.d) (sym c.as_slice-domains.ensures) ∙ slice_get-get_or c.as_slice-domains.result.now c.loop-d.d c.index-domains-d.result c.loop-d-test.true ∙ ap Some (sym c.index-domains-d.is) in
    let few = c.loop-d-test.true in
    let count = ap (λ (list : List DomConfig). length list) c.as_slice-domains.ensures in
    between_next c.args.config.now c.args.place c.args.home.now c.args.pool.now c.loop-d.d c.loop-d.pool c.loop-d.invariant c.index-domains-d.result c.join_at_home.new.pool at (omega (arith, few, count)) c.in_ok-join_at_home.ensures.after c.in_ok-join_at_home.ensures.opening
