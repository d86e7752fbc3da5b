use Rattle.std.proofs.Common.{◌≡◌, ◌∙◌, ap, sym, subst, Bool}
use Rattle.std.specs.Prelude.{List, Option}
use Rattle.sched_model.specs.declared.state.Credit2Domain.{Credit2Domain}
use Rattle.sched_model.specs.Places.{at_place}
use Rattle.credit2_core.specs.Domains.{may_run_at}
use Rattle.credit2_core.specs.Whole.{IsReadyBut}
use Rattle.credit2_core.proofs.Kept.{runnable_again, stays}
use Rattle.credit2_core.proofs.run_queue.follow.Goals as goal

pub returns-then-keeps_first : goal.returns-then-keeps_first
returns-then-keeps_first c =
    let state = c.args.state.now in
    let domains : List (Option Credit2Domain) = state.records.domains in
    let may : c.may_run-may.result ≡ may_run_at (at_place domains c.args.d.0) = c.may_run-may.ensures ∙ ap (λ (ds : List (Option Credit2Domain)). may_run_at (at_place ds c.args.d.0)) c.as_slice.ensures in
    record {
      domains = runnable_again c.args.d.0 c.args.ready.domains.0 c.with_domain.result c.may_run-may.result domains c.requires.few c.requires.but.domains may c.with_domain.ensures.others c.with_domain.ensures.there;
      first = stays c.args.d.0 c.may_run-may.result state.records state.queue.units c.args.ready
          (subst (λ (b : Bool). IsReadyBut c.args.d.0 b state.records state.queue.units c.args.ready) c.if-stands.true c.requires.but) may (sym c.keeps_first.ensures ∙ c.if-keeps_first.true);
      most = c.requires.but.most;
    }

pub first_ready-requires : goal.first_ready-requires
first_ready-requires c =
    let domains : List (Option Credit2Domain) = c.args.state.now.records.domains in
    let may : c.may_run-may.result ≡ may_run_at (at_place domains c.args.d.0) = c.may_run-may.ensures ∙ ap (λ (ds : List (Option Credit2Domain)). may_run_at (at_place ds c.args.d.0)) c.as_slice.ensures in
    runnable_again c.args.d.0 c.args.ready.domains.0 c.with_domain.result c.may_run-may.result domains c.requires.few c.requires.but.domains may c.with_domain.ensures.others c.with_domain.ensures.there

pub returns : goal.returns
returns c =
    let domains : List (Option Credit2Domain) = c.args.state.now.records.domains in
    let may : c.may_run-may.result ≡ may_run_at (at_place domains c.args.d.0) = c.may_run-may.ensures ∙ ap (λ (ds : List (Option Credit2Domain)). may_run_at (at_place ds c.args.d.0)) c.as_slice.ensures in
    record {
      domains = runnable_again c.args.d.0 c.args.ready.domains.0 c.with_domain.result c.may_run-may.result domains c.requires.few c.requires.but.domains may c.with_domain.ensures.others c.with_domain.ensures.there;
      first = c.first_ready.ensures;
      most = c.requires.but.most;
    }
