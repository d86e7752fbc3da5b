use Rattle.std.proofs.Common.{◌≡◌, ◌+◌, ◌≤◌, List, [], ◌∷◌, Ok, drop, length, length-append, map, refl, sym, ap, ◌∙◌, subst, arith}
use Rattle.std.specs.List.{All}
use Rattle.std.proofs.lemmas.List.Elements.{All-push}
use Rattle.sched_model.specs.declared.config.DomConfig.{DomConfig}
use Rattle.toml.specs.View.{table_view}
use Rattle.dom_file.specs.Steps.{Fails}
use Rattle.dom_file.specs.Domains.{domain_in, domains_in}
use Rattle.dom_file.proofs.Growing.{at_element, fails_at, passes_on}
use Rattle.dom_file.proofs.domain.domains.Goals as goal

-- one domain more
pub loop-table-preserved : goal.loop-table-preserved
loop-table-preserved c =
    let head = c.args.head.now in
    let pools = c.args.pools.now in
    let done = c.loop-table.domains.items in
    let d = c.in_ok-domain.domain in
    let i = c.loop-table.table-index in
    let items = c.in_ok-push.ensures.items in
    let so_far = c.loop-table.invariant in
    let given : domain_in head pools done (table_view c.table-item.result.now) ≡ Ok d = subst (λ ds. domain_in head pools ds (table_view c.table-item.result.now) ≡ Ok d) c.deref.ensures.value c.in_ok-domain.ensures.value in
    record {
      value = at_element (domain_in head pools) (domains_in head pools) (λ done b bs. refl) (λ t. table_view t.now) c.args.tables.now i c.table-item.result done _ (Ok d) so_far.value c.loop-table-test.true c.table-item.is given
          ∙ ap (λ ds. domains_in head pools ds (map (λ t. table_view t.now) (drop (i + 1) c.args.tables.now))) (sym items);
      count = subst (λ (ds : List DomConfig). length ds ≡ i + 1) (sym items) (omega (arith, length-append done (d ∷ []), so_far.count));
      guests = subst (All (λ (d : DomConfig). length d.guests ≤ 32)) (sym items) (All-push (λ (d : DomConfig). length d.guests ≤ 32) done d so_far.guests c.in_ok-domain.ensures.guests);
    }

-- the fault of one table
pub returns-in_err-domain-clause-value : goal.returns-in_err-domain-clause-value
returns-in_err-domain-clause-value c =
    let head = c.args.head.now in
    let pools = c.args.pools.now in
    let done = c.loop-table.domains.items in
    let fault = c.in_err-domain.field-0.0 in
    let fails : Fails fault (domain_in head pools done (table_view c.table-item.result.now)) = subst (λ ds. Fails fault (domain_in head pools ds (table_view c.table-item.result.now))) c.deref.ensures.value c.in_err-domain.ensures.value in
    passes_on (λ v. v.items) c.from_residual.result fault _ c.from_residual.ensures.0 c.from_residual.ensures.1
    (fails_at (domain_in head pools) (domains_in head pools) (λ done b bs. refl) (λ t. table_view t.now) c.args.tables.now c.loop-table.table-index c.table-item.result done _ fault c.loop-table.invariant.value c.loop-table-test.true c.table-item.is fails)
