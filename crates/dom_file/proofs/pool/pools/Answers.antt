use Rattle.std.proofs.Common.{◌≡◌, ◌+◌, List, [], ◌∷◌, Ok, drop, length, length-append, map, refl, sym, ap, ◌∙◌, subst, arith}
use Rattle.toml.specs.View.{table_view}
use Rattle.dom_file.specs.declared.draft.PoolDraft.{PoolDraft}
use Rattle.dom_file.specs.Steps.{Fails}
use Rattle.dom_file.specs.Pools.{pool_in, pools_in}
use Rattle.dom_file.proofs.Growing.{at_element, fails_at, passes_on}
use Rattle.dom_file.proofs.pool.pools.Goals as goal

-- one pool more
pub loop-table-preserved : goal.loop-table-preserved
loop-table-preserved c =
    let head = c.args.head.now in
    let done = c.loop-table.pools.items in
    let p = c.in_ok-pool.pool in
    let i = c.loop-table.table-index in
    let items = c.in_ok-push.ensures.items in
    let so_far = c.loop-table.invariant in
    let given : pool_in head done (table_view c.table-item.result.now) ≡ Ok p = subst (λ ps. pool_in head ps (table_view c.table-item.result.now) ≡ Ok p) c.deref.ensures.value c.in_ok-pool.ensures in
    record {
      value = at_element (pool_in head) (pools_in head) (λ done b bs. refl) (λ t. table_view t.now) c.args.tables.now i c.table-item.result done _ (Ok p) so_far.value c.loop-table-test.true c.table-item.is given
          ∙ ap (λ ps. pools_in head ps (map (λ t. table_view t.now) (drop (i + 1) c.args.tables.now))) (sym items);
      count = subst (λ (ps : List PoolDraft). length ps ≡ i + 1) (sym items) (omega (arith, length-append done (p ∷ []), so_far.count));
    }

-- the fault of one table
pub returns-in_err-pool-clause-value : goal.returns-in_err-pool-clause-value
returns-in_err-pool-clause-value c =
    let head = c.args.head.now in
    let done = c.loop-table.pools.items in
    let fault = c.in_err-pool.field-0.0 in
    let fails : Fails fault (pool_in head done (table_view c.table-item.result.now)) = subst (λ ps. Fails fault (pool_in head ps (table_view c.table-item.result.now))) c.deref.ensures.value c.in_err-pool.ensures in
    passes_on (λ v. v.items) c.from_residual.result fault _ c.from_residual.ensures.0 c.from_residual.ensures.1
    (fails_at (pool_in head) (pools_in head) (λ done b bs. refl) (λ t. table_view t.now) c.args.tables.now c.loop-table.table-index c.table-item.result done _ fault c.loop-table.invariant.value c.loop-table-test.true c.table-item.is fails)
