use Rattle.std.proofs.Common.{◌≡◌, sym, subst}
use Rattle.std.proofs.lemmas.Result.{IfOk-weaker}
use Rattle.machine_opening.specs.OpenedPool.{IsOpened}
use Rattle.machine_opening.proofs.slots.open_pool.Goals as goal

pub returns : goal.returns
returns c =
    let opened = c.in_ok-pool.ensures in
    let is : IsOpened c.args.config.now c.args.place c.in_ok-pool.pool = record { pool = opened.pool; granularity = opened.granularity; latest = opened.latest; placed = record { used = opened.used; roomy = record { room = opened.spare } } } in
    IfOk-weaker c.boxed.result (λ pool. pool.value ≡ c.in_ok-pool.pool) (λ pool. IsOpened c.args.config.now c.args.place pool.value) (λ pool same. subst (IsOpened c.args.config.now c.args.place) (sym same) is) c.boxed.ensures
