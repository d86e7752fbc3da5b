use Rattle.std.proofs.Common.{◌≡◌, ◌∙◌, sym, subst}
use Rattle.plain_pool.specs.Looks.{IsOwnAllowed}
use Rattle.plain_pool.proofs.Looking.{for_best, not_for_best, without_best}
use Rattle.plain_pool.proofs.look.better_waits.Goals as goal
use Rattle.plain_pool.proofs.look.better_waits.Goals.{in_default-via-in-Some+else-not-is_allowed, in_default-via-in_default}

pub returns-else-hangs_on_core : goal.returns-else-hangs_on_core
returns-else-hangs_on_core c =
    let same : c.in_default.cur ≡ c.args.cur = elim c.in_default.branch [ in_default-via-in-Some+else-not-is_allowed w ↦ w.cur-is ∙ sym w.in-Some.is | in_default-via-in_default w ↦ w.cur-is ] in
    let own : IsOwnAllowed c.args.scheduler.now c.args.home.0 c.args.core.0 c.args.cur =
    elim c.in_default.branch [
      | in_default-via-in-Some+else-not-is_allowed w ↦ subst (IsOwnAllowed c.args.scheduler.now c.args.home.0 c.args.core.0) (sym w.in-Some.is) (sym (rw w.as_slice.ensures at w.if-not-is_allowed.ensures))
      | in_default-via-in_default w ↦ subst (IsOwnAllowed c.args.scheduler.now c.args.home.0 c.args.core.0) (sym w.in_default.is) tt
    ] in
    c.if-hangs_on_core.false
    ∙ sym (without_best c.args.scheduler.now c.args.since.0 c.args.t.0 c.args.core.0 c.args.home.0 c.args.cur own (sym c.requires.look.best ∙ c.in-None.is) (sym (rw same at c.if-hangs_on_core.ensures)))

pub returns-then-is_allowed : goal.returns-then-is_allowed
returns-then-is_allowed c =
    let same : c.in_default.cur ≡ c.args.cur = elim c.in_default.branch [ in_default-via-in-Some+else-not-is_allowed w ↦ w.cur-is ∙ sym w.in-Some.is | in_default-via-in_default w ↦ w.cur-is ] in
    c.if-is_allowed.true
    ∙ sym (for_best c.args.scheduler.now c.args.since.0 c.args.t.0 c.args.core.0 c.args.home.0 c.args.cur c.in-Some-best.best (sym c.requires.look.best ∙ c.in-Some-best.is) (sym (rw same at c.if-is_best_better.ensures)) (sym (rw c.as_slice-then-is_best_better.ensures at c.if-is_allowed.ensures)))

pub returns-else-is_best_better : goal.returns-else-is_best_better
returns-else-is_best_better c =
    let same : c.in_default.cur ≡ c.args.cur = elim c.in_default.branch [ in_default-via-in-Some+else-not-is_allowed w ↦ w.cur-is ∙ sym w.in-Some.is | in_default-via-in_default w ↦ w.cur-is ] in
    let own : IsOwnAllowed c.args.scheduler.now c.args.home.0 c.args.core.0 c.args.cur =
    elim c.in_default.branch [
      | in_default-via-in-Some+else-not-is_allowed w ↦ subst (IsOwnAllowed c.args.scheduler.now c.args.home.0 c.args.core.0) (sym w.in-Some.is) (sym (rw w.as_slice.ensures at w.if-not-is_allowed.ensures))
      | in_default-via-in_default w ↦ subst (IsOwnAllowed c.args.scheduler.now c.args.home.0 c.args.core.0) (sym w.in_default.is) tt
    ] in
    c.if-is_best_better.false
    ∙ sym (not_for_best c.args.scheduler.now c.args.since.0 c.args.t.0 c.args.core.0 c.args.home.0 c.args.cur c.in-Some-best.best own (sym c.requires.look.best ∙ c.in-Some-best.is) (sym (rw same at c.if-is_best_better.ensures)))
