use Rattle.std.proofs.Common.{◌≡◌, ◌∙◌, ◌∷◌, ◌+◌, Bool, List, drop, get_or, sym, ap, subst, rules, w64, FitsSigned, to_z, of_z}
use Rattle.std.specs.Prelude.{Option, ℤ}
use Rattle.std.proofs.lemmas.Int.{to_z-of_z}
use Rattle.std.proofs.lemmas.List.{drop_more}
use Rattle.sched_base.specs.declared.UnitId.{UnitId}
use Rattle.sched_model.specs.declared.state.Credit2Records.{Credit2Records}
use Rattle.sched_model.specs.Credit2.{has_domain_budget, unit_credit}
use Rattle.plain_schedulers.specs.WaitingUnits.{HasCredit, is_more_than}
use Rattle.plain_pool.specs.Looks.{best_from, is_richer}
use Rattle.plain_pool.proofs.Richer.{richer-barred, richer-less, richer-more}
use Rattle.plain_pool.proofs.look.richest.Goals as goal
use Rattle.plain_pool.proofs.look.richest.Goals.{then-is_more+then-domain_has_budget, else-is_more, else-is_more-via-then-is_more+else-domain_has_budget, else-is_more-via-else-is_more}

pub loop-u-preserved : goal.loop-u-preserved
loop-u-preserved c =
    let records : Credit2Records = c.args.records.now in
    let f : UnitId → Bool = has_domain_budget records in
    let found : Option UnitId = c.loop-u.found in
    let i = c.loop-u.u-index in
    let u : UnitId = get_or c.args.units.now i _ in
    let rest : List UnitId = drop (i + 1) c.args.units.now in
    let most : ℤ = to_z w64 c.loop-u.credit-bits in
    let inv = c.loop-u.invariant in
    let all : drop i c.args.units.now ≡ u ∷ rest = drop_more c.args.units.now i _ c.loop-u-test.true in
    let so_far = sym (ap (λ (xs : List UnitId). best_from f (is_richer records) found xs) all) ∙ inv.same in
    let fits : FitsSigned w64 c.credit_of-next.result = search rules in
    let credit : to_z w64 (of_z w64 c.credit_of-next.result) ≡ unit_credit records u = to_z-of_z w64 c.credit_of-next.result fits ∙ c.credit_of-next.ensures in
    let asked : c.is_more.result ≡ is_more_than found most (unit_credit records u) = c.is_more.ensures ∙ ap (is_more_than found most) credit in
    let same : (o : Option UnitId) → c.if-is_more.found ≡ o → best_from f (is_richer records) c.if-is_more.found rest ≡ best_from f (is_richer records) o rest = λ o is. ap (λ (b : Option UnitId). best_from f (is_richer records) b rest) is in
    elim c.if-is_more.branch [
      | then-is_more+then-domain_has_budget w ↦
          record {
            same = same _ w.found-is ∙ sym (richer-more records f u rest found most inv.credit (sym asked ∙ w.if-is_more.true) (sym w.domain_has_budget.ensures ∙ w.if-domain_has_budget.true)) ∙ so_far;
            credit = subst (λ (o : Option UnitId). HasCredit records o (to_z w64 c.if-is_more.credit-bits)) (sym w.found-is) (w.credit-is ∙ credit);
          }
      | else-is_more w ↦
          let kept : HasCredit records c.if-is_more.found (to_z w64 c.if-is_more.credit-bits) =
          subst (λ (o : Option UnitId). HasCredit records o (to_z w64 c.if-is_more.credit-bits)) (sym w.found-is) (subst (HasCredit records found) (sym w.credit-is) inv.credit) in
          elim w.else-is_more.branch [
            | else-is_more-via-then-is_more+else-domain_has_budget v ↦ record { same = same _ w.found-is ∙ sym (richer-barred records f u rest found (sym v.domain_has_budget.ensures ∙ v.if-domain_has_budget.false)) ∙ so_far; credit = kept }
            | else-is_more-via-else-is_more v ↦ record { same = same _ w.found-is ∙ sym (richer-less records f u rest found most inv.credit (sym asked ∙ v.if-is_more.false)) ∙ so_far; credit = kept }
          ]
    ]
