use Rattle.std.proofs.Common.{◌≡◌, ◌∙◌, ◌∷◌, ◌+◌, Bool, List, drop, get_or, sym, ap, subst, rules, w64, FitsSigned, to_z, of_z}
use Rattle.std.specs.Prelude.{Option, ℤ, filter}
use Rattle.std.proofs.lemmas.Int.{to_z-of_z}
use Rattle.std.proofs.lemmas.List.{drop_more}
use Rattle.sched_base.specs.declared.UnitId.{UnitId}
use Rattle.sched_model.specs.declared.state.Credit2Records.{Credit2Records}
use Rattle.sched_model.specs.Credit2.{richest_unit, unit_credit}
use Rattle.plain_schedulers.specs.WaitingUnits.{HasCredit, is_contender, is_more_than}
use Rattle.plain_schedulers.proofs.Richest.{richest-barred, richest-less, richest-more}
use Rattle.plain_schedulers.proofs.credit2_choice.greatest.Goals as goal
use Rattle.plain_schedulers.proofs.credit2_choice.greatest.Goals.{then-is_more+then-contends, else-is_more, else-is_more-via-then-is_more+else-contends, else-is_more-via-else-is_more}

pub loop-u-preserved : goal.loop-u-preserved
loop-u-preserved c =
    let records : Credit2Records = c.args.records.now in
    let f : UnitId → Bool = is_contender c.args.affinity.now c.args.ask.now records c.args.over in
    let found : Option UnitId = c.loop-u.found in
    let i = c.loop-u.u-index in
    let u : UnitId = get_or c.args.waiting.now i _ in
    let rest : List UnitId = drop (i + 1) c.args.waiting.now in
    let most : ℤ = to_z w64 c.loop-u.credit-bits in
    let inv = c.loop-u.invariant in
    let all : drop i c.args.waiting.now ≡ u ∷ rest = drop_more c.args.waiting.now i _ c.loop-u-test.true in
    let so_far = sym (ap (λ (xs : List UnitId). richest_unit records found (filter f xs)) all) ∙ inv.same in
    let fits : FitsSigned w64 c.credit_of-next.result = search rules in
    let credit : to_z w64 (of_z w64 c.credit_of-next.result) ≡ unit_credit records u = to_z-of_z w64 c.credit_of-next.result fits ∙ c.credit_of-next.ensures in
    let asked : c.is_more.result ≡ is_more_than found most (unit_credit records u) = c.is_more.ensures ∙ ap (is_more_than found most) credit in
    elim c.if-is_more.branch [
      | then-is_more+then-contends w ↦
          record {
            same = ap (λ (o : Option UnitId). richest_unit records o (filter f rest)) w.found-is ∙ sym (richest-more records f u rest found most inv.credit (sym asked ∙ w.if-is_more.true) (sym w.contends.ensures ∙ w.if-contends.true)) ∙ so_far;
            credit = subst (λ (o : Option UnitId). HasCredit records o (to_z w64 c.if-is_more.credit-bits)) (sym w.found-is) (w.credit-is ∙ credit);
          }
      | else-is_more w ↦
          let kept : HasCredit records c.if-is_more.found (to_z w64 c.if-is_more.credit-bits) =
          subst (λ (o : Option UnitId). HasCredit records o (to_z w64 c.if-is_more.credit-bits)) (sym w.found-is) (subst (HasCredit records found) (sym w.credit-is) inv.credit) in
          let same = ap (λ (o : Option UnitId). richest_unit records o (filter f rest)) w.found-is in
          elim w.else-is_more.branch [
            | else-is_more-via-then-is_more+else-contends v ↦ record { same = same ∙ sym (richest-barred records f u rest found (sym v.contends.ensures ∙ v.if-contends.false)) ∙ so_far; credit = kept }
            | else-is_more-via-else-is_more v ↦ record { same = same ∙ sym (richest-less records f u rest found most inv.credit (sym asked ∙ v.if-is_more.false)) ∙ so_far; credit = kept }
          ]
    ]
