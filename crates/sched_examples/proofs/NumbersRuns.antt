-- The formulas of Credit2 on numbers, computed.
use Rattle.std.proofs.Common.{refl}
use Rattle.std.specs.Prelude.{◌≡◌, pos, negsuc}
use Rattle.sched_base.specs.Credit2Numbers.{burned_credit, burned_residual, called_resets, raised_credit, budget_quota, cap_budget, budget_after_refill}

pub charges-first_credit : burned_credit (pos 10000000) 0 3 7 1000001 ≡ pos 7666665
charges-first_credit = refl

pub charges-first_rest : burned_residual 0 3 7 1000001 ≡ 2
charges-first_rest = refl

pub charges-second_credit : burned_credit (pos 7666665) 2 3 7 1000001 ≡ pos 5333329
charges-second_credit = refl

pub charges-second_rest : burned_residual 2 3 7 1000001 ≡ 1
charges-second_rest = refl

pub charges-third_credit : burned_credit (pos 5333329) 1 3 7 1 ≡ pos 5333327
charges-third_credit = refl

pub charges-third_rest : burned_residual 1 3 7 1 ≡ 2
charges-third_rest = refl

pub resets_at_once-at_zero : called_resets (pos 0) ≡ 1
resets_at_once-at_zero = refl

pub resets_at_once-short_of_two : called_resets (negsuc 9999998) ≡ 1
resets_at_once-short_of_two = refl

pub resets_at_once-two : called_resets (negsuc 9999999) ≡ 2
resets_at_once-two = refl

pub resets_at_once-three : called_resets (negsuc 24999999) ≡ 3
resets_at_once-three = refl

pub raises-below : raised_credit (negsuc 24999999) 3 ≡ pos 5000000
raises-below = refl

pub raises-most : raised_credit (pos 1000000) 3 ≡ pos 10500000
raises-most = refl

pub refilled_budgets-total_of : cap_budget 25 ≡ 2500000
refilled_budgets-total_of = refl

pub refilled_budgets-quota_of : budget_quota 2500000 2 ≡ 1250000
refilled_budgets-quota_of = refl

pub refilled_budgets-most : budget_after_refill (pos 300000) 200000 2500000 1 ≡ pos 2300000
refilled_budgets-most = refl

pub refilled_budgets-below : budget_after_refill (negsuc 5999999) 0 2500000 2 ≡ negsuc 999999
refilled_budgets-below = refl
