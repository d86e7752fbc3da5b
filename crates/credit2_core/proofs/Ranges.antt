-- The numbers of the records stay in range.
use Rattle.std.proofs.Common.{◌≡◌, ◌<◌, ◌≤◌, ℕ, true, length, refl, subst, sym, arith, ◌⊎◌}
use Rattle.std.specs.Prelude.{Option, Some, None}
use Rattle.std.specs.Option.{IfSome}
use Rattle.sched_base.specs.declared.UnitId.{UnitId}
use Rattle.sched_model.specs.declared.ask.Ask.{Ask}
use Rattle.sched_model.specs.declared.state.Credit2Unit.{Credit2Unit}
use Rattle.sched_model.specs.declared.state.Credit2Domain.{Credit2Domain}
use Rattle.sched_model.specs.declared.state.Credit2Records.{Credit2Records}
use Rattle.sched_model.specs.declared.state.Scheduler.{Scheduler}
use Rattle.sched_model.specs.Places.{at_place, put_at, clear_at}
use Rattle.sched_model.specs.CheckedMachine.{IsWithin}
use Rattle.sched_model.specs.Credit2.{own_burned_records, off_records, records_with_terms, refilled_pool, fresh_credit2_domain, has_domain_budget}
use Rattle.sched_laws.proofs.EachPlace.{EachPlace-put_at, EachPlace-clear_at, EachAt-put_at, EachAt-clear_at, length_set}
use Rattle.state_ranges.proofs.Credit2.{c_idle, c_ran, c_fresh, c_set_domain, c_later}
use Rattle.state_ranges.specs.Fits.{Credit2DomainFits, Credit2Fits}
use Rattle.state_ranges.specs.Budgets.{BudgetFits, Nobody}
use Rattle.state_ranges.proofs.Budgets.{b_later, b_fresh}
use Rattle.state_ranges.proofs.Decided.{s_refilled, s_set_domain, decides_unit, decides_idle, unit_rec}
use Rattle.state_ranges.specs.Budgets.{Budgets, None2}
use Rattle.state_ranges.proofs.RecordRanges.{refill_fits}
use Rattle.state_ranges.proofs.Done.{credit2_in_range}
use Rattle.sched_base.specs.Numbers.{has_moment_come}
use Rattle.sched_model.specs.Policy.{next_refill_moment}
use Rattle.sched_model.specs.declared.state.Records.TheVariants.{Credit2Pool}
use Rattle.scheduler_records.specs.Fits as shared
use Rattle.credit2_core.specs.Choice.{records_after_run}
use Rattle.credit2_core.specs.Credit2State.{InRange}

-- a domain has 32 units at most
abbrev pub Few : ℕ → ℕ → Type 0
Few d k = k ≤ 32

-- the ranges that the changes of records ask for
pub shared_fits : (t : ℕ) (records : Credit2Records) → InRange t records → shared.Credit2Fits t records
shared_fits t records range = record {
  few_domains = range.few;
  limit = range.credits.limit;
  domains = λ d x at. (let budget = range.budgets d x at in credit2_in_range t (Few d) x budget.count (range.credits.domains d x at) budget);
}

pub range_later : (t next : ℕ) (records : Credit2Records) → t ≤ next → InRange t records → InRange next records
range_later t next records past range = record {
  few = range.few;
  credits = c_later (length records.domains) t next records past range.credits;
  budgets = λ d x at. b_later t next (Few d) x past (range.budgets d x at);
}

-- records with as many places
ranged : (t n : ℕ) (records : Credit2Records) → n ≤ 64 → Credit2Fits n t records → Budgets t Few None2 None2 records → InRange t records
ranged t n records few credits budgets = record {
  few = (let e = credits.places in omega (arith, e, few));
  credits = subst (λ k. Credit2Fits k t records) (sym credits.places) credits;
  budgets = budgets;
}

pub range_refilled : (t d : ℕ) (records : Credit2Records) → has_moment_come t (next_refill_moment (Credit2Pool records) d) ≡ true → InRange t records → InRange t (refilled_pool t d records)
range_refilled t d records come range =
    ranged t (length records.domains) (refilled_pool t d records) range.few (refill_fits (length records.domains) 0 t (Credit2Pool records) d come range.credits) (s_refilled t Few d records range.budgets)

pub range_set_domain : (t d : ℕ) (weight percent : Option ℕ) (records : Credit2Records) → IfSome weight (IsWithin 1 65535) → IfSome percent (λ (c : ℕ). c ≤ 6400) → InRange t records → InRange t (records_with_terms t d weight percent records)
range_set_domain t d weight percent records weighs caps range =
    ranged t (length records.domains) (records_with_terms t d weight percent records) range.few (c_set_domain (length records.domains) t d weight percent records weighs caps range.credits) (s_set_domain t Few d weight percent records caps range.budgets)

pub range_limit : (t limit : ℕ) (last : Option ℕ) (records : Credit2Records) → limit ≤ 500000 → InRange t records → InRange t (record records { limit = limit; last_reset = last })
range_limit t limit last records low range = record { few = range.few; credits = record { places = range.credits.places; limit = low; domains = range.credits.domains }; budgets = range.budgets }

pub range_joined : (t d weight percent count : ℕ) (records : Credit2Records) → IsWithin 1 65535 weight → percent ≤ 6400 → count ≤ 32 → InRange t records → InRange t (record records { domains = put_at d (fresh_credit2_domain weight percent count t) records.domains })
range_joined t d weight percent count records within low few range =
    ranged t (length records.domains) (record records { domains = put_at d (fresh_credit2_domain weight percent count t) records.domains }) range.few
    (record {
      places = length_set d _ records.domains;
      limit = range.credits.limit;
      domains = EachPlace-put_at (Credit2DomainFits t) d (fresh_credit2_domain weight percent count t) records.domains range.credits.domains (c_fresh (length records.domains) t weight percent count within low);
    })
    (EachAt-put_at (λ e. BudgetFits t (Few e) Nobody Nobody) d (fresh_credit2_domain weight percent count t) records.domains range.budgets (b_fresh t (Few d) weight percent count low few))

pub range_parted : (t d : ℕ) (records : Credit2Records) → InRange t records → InRange t (record records { domains = clear_at d records.domains })
range_parted t d records range =
    ranged t (length records.domains) (record records { domains = clear_at d records.domains }) range.few
    (record { places = length_set d None records.domains; limit = range.credits.limit; domains = EachPlace-clear_at (Credit2DomainFits t) d records.domains range.credits.domains })
    (EachAt-clear_at (λ e. BudgetFits t (Few e) Nobody Nobody) d records.domains range.budgets)

-- the core idles
pub range_idle : (ask : Ask) (scheduler : Scheduler) (records : Credit2Records) → InRange ask.at.0 records → InRange ask.at.0 (off_records ask.cur (own_burned_records ask.cur ask.at.0 records))
range_idle ask scheduler records range =
    let n : ℕ = length records.domains in
    let burned : Credit2Records = own_burned_records ask.cur ask.at.0 records in
    ranged ask.at.0 n (off_records ask.cur burned) range.few (c_idle n ask.at.0 ask.cur records range.credits) (decides_idle ask.at.0 Few ask scheduler records refl range.budgets)

-- with another count of units
recount : (t : ℕ) (C D : ℕ → ℕ → Type 0) (records : Credit2Records) → ((d : ℕ) (x : Credit2Domain) → at_place records.domains d ≡ Some x → C d (length x.units) → D d (length x.units)) → Budgets t C None2 None2 records → Budgets t D None2 None2 records
recount t C D records same fits d x at = (let here = fits d x at in record { cap = here.cap; count = same d x at here.count; units = here.units; low = here.low; high = here.high })

-- the core runs the unit, which is its own or did not run
pub range_ran : (ask : Ask) (scheduler : Scheduler) (records : Credit2Records) (u : UnitId) (k : ℕ) → has_domain_budget (own_burned_records ask.cur ask.at.0 records) u ≡ true → ((x : Credit2Domain) → at_place records.domains u.dom.0 ≡ Some x → u.n < length x.units)
    → (ask.cur ≡ Some u) ⊎ ((y : Credit2Unit) → unit_rec records u ≡ Some y → y.burned ≡ None) → InRange ask.at.0 records → InRange ask.at.0 (records_after_run ask.cur ask.at.0 k u (own_burned_records ask.cur ask.at.0 records))
range_ran ask scheduler records u k pays inside off range =
    let n : ℕ = length records.domains in
    let t : ℕ = ask.at.0 in
    let burned : Credit2Records = own_burned_records ask.cur t records in
    let Inside : ℕ → ℕ → Type 0 = λ d j. (j ≤ 32) × (d ≡ u.dom.0 → u.n < j) in
    let counted : Budgets t Inside None2 None2 records = recount t Few Inside records (λ d x at few. (few, λ same. inside x (subst (λ e. at_place records.domains e ≡ Some x) same at))) range.budgets in
    let after : Budgets t Inside None2 None2 (records_after_run ask.cur t k u burned) = decides_unit t Inside ask scheduler records refl counted u pays (λ j here. here.1 refl) off k in
    ranged t n (records_after_run ask.cur t k u burned) range.few
    (c_ran n t ask.cur records range.credits k u)
    (recount t Inside Few (records_after_run ask.cur t k u burned) (λ d x at here. here.0) after)
