-- What an accepted command has found: the checks that it passed, command by command.
use Rattle.std.proofs.Common.{◌≡◌, ◌<◌, ◌≤◌, ◌+◌, ◌-◌, ℕ, true, false, List, [], ◌∷◌, length, refl, arith, subst, sym, inl, inr}
use Rattle.std.proofs.lemmas.List.Elements.{All-from_recursion}
use Rattle.std.specs.List.{AllByRecursion}
use Rattle.std.specs.Option.{ForSome}
use Rattle.std.specs.Prelude.{Option, Some, None, Ok, ◌/◌, unwrap_or}
use Rattle.sched_model.specs.declared.command.Command.{Command}
use Rattle.sched_model.specs.declared.event.Param.TheVariants as param
use Rattle.sched_model.specs.declared.event.Refusal.{Refusal}
use Rattle.sched_model.specs.declared.event.Refusal.TheVariants as refusal
use Rattle.sched_model.specs.declared.machine.Machine.{Machine}
use Rattle.sched_model.specs.declared.plan.Plan.{Plan}
use Rattle.sched_model.specs.declared.plan.Plan.TheVariants as plan
use Rattle.sched_model.specs.declared.state.Domain.{Domain}
use Rattle.sched_model.specs.declared.state.Pool.{Pool}
use Rattle.sched_model.specs.declared.state.RtdsUnit.{RtdsUnit}
use Rattle.sched_model.specs.declared.state.State.{State}
use Rattle.sched_model.specs.declared.work.CommandLine.{CommandLine}
use Rattle.sched_model.specs.Places.{at_place}
use Rattle.sched_model.specs.CheckedMachine.{IsChecked, IsGranularity, IsWithin}
use Rattle.sched_model.specs.Pool.{domain_unit_count}
use Rattle.sched_model.specs.Commands.{in_range, rtds_fault, rtds_units}
use Rattle.sched_model.specs.Machine.{line_verdict}
use Rattle.sched_laws.proofs.Lists.{is_some_at}
use Rattle.composition_laws.proofs.Housed.{empty_numbered}
use Rattle.composition_laws.specs.Plans.{IsThere, FindsPool, FindsDomain, HasNothing, given_or, IsTermInMicroseconds, Finds}
use Rattle.sched_laws.proofs.Judged.{is_within, AreUnits, AreTerms, Passed, microseconds, verdict_passed}
use Rattle.sched_laws.proofs.Granularity.{by_granularity}
use Rattle.std.specs.List.{All}
use Rattle.std.specs.Option.{IfSome}
use Rattle.std.proofs.lemmas.Option.{IfSome_then}
use Rattle.sched_base.specs.declared.Span.{Span}

-- what is known of a value, if there is one, as an equation tells it
for_if : {X : Type 0} (o : Option X) (P : X → Type 0) → IfSome o P → ForSome o P
for_if None P holds x is = absurd (cc)
for_if (Some y) P holds x is = (let e : y ≡ x = cc in subst P e holds)

-- the terms of the units, as they are judged
in_microseconds : (given : Option ℕ) (n : ℕ) → given_or (microseconds given) n / 1000 ≡ unwrap_or given (n / 1000)
in_microseconds None n = refl
in_microseconds (Some us) n = omega arith

terms_judged : (period budget : Option ℕ) (units : List RtdsUnit) → rtds_fault period budget units ≡ None
    → AllByRecursion (λ (x : RtdsUnit). IsTermInMicroseconds (given_or (microseconds period) x.next_period) (given_or (microseconds budget) x.next_budget)) units
terms_judged period budget [] none = tt
terms_judged period budget (x ∷ units) none =
    let p : ℕ = unwrap_or period (x.next_period / 1000) in
    let b : ℕ = unwrap_or budget (x.next_budget / 1000) in
    let P : List RtdsUnit → Type 0 = AllByRecursion (λ (y : RtdsUnit). IsTermInMicroseconds (given_or (microseconds period) y.next_period) (given_or (microseconds budget) y.next_budget)) in
    elim (in_range 10 1000000000 p) as (λ r. in_range 10 1000000000 p ≡ r
    → elim r as (λ _. Option Refusal) [ false ↦ Some (refusal.Range param.Period p) | true ↦ elim (in_range 10 p b) [ false ↦ Some (refusal.Range param.Budget b) | true ↦ rtds_fault period budget units ] ] ≡ None → P (x ∷ units)) [
      | false ↦ λ is h. absurd (cc)
      | true ↦ λ is h. elim (in_range 10 p b) as (λ r. in_range 10 p b ≡ r → elim r as (λ _. Option Refusal) [ false ↦ Some (refusal.Range param.Budget b) | true ↦ rtds_fault period budget units ] ≡ None → P (x ∷ units)) [
        | false ↦ λ is2 h2. absurd (cc)
        | true ↦ λ is2 h2. (
          record {
            long = subst (IsWithin 10 1000000000) (sym (in_microseconds period x.next_period)) (is_within 10 1000000000 p is);
            within = subst (λ (n : ℕ). IsWithin 10 n (given_or (microseconds budget) x.next_budget / 1000)) (sym (in_microseconds period x.next_period))
                (subst (IsWithin 10 p) (sym (in_microseconds budget x.next_budget)) (is_within 10 p b is2));
          },
          terms_judged period budget units h2,
        )
      ] refl h
    ] refl none

unit_below : (g vcpus v : ℕ) → IsGranularity g → v < vcpus → v / g < (vcpus + g - 1) / g
unit_below g vcpus v is low = by_granularity (λ n. v / n < (vcpus + n - 1) / n) g is (omega (arith, low)) (omega (arith, low)) (omega (arith, low))

module _ (m : Machine) (checked : IsChecked m) (s : State) where
  pool_found : {P : Pool → Type 0} (Q : Pool → Type 0) (i : ℕ) (found : FindsPool s i P) → Q found.pool → FindsPool s i Q
  pool_found Q i found meets = record { pool = found.pool; at = found.at; meets = meets }

  domain_found : {P : Pool → Domain → Type 0} (Q : Pool → Domain → Type 0) (d : ℕ) (found : FindsDomain s d P) → Q found.pool found.domain → FindsDomain s d Q
  domain_found Q d found meets = record { home = found.home; pool = found.pool; domain = found.domain; is_home = found.is_home; at = found.at; has = found.has; meets = meets }

  inside : (domain : Domain) (first count : ℕ) → AreUnits m.config.granularity domain first count → first + count ≤ domain_unit_count m.config.granularity domain
  inside domain first count (inl all) = (let a = all.0 in let b = all.1 in omega (arith, a, b))
  inside domain first count (inr (v, low, is, one)) = (let l = unit_below m.config.granularity (length domain.vcpus) v checked.config.granularity low in omega (arith, l, is, one))

  terms_found : (period budget : Option Span) (units : List RtdsUnit) → AreTerms period budget units → All (λ (x : RtdsUnit). IsTermInMicroseconds (given_or period x.next_period) (given_or budget x.next_budget)) units
  terms_found period budget units terms = by_given period budget terms.given_period terms.given_budget terms.period_is terms.budget_is terms.good
    where
      by_given : (p b : Option Span) (us ub : Option ℕ) → p ≡ microseconds us → b ≡ microseconds ub → rtds_fault us ub units ≡ None → All (λ (x : RtdsUnit). IsTermInMicroseconds (given_or p x.next_period) (given_or b x.next_budget)) units
      by_given p b us ub is is2 none = rw (is, is2) (All-from_recursion _ units (terms_judged us ub units none))

  finds : (c : Command) (p : Plan) → Passed m s c p → Finds m s p
  finds c (plan.PoolList pool answer) passed = for_if pool (λ i. IsThere s i.0) passed
  finds c (plan.PoolCreate i name kind answer) passed = (passed.0.1, passed.0.0)
  finds c (plan.PoolDestroy i answer) passed = (
      let none = passed.meets in
      pool_found HasNothing i.0 passed (λ n. (empty_numbered 0 n passed.pool.resources none.0, empty_numbered 0 n passed.pool.domains none.1)))
  finds c (plan.PoolRename i name answer) passed = passed
  finds c (plan.CpuAdd i core answer) passed = (is_some_at (at_place s.pools i.0) passed.0.pool passed.0.at, passed.1, passed.2 checked)
  finds c (plan.CpuRemove i core answer) passed = pool_found _ i.0 passed passed.meets
  finds c (plan.Migrate d i j answer) passed = (passed.0, pool_found _ i.0 passed.1 passed.1.meets, passed.2)
  finds c (plan.Credit2Dom d weight cap answer) passed = (
      let found = passed.0.meets in
      domain_found _ d.0 passed.0 (found.0, for_if weight (IsWithin 1 65535) found.1.0, for_if cap (λ (n : ℕ). n ≤ 6400) found.1.1))
  finds c (plan.Credit2Pool i limit answer) passed = pool_found _ i.0 passed (passed.meets.0, for_if limit (λ (us : ℕ). us ≤ 500000) passed.meets.1)
  finds c (plan.RtdsDom d first count period budget extra answer) passed = (
      let found = passed.meets in
      domain_found _ d.0 passed (found.0, inside passed.domain first count found.1, terms_found period budget (rtds_units passed.pool d.0 first count) found.2))
  finds c (plan.Pause d answer) passed = domain_found _ d.0 passed tt
  finds c (plan.Unpause d answer) passed = domain_found _ d.0 passed tt
  finds c (plan.ArincSet i frame answer) passed = (
      let found = passed.meets in
      let within = found.1.1 in
      pool_found _ i.0 passed (found.0, record { some_span = (let l = within.least in omega (arith, l)); fits = found.1.0; bounded = within.most }))
  finds c (plan.Pin d unit cores answer) passed =
      domain_found _ d.0 passed (for_if unit (λ (n : ℕ). n < domain_unit_count m.config.granularity passed.domain) (IfSome_then unit passed.meets (λ n is. subst (λ k. k < domain_unit_count m.config.granularity passed.domain) (sym is.1)
      (unit_below m.config.granularity (length passed.domain.vcpus) is.0 checked.config.granularity is.2))))

pub plan_finds : (m : Machine) → IsChecked m → (s : State) (line : CommandLine) (p : Plan) → line_verdict m s line ≡ Ok p → Finds m s p
plan_finds m checked s line p is = (let passed = verdict_passed m s line p is in finds m checked s passed.0 p passed.2)
