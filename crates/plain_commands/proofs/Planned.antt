-- The plan of an accepted command may be carried out: its numbers are in range, and the pool that it makes is that of its line.
use Rattle.std.proofs.Common.{◌≡◌, ◌≢◌, ◌≤◌, ◌∙◌, ◌+◌, ℕ, List, length, inl, inr, refl, ap, arith, subst, sym}
use Rattle.std.specs.Prelude.{◌-◌, Option, None, Some, Result, Ok, Err}
use Rattle.std.specs.Option.{IfSome, ForSome}
use Rattle.std.proofs.Math.Nat.{div-le_self}
use Rattle.sched_model.specs.declared.command.Command.{Command}
use Rattle.sched_model.specs.declared.command.Syntax.{Syntax}
use Rattle.sched_model.specs.declared.config.SchedKind.{SchedKind}
use Rattle.sched_model.specs.declared.machine.Machine.{Machine}
use Rattle.sched_model.specs.declared.plan.Plan.{Plan}
use Rattle.sched_model.specs.declared.plan.Plan.TheVariants as plan
use Rattle.sched_model.specs.declared.state.Domain.{Domain}
use Rattle.sched_model.specs.declared.state.Pool.{Pool}
use Rattle.sched_model.specs.declared.state.State.{State}
use Rattle.sched_model.specs.declared.work.CommandLine.{CommandLine}
use Rattle.sched_model.specs.Machine.{line_verdict}
use Rattle.sched_model.specs.Opening.{fresh_pool}
use Rattle.sched_model.specs.Places.{at_place}
use Rattle.sched_model.specs.Policy.{standard_pool_params}
use Rattle.sched_laws.specs.EachPlace.{EachPlace}
use Rattle.sched_laws.proofs.EachPlace.{at_place-clear_at_other}
use Rattle.sched_laws.proofs.Judged.{AreUnits, Passed, verdict_passed}
use Rattle.pool_records.specs.Fits.{DomainFits, PoolFits}
use Rattle.pool_records.proofs.FitsLemmas.{at_place-fits}
use Rattle.plain_opening.specs.OpeningPool.{spare_by, spare_of_line}
use Rattle.plain_commands.specs.PlanEffects.{PlanFits, HasSpare, spares_after}

-- the units of a domain have numbers of one byte
low-units : (g : ℕ) (domain : Domain) (first count : ℕ) → g ≤ 4 → DomainFits domain → AreUnits g domain first count → first + count ≤ 255
low-units g domain first count few fits (inl all) =
    let units = div-le_self (length domain.vcpus + g - 1) g in
    let vcpus = fits.few in
    let from = all.0 in
    let number = all.1 in
    omega (arith, few, units, vcpus, from, number)
low-units g domain first count few fits (inr (v, inside, from, one)) =
    let unit = div-le_self v g in
    let vcpus = fits.few in
    omega (arith, inside, unit, vcpus, from, one)

-- a value that is there has what any value that is there has
pub for-some : {X : Type 0} {P Q : X → Type 0} (o : Option X) → IfSome o P → ((x : X) → P x → Q x) → ForSome o Q
for-some None holds more x is = absurd (cc)
for-some {X} {P} {Q} (Some y) holds more x is = (let same : y ≡ x = cc in subst Q same (more y holds))

module _ (m : Machine) (s : State) (c : Command) where
  fits-of : (q : Plan) → m.config.granularity ≤ 4 → EachPlace PoolFits s.pools → Passed m s c q → PlanFits q
  fits-of (plan.Credit2Dom d weight cap answer) few fits passed = (let found = passed.0.meets.1 in record { weight = for-some weight found.0 (λ n fits. fits); cap = for-some cap found.1 (λ n fits. fits) })
  fits-of (plan.RtdsDom d first count period budget extra answer) few fits passed =
      let domain-fits = at_place-fits DomainFits passed.pool.domains d.0 passed.domain (fits passed.home passed.pool passed.at).domains passed.has in
      low-units m.config.granularity passed.domain first count few domain-fits passed.meets.1
  fits-of q few fits passed = tt

  spare-of : (line : CommandLine) (q : Plan) (k : ℕ) (spares : List (Option Pool)) → line.command ≡ Ok c → Passed m s c q → at_place spares k ≡ spare_of_line m.config line → HasSpare m k q spares
  spare-of line (plan.PoolCreate i name kind answer) k spares is passed there =
      let made : Result Command Syntax → Option Pool = λ r. elim r [ Err fault ↦ None | Ok asked ↦ spare_by m.config asked ] in
      there ∙ ap made (is ∙ ap Ok passed.2) ∙ ap (λ (asked : SchedKind). Some (fresh_pool m.config (standard_pool_params asked))) (sym passed.3)
  spare-of line q k spares is passed there = tt

-- the numbers of an accepted plan are in range
pub plan-fits : (m : Machine) (s : State) (line : CommandLine) (q : Plan) → m.config.granularity ≤ 4 → EachPlace PoolFits s.pools → line_verdict m s line ≡ Ok q → PlanFits q
plan-fits m s line q few fits is = (let passed = verdict_passed m s line q is in fits-of m s passed.0 q few fits passed.2)

-- the pool that an accepted plan makes stands among the spares, where the one of its line does
pub has-spare : (m : Machine) (s : State) (line : CommandLine) (q : Plan) (k : ℕ) (spares : List (Option Pool)) → line_verdict m s line ≡ Ok q → at_place spares k ≡ spare_of_line m.config line → HasSpare m k q spares
has-spare m s line q k spares is there = (let passed = verdict_passed m s line q is in spare-of m s passed.0 line q k spares passed.1 passed.2 there)

-- the spares at the other places stay
pub spares-kept : (k j : ℕ) (q : Plan) (spares : List (Option Pool)) → j ≢ k → at_place (spares_after k q spares) j ≡ at_place spares j
spares-kept k j (plan.PoolCreate i name kind answer) spares other = at_place-clear_at_other k j spares other
spares-kept k j q spares other = refl
