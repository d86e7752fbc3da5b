-- A line with a command: it sets the cap of the domain, or leaves the domain as it is.
use Rattle.std.proofs.Common.{◌≡◌, ℕ, suc, Bool, true, false, refl, ap, sym, ◌∙◌, cond}
use Rattle.std.specs.Prelude.{Option, Some, None, Result, Ok, Err, option_map, is_some, slice_get, nat_le, not, ◌&&◌, ◌==◌, pos}
use Rattle.std.proofs.lemmas.Bool.{eq-eqb}
use Rattle.sched_base.specs.Numbers.{domain as domain_number}
use Rattle.sched_base.specs.Credit2Numbers.{cap_budget}
use Rattle.sched_model.specs.declared.action.Action.TheVariants.{Xl}
use Rattle.sched_model.specs.declared.config.ParamChange.TheVariants as changes
use Rattle.sched_model.specs.declared.config.SchedKind.TheVariants as kinds
use Rattle.sched_model.specs.declared.event.Refusal.{Refusal}
use Rattle.sched_model.specs.declared.event.Reply.{Reply}
use Rattle.sched_model.specs.declared.plan.Plan.{Plan}
use Rattle.sched_model.specs.declared.plan.Plan.TheVariants as plan
use Rattle.sched_model.specs.declared.machine.Machine.{Machine}
use Rattle.sched_model.specs.declared.work.CommandLine.{CommandLine}
use Rattle.sched_model.specs.declared.state.State.{State}
use Rattle.sched_model.specs.declared.state.Pool.{Pool}
use Rattle.sched_model.specs.declared.state.Records.{Records}
use Rattle.sched_model.specs.declared.state.Records.TheVariants.{Credit2Pool}
use Rattle.sched_model.specs.declared.state.Credit2Domain.{Credit2Domain}
use Rattle.sched_model.specs.Places.{at_place, change_at, test_at}
use Rattle.sched_model.specs.Policy.{records_kind, domain_credit2_record}
use Rattle.sched_model.specs.Pool.{settled_pool, changed_pool, domain_unit_count}
use Rattle.sched_model.specs.Actions.{change_pool}
use Rattle.sched_model.specs.Commands.{is_same_kind, carried_out, plan_pool}
use Rattle.sched_model.specs.Machine.{after, after_command, event_of, line_verdict, settled_at, is_action_enabled, has_move_under_way}
use Rattle.sched_base.proofs.Bools.{clash, or_left, or_right}
use Rattle.sched_laws.proofs.Lists.{some-test_at}
use Rattle.state_ranges.specs.Records.{IsRecorded}
use Rattle.term_laws.specs.Term.{moves}
use Rattle.term_laws.proofs.AtPlaces.{at_place-change_at}
use Rattle.term_laws.specs.CapTerm.{cap_set, ends_term, refills, credit2_in}
use Rattle.term_laws.proofs.CapTracks.{cap_at, number_in}
use Rattle.sched_laws.proofs.Judged.{Fits, verdict_fits}
use Rattle.term_laws.proofs.StepsState.{Stands, HomeOf, home_is, credit2_is}
use Rattle.term_laws.proofs.StepsHolds.{StepGives, StateHolds, holds_in, holds_out, cap_of, on_before, on_after, is_now}
use Rattle.term_laws.proofs.StepsPlans.{verdict_cap, event_sets}
use Rattle.term_laws.proofs.StepsSet.{set_pool, set_curs, set_is, set_budget, set_stops, holds_set}

-- a Credit2 pool has a record of its domain
record_exists : (records : Records) (d count : ℕ) → is_same_kind kinds.Credit2 (records_kind records) ≡ true → IsRecorded records d count → (x : Credit2Domain) × (domain_credit2_record records d ≡ Some x)
record_exists (Credit2Pool own) d count kind has = (has.domain, has.at)
record_exists records d count kind has = absurd (cc)

-- the line of the command, which may come
pub line_is : (m : Machine) (s : State) (t : ℕ) → is_action_enabled m s t Xl ≡ true → (line : CommandLine) × (slice_get m.work.commands s.next_command ≡ Some line)
line_is m s t on = go (slice_get m.work.commands s.next_command) refl on
  where
    go : (o : Option CommandLine) → slice_get m.work.commands s.next_command ≡ o → elim o as (λ _. Bool) [ None ↦ false | Some line ↦ nat_le line.at.0 t && not (has_move_under_way s) ] ≡ true → (line : CommandLine) × (slice_get m.work.commands s.next_command ≡ Some line)
    go None is on2 = absurd (cc)
    go (Some line) is on2 = (line, is)

module _ (m : Machine) (d : ℕ) (s : State) (k : Stands m s) (k2 : Stands m (after m s s.now Xl)) (home : HomeOf d s) (line : CommandLine) (is_line : slice_get m.work.commands s.next_command ≡ Some line) (n : ℕ) (weight : Option ℕ) (answer : Reply)
    (is_plan : line_verdict m s line ≡ Ok (plan.Credit2Dom (domain_number d) weight (Some n) answer)) where
  abbrev s2 : State
  s2 = after m s s.now Xl

  abbrev p : Pool
  p = home.pool

  abbrev next : Pool
  next = set_pool d s.now n weight home.pool

  abbrev f : Pool → Pool
  f = changed_pool (changes.Dom (domain_number d) weight (Some n)) s.now

  abbrev begun : State
  begun = record s { next_command = suc s.next_command }

  abbrev the_home : Option ℕ → State
  the_home o = settled_at s.now o (elim o as (λ _. State) [ None ↦ begun | Some i ↦ change_pool i f begun ])

  state_is : s2 ≡ change_pool home.home (settled_pool s.now) (change_pool home.home f begun)
  state_is =
      ap (λ (o : Option CommandLine). elim o as (λ _. State) [ None ↦ s | Some x ↦ after_command m s.now x s ]) is_line
      ∙ ap (λ (v : Result Plan Refusal). elim v as (λ _. State) [ Err fault ↦ begun | Ok pl ↦ settled_at s.now (plan_pool s pl) (carried_out m s.now pl begun) ]) is_plan
      ∙ ap the_home (home_is m s k.known d home.home home.pool home.at home.there)

  at_next : at_place s2.pools home.home ≡ Some next
  at_next =
      ap (λ (x : State). at_place x.pools home.home) state_is ∙ at_place-change_at home.home (settled_pool s.now) (change_at home.home f s.pools)
      ∙ ap (option_map (settled_pool s.now)) (at_place-change_at home.home f s.pools ∙ ap (option_map f) home.at)

  there : test_at next.domains d (λ x. true) ≡ true
  there = home.there

  has_record : (x : Credit2Domain) × (domain_credit2_record p.scheduler.records d ≡ Some x)
  has_record =
      let fits : Fits s (plan.Credit2Dom (domain_number d) weight (Some n) answer) = verdict_fits m s line (plan.Credit2Dom (domain_number d) weight (Some n) answer) is_plan in
      let x = some-test_at p.domains d (λ x. true) home.there in
      let recorded = (k.records home.home p home.at).recorded d x.0 x.1 in
      record_exists p.scheduler.records d (domain_unit_count m.config.granularity x.0) (ap (is_same_kind kinds.Credit2) (fits.1 home.home p (home_is m s k.known d home.home home.pool home.at home.there) home.at)) recorded

  sets : cap_set m d (event_of m s s.now Xl) ≡ Some n
  sets = event_sets m s d s.now line is_line ∙ ap (verdict_cap d) is_plan ∙ ap (λ (b : Bool). cond b (Some n) None) (same d)
    where
      same : (a : ℕ) → (a == a) ≡ true
      same a = eq-eqb a a refl

  is_n : (percent : ℕ) → cap_set m d (event_of m s s.now Xl) ≡ Some percent → percent ≡ n
  is_n percent is = (let e : Some percent ≡ Some n = sym is ∙ sets in cc)

  now_is : (y : Credit2Domain) → credit2_in s2 d ≡ Some y → domain_credit2_record next.scheduler.records d ≡ Some y
  now_is y y_is = is_now m d s s2 k.known k2.known home.home home.home p next home.at home.there at_next there y y_is

  pub set_gives : StateHolds d s → StepGives m d s s2 (event_of m s s.now Xl)
  set_gives holds = record {
    tracks = record {
      stays = λ r is. on_after m d s s2 k.known k2.known home.home home.home p next home.at home.there at_next there r ∙ ap (number_in d) (set_curs d s.now n weight p r) ∙ sym (on_before m d s s2 k.known k2.known home.home home.home p next home.at home.there at_next there r);
      decides = λ r late is. absurd (cc);
      cap = (
          let x = has_record in
          let y = set_is d s.now n weight p x.0 x.1 in
          ap cap_of (credit2_is m s2 k2.known d home.home next at_next there ∙ y.1) ∙ y.2 ∙ sym (ap (λ (o : Option ℕ). elim o as (λ _. ℕ) [ Some given ↦ given | None ↦ cond (moves d (event_of m s s.now Xl)) 0 (cap_at s d) ]) sets));
      moved = λ r is. absurd (cc);
      set_budget = λ percent y is y_is. set_budget d s.now n weight p y (now_is y y_is) ∙ ap (λ (c : ℕ). pos (cap_budget c)) (sym (is_n percent is));
      set_stops = λ percent y is y_is j stop stops. set_stops d s.now n weight p y (now_is y y_is) j stop stops;
      refilled = λ x y is x_is some y_is. absurd (cc);
      decided = λ r late x y is x_is some y_is. absurd (cc);
      goes = λ x y ends late x_is some y_is. absurd (ends_not ends);
    };
    holds = holds_out m s2 k2.known d home.home next at_next there (holds_set d s.now n weight p (holds_in m s k.known d home.home p home.at home.there holds));
  }
    where
      ends_not : ends_term m d (event_of m s s.now Xl) ≡ false → ⊥
      ends_not ends = clash (is_some (cap_set m d (event_of m s s.now Xl))) (ap is_some sets) (or_right (refills d (event_of m s s.now Xl)) _ (or_left _ _ ends))
