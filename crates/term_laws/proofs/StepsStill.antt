-- Entries without an action, and a number that is of no domain.
use Rattle.std.proofs.lemmas.Option.{slice_get_within}
use Rattle.std.proofs.Common.{◌≡◌, ◌<◌, ◌+◌, ℕ, suc, Bool, true, false, List, [], ◌∷◌, length, refl, arith, ap, subst, sym, ◌∙◌, cond}
use Rattle.std.specs.Prelude.{Option, Some, None, Result, Ok, Err, is_some, slice_get, nat_lt, bytes_eq, ◌==◌, ◌-◌}
use Rattle.sched_model.specs.declared.command.Command.{Command}
use Rattle.sched_model.specs.declared.command.Command.TheVariants as command
use Rattle.sched_model.specs.declared.command.Syntax.{Syntax}
use Rattle.sched_model.specs.declared.command.Which.{Which}
use Rattle.sched_model.specs.declared.command.Which.TheVariants.{Name, Number}
use Rattle.sched_model.specs.declared.config.DomConfig.{DomConfig}
use Rattle.sched_model.specs.declared.event.Event.{Event}
use Rattle.sched_model.specs.declared.event.Event.TheVariants as event
use Rattle.sched_model.specs.declared.machine.Machine.{Machine}
use Rattle.sched_model.specs.declared.work.CommandLine.{CommandLine}
use Rattle.sched_model.specs.declared.state.State.{State}
use Rattle.sched_model.specs.declared.state.Pool.{Pool}
use Rattle.sched_model.specs.declared.state.Resource.{Resource}
use Rattle.sched_model.specs.declared.state.Credit2Domain.{Credit2Domain}
use Rattle.sched_model.specs.declared.state.Records.{Records}
use Rattle.sched_model.specs.Policy.{domain_credit2_record}
use Rattle.sched_model.specs.Places.{at_place, test_at}
use Rattle.sched_model.specs.Actions.{home_pool_of_core, home_pool_of_domain}
use Rattle.sched_model.specs.Commands.{meant_domain, named_domain_number}
use Rattle.sched_model.specs.Runs.{event_action}
use Rattle.sched_base.proofs.Bools.{clash}
use Rattle.sched_laws.specs.PoolFacts.{IfUnit}
use Rattle.sched_laws.proofs.EachPlace.{by_option, by_cond, found_at, is_empty}
use Rattle.sched_laws.proofs.Lists.{test_at-some, some-test_at, some_is}
use Rattle.sched_laws.specs.PoolFacts.{IsThere}
use Rattle.term_laws.specs.Term.{late_of, late_now, moves}
use Rattle.term_laws.proofs.Same.{cur_in}
use Rattle.term_laws.proofs.ReachedStates.{Known}
use Rattle.term_laws.specs.CapTerm.{credit2_in, cap_set, cap_in_command, cap_in_line, refills}
use Rattle.term_laws.proofs.CapTracks.{Stops, EventTracks, cap_at, number_in, on_core, decided_for}
use Rattle.term_laws.proofs.StepsState.{unit_of_number, on_core_cur}
use Rattle.term_laws.proofs.StepsHolds.{IsNone, cap_of, cap_stays}

-- an entry without an action
pub quiet_none : (m : Machine) (d : ℕ) (e : Event) → event_action e ≡ None → IsNone m d e
quiet_none m d (event.End next) is = record { late = λ r. refl; stays = refl; sets = refl; refill = refl }
quiet_none m d event.Finish is = record { late = λ r. refl; stays = refl; sets = refl; refill = refl }
quiet_none m d _ is = absurd (cc)

-- the state stays as it is, or the moment passes
pub still_tracks : (m : Machine) (d : ℕ) (e : Event) (s s2 : State) → IsNone m d e → ((r : ℕ) → on_core s2 d r ≡ on_core s d r) → credit2_in s2 d ≡ credit2_in s d → EventTracks m d e s s2
still_tracks m d e s s2 none on same = record {
  stays = λ r is. on r;
  decides = λ r late is. absurd (let no = none.late r in cc);
  cap = ap cap_of same ∙ sym (cap_stays m d (cap_at s d) e none.stays none.sets);
  moved = λ r is. absurd (clash (moves d e) is none.stays);
  set_budget = λ percent y is y_is. absurd (let no = none.sets in cc);
  set_stops = λ percent y is y_is n stop stops. absurd (let no = none.sets in cc);
  refilled = λ x y is x_is some y_is. absurd (clash (refills d e) is none.refill);
  decided = λ r late x y is x_is some y_is. absurd (let no = none.late r in cc);
  goes = λ x y ends late x_is some y_is. (
      let e1 : Some x ≡ Some y = sym x_is ∙ sym same ∙ y_is in
      let e2 : x ≡ y = cc in
      record { budget = ap (λ (z : Credit2Domain). z.budget) (sym e2); others = λ n stop stops. subst (λ (z : Credit2Domain). Stops z n stop) e2 stops });
}

-- a domain that a command names is one of the machine
named_low : (n : ℕ) (name : List ℕ) (domains : List DomConfig) (d : ℕ) → named_domain_number n name domains ≡ Some d → d < n + length domains
named_low n name [] d is = absurd (cc)
named_low n name (domain ∷ domains) d is = go (λ is2. named_low (suc n) name domains d is2) (bytes_eq name domain.name) is
  where
    go : (named_domain_number (suc n) name domains ≡ Some d → d < suc n + length domains) → (b : Bool) → elim b as (λ _. Option ℕ) [ true ↦ Some n | false ↦ named_domain_number (suc n) name domains ] ≡ Some d → d < n + length (domain ∷ domains)
    go later true is2 = (let e : n ≡ d = cc in omega (arith, e))
    go later false is2 = (let low = later is2 in omega (arith, low))

domain_low : (m : Machine) (which : Which) (d : ℕ) → meant_domain m which ≡ Some d → d < length m.config.domains
domain_low m (Name name) d is = (let low = named_low 0 name m.config.domains d is in omega (arith, low))
domain_low m (Number n) d is = go (nat_lt n (length m.config.domains)) refl is
  where
    go : (b : Bool) → nat_lt n (length m.config.domains) ≡ b → cond b (Some n) None ≡ Some d → d < length m.config.domains
    go true low is2 = (let e : n ≡ d = cc in let less : n < length m.config.domains = grind (arith, low) in omega (arith, e, less))
    go false low is2 = absurd (cc)

module _ (m : Machine) (d : ℕ) where
  command_low : (c : Command) (n : ℕ) → cap_in_command m d c ≡ Some n → d < length m.config.domains
  command_low (command.Credit2Dom which weight percent) n is = go (meant_domain m which) refl is
    where
      go : (o : Option ℕ) → meant_domain m which ≡ o → elim o as (λ _. Option ℕ) [ None ↦ None | Some named ↦ cond (named == d) percent None ] ≡ Some n → d < length m.config.domains
      go None is2 e = absurd (cc)
      go (Some named) is2 e = here (named == d) refl e
        where
          here : (b : Bool) → (named == d) ≡ b → cond b percent None ≡ Some n → d < length m.config.domains
          here true same e2 = (let e3 : named ≡ d = grind (arith, same) in let low = domain_low m which named is2 in omega (arith, e3, low))
          here false same e2 = absurd (cc)
  command_low _ n is = absurd (cc)

  pub set_low : (e : Event) (n : ℕ) → cap_set m d e ≡ Some n → d < length m.config.domains
  set_low (event.Xl k (Ok reply)) n is = go (slice_get m.work.commands (k - 1)) is
    where
      by_command : (c : Result Command Syntax) → elim c as (λ _. Option ℕ) [ Err fault ↦ None | Ok given ↦ cap_in_command m d given ] ≡ Some n → d < length m.config.domains
      by_command (Err fault) is2 = absurd (cc)
      by_command (Ok given) is2 = command_low given n is2

      go : (o : Option CommandLine) → elim o as (λ _. Option ℕ) [ None ↦ None | Some line ↦ cap_in_line m d line ] ≡ Some n → d < length m.config.domains
      go None is2 = absurd (cc)
      go (Some line) is2 = by_command line.command is2
  set_low _ n is = absurd (cc)

  -- a number that is of no domain
  module _ (high : d < length m.config.domains → ⊥) where
    no_home : (s : State) → Known m s → (i : ℕ) (p : Pool) → at_place s.pools i ≡ Some p → test_at p.domains d (λ x. true) ≡ true → ⊥
    no_home s k i p at there =
        let x = some-test_at p.domains d (λ x. true) there in
        let r = (k.range.pools i p at).domains d x.0 x.1 in
        high (slice_get_within m.config.domains d r.config r.at)

    pub no_read : (s : State) → Known m s → (X : Type 0) (f : Records → Option X) → elim (home_pool_of_domain s d) as (λ _. Option X) [ None ↦ None | Some i ↦ elim (at_place s.pools i) as (λ _. Option X) [ None ↦ None | Some pool ↦ f pool.scheduler.records ] ] ≡ None
    no_read s k X f =
        by_option (λ (o : Option X). o ≡ None) (home_pool_of_domain s d) None _ (λ none. refl)
        (λ i found. absurd (
        let g = found_at i (λ p. is_some (at_place p.domains d)) s.pools found in
        let x = some_is (at_place g.0.domains d) g.2 in
        no_home s k i g.0 g.1 (test_at-some g.0.domains d (λ y. true) x.0 x.1 refl)))

    pub no_record : (s : State) → Known m s → credit2_in s d ≡ None
    no_record s k = no_read s k Credit2Domain (λ (records : Records). domain_credit2_record records d)

    pub no_core : (s : State) → Known m s → (r : ℕ) → on_core s d r ≡ None
    no_core s k r =
        on_core_cur s d r
        ∙ by_option (λ (o : Option Resource). number_in d (cur_in o) ≡ None) (home_pool_of_core s r) None _ (λ none. refl)
        (λ i found. by_option (λ (o : Option Resource). number_in d (cur_in o) ≡ None) (at_place s.pools i) None (λ p. at_place p.resources r) (λ none. refl)
        (λ p at. here i p at (at_place p.resources r) refl))
      where
        here : (i : ℕ) (p : Pool) → at_place s.pools i ≡ Some p → (o : Option Resource) → at_place p.resources r ≡ o → number_in d (cur_in o) ≡ None
        here i p at None is = refl
        here i p at (Some c) is = is_empty (number_in d c.cur) (λ n on. (
            let u = unit_of_number d n c.cur on in
            let in_p : IsThere p.domains u.0 = subst (IfUnit (IsThere p.domains)) u.1 ((k.own i p at).cores r c is).cur in
            no_home s k i p at (subst (λ (e : ℕ). test_at p.domains e (λ x. true) ≡ true) u.2 in_p)))

    pub high_tracks : (e : Event) (s s2 : State) → Known m s → Known m s2 → ((r late : ℕ) → late_of r e ≡ Some late → (late ≡ late_now s r) × (on_core s2 d r ≡ decided_for d e)) → EventTracks m d e s s2
    high_tracks e s s2 k k2 decides = record {
      stays = λ r is. no_core s2 k2 r ∙ sym (no_core s k r);
      decides = decides;
      cap = ap cap_of (no_record s2 k2) ∙ sym (cap_zero (cap_set m d e) refl);
      moved = λ r is. no_core s k r;
      set_budget = λ percent y is y_is. absurd (high (set_low e percent is));
      set_stops = λ percent y is y_is n stop stops. absurd (high (set_low e percent is));
      refilled = λ x y is x_is some y_is. absurd (let none = no_record s k in cc);
      decided = λ r late x y is x_is some y_is. absurd (let none = no_record s k in cc);
      goes = λ x y ends late x_is some y_is. absurd (let none = no_record s k in cc);
    }
      where
        cap_zero : (o : Option ℕ) → cap_set m d e ≡ o → elim o as (λ _. ℕ) [ Some given ↦ given | None ↦ cond (moves d e) 0 (cap_at s d) ] ≡ 0
        cap_zero None is = by_cond (λ (n : ℕ). n ≡ 0) (moves d e) 0 (cap_at s d) (λ yes_moves. refl) (λ no_moves. ap cap_of (no_record s k))
        cap_zero (Some n) is = absurd (high (set_low e n is))
