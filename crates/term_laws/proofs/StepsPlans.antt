-- The plan of a command sets a cap exactly where the command does.
use Rattle.sched_laws.proofs.Judged.{Passed, by_demand, by_range, by_domain, verdict_passed}
use Rattle.term_laws.proofs.AtHome.{IfOk}
use Rattle.std.proofs.Common.{◌≡◌, ℕ, suc, Bool, true, false, refl, arith, ap, subst, sym, ◌∙◌, cond}
use Rattle.std.specs.Prelude.{Option, Some, None, Result, Ok, Err, slice_get, ◌-◌, ◌==◌}
use Rattle.sched_base.specs.Numbers.{domain as domain_number}
use Rattle.sched_model.specs.declared.command.Command.{Command}
use Rattle.sched_model.specs.declared.command.Command.TheVariants as command
use Rattle.sched_model.specs.declared.command.Syntax.{Syntax}
use Rattle.sched_model.specs.declared.command.Which.{Which}
use Rattle.sched_model.specs.declared.config.SchedKind.TheVariants as kinds
use Rattle.sched_model.specs.declared.event.Refusal.{Refusal}
use Rattle.sched_model.specs.declared.event.Reply.{Reply}
use Rattle.sched_model.specs.declared.event.Reply.TheVariants as reply
use Rattle.sched_model.specs.declared.event.Event.TheVariants as event
use Rattle.sched_model.specs.declared.plan.Plan.{Plan}
use Rattle.sched_model.specs.declared.plan.Plan.TheVariants as plan
use Rattle.sched_model.specs.declared.work.CommandLine.{CommandLine}
use Rattle.sched_model.specs.declared.machine.Machine.{Machine}
use Rattle.sched_model.specs.declared.state.State.{State}
use Rattle.sched_model.specs.declared.action.Action.TheVariants.{Xl}
use Rattle.sched_model.specs.Policy.{records_kind}
use Rattle.sched_model.specs.Commands.{judged_command, is_same_kind, plan_reply}
use Rattle.sched_model.specs.Machine.{line_verdict, answer_of, event_of}
use Rattle.term_laws.specs.CapTerm.{cap_in_command, cap_in_line, cap_set}
use Rattle.term_laws.proofs.Same.{PlanLeaves}
use Rattle.term_laws.proofs.StepsSame.{SetsOther}

-- the cap that a plan gives the domain, and that of a verdict
abbrev pub plan_cap : ℕ → Plan → Option ℕ
plan_cap d (plan.Credit2Dom e weight percent answer) = cond (e.0 == d) percent None
plan_cap d _ = None

abbrev pub verdict_cap : ℕ → Result Plan Refusal → Option ℕ
verdict_cap d (Ok p) = plan_cap d p
verdict_cap d (Err fault) = None

module _ (m : Machine) (s : State) (d : ℕ) where
  abbrev C : Command → Plan → Type 0
  C c p = plan_cap d p ≡ cap_in_command m d c

  judged_sets : (which : Which) (weight percent : Option ℕ) → IfOk (C (command.Credit2Dom which weight percent)) (judged_command m s (command.Credit2Dom which weight percent))
  judged_sets which weight percent =
      let Q : Result Plan Refusal → Type 0 = IfOk (C (command.Credit2Dom which weight percent)) in
      by_domain Q m s which _ tt (λ e i pool domain named home at has. by_demand Q (is_same_kind kinds.Credit2 (records_kind pool.scheduler.records)) _ _ tt (λ is. by_range Q weight 1 65535 _ _ tt (λ weighs. by_range Q percent 0 6400 _ _ tt
      (λ caps. sym (ap (λ (o : Option ℕ). elim o as (λ _. Option ℕ) [ None ↦ None | Some n ↦ cond (n == d) percent None ]) named)))))

  -- no other command has a plan that sets a cap
  passed_sets : (c : Command) (p : Plan) → Passed m s c p → judged_command m s c ≡ Ok p → C c p
  passed_sets (command.Credit2Dom which weight percent) p passed is = subst (IfOk (C (command.Credit2Dom which weight percent))) is (judged_sets which weight percent)
  passed_sets c (plan.Credit2Dom e weight percent answer) passed is = (let asked = passed.2 in absurd (cc))
  passed_sets c p passed is = refl

  -- the same of a line, and of the event
  line_sets : (line : CommandLine) (p : Plan) → line_verdict m s line ≡ Ok p → cap_in_line m d line ≡ plan_cap d p
  line_sets line p is =
      let passed = verdict_passed m s line p is in
      ap (λ (r : Result Command Syntax). elim r as (λ _. Option ℕ) [ Err fault ↦ None | Ok given ↦ cap_in_command m d given ]) passed.1 ∙ sym (passed_sets passed.0 p passed.2 passed.3)

  pub event_sets : (t : ℕ) (line : CommandLine) → slice_get m.work.commands s.next_command ≡ Some line → cap_set m d (event_of m s t Xl) ≡ verdict_cap d (line_verdict m s line)
  event_sets t line is = ap (λ (o : Option CommandLine). cap_set m d (event.Xl (suc s.next_command) (elim o as (λ _. Result Reply Refusal) [ None ↦ Ok reply.Done | Some x ↦ answer_of m s x ]))) is ∙ go (line_verdict m s line) refl
    where
      back : suc s.next_command - 1 ≡ s.next_command
      back = omega arith

      there : slice_get m.work.commands (suc s.next_command - 1) ≡ Some line
      there = ap (λ (n : ℕ). slice_get m.work.commands n) back ∙ is

      go : (v : Result Plan Refusal) → line_verdict m s line ≡ v → cap_set m d (event.Xl (suc s.next_command) (elim v as (λ _. Result Reply Refusal) [ Err fault ↦ Err fault | Ok p ↦ Ok (plan_reply p) ])) ≡ verdict_cap d v
      go (Err fault) v_is = refl
      go (Ok p) v_is = ap (λ (o : Option CommandLine). elim o as (λ _. Option ℕ) [ None ↦ None | Some x ↦ cap_in_line m d x ]) there ∙ line_sets line p v_is

-- a plan that gives the domain no cap leaves it
pub plan_leaves : (d : ℕ) (p : Plan) → plan_cap d p ≡ None → PlanLeaves (SetsOther d) p
plan_leaves d (plan.Credit2Dom e weight None answer) none = tt
plan_leaves d (plan.Credit2Dom e weight (Some n) answer) none = λ same. (let b : (e.0 == d) ≡ true = grind (arith, same) in let e2 : Some n ≡ None = sym (ap (λ (c : Bool). cond c (Some n) None) b) ∙ none in cc)
plan_leaves d _ none = tt

pub verdict_leaves : (d : ℕ) (v : Result Plan Refusal) → verdict_cap d v ≡ None → IfOk (PlanLeaves (SetsOther d)) v
verdict_leaves d (Ok p) none = plan_leaves d p none
verdict_leaves d (Err fault) none = tt

-- a verdict that gives it one is a plan that sets it
pub sets_it : (d n : ℕ) (v : Result Plan Refusal) → verdict_cap d v ≡ Some n → (weight : Option ℕ) × (answer : Reply) × (v ≡ Ok (plan.Credit2Dom (domain_number d) weight (Some n) answer))
sets_it d n (Err fault) is = absurd (cc)
sets_it d n (Ok (plan.Credit2Dom e weight percent answer)) is = go (e.0 == d) refl is
  where
    go : (b : Bool) → (e.0 == d) ≡ b → cond b percent None ≡ Some n → (w : Option ℕ) × (a : Reply) × ◌≡◌ {A = Result Plan Refusal} (Ok (plan.Credit2Dom e weight percent answer)) (Ok (plan.Credit2Dom (domain_number d) w (Some n) a))
    go true same is2 = (weight, answer, (let e2 : e.0 ≡ d = grind (arith, same) in ap {B = Result Plan Refusal} (λ (k : ℕ). Ok (plan.Credit2Dom (domain_number k) weight percent answer)) e2 ∙ ap {B = Result Plan Refusal} (λ (o : Option ℕ). Ok (plan.Credit2Dom (domain_number d) weight o answer)) is2))
    go false same is2 = absurd (cc)
sets_it d n (Ok p) is = absurd (cc)
