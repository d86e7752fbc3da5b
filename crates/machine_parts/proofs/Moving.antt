-- The move of what is on its way, told by the tool and by the pool that it leaves.
use Rattle.std.proofs.Common.{◌≡◌, ◌≤◌, ℕ, Bool, true, false, List, refl, sym, ap, subst, arith, ◌∙◌, cond}
use Rattle.std.specs.Prelude.{Option, Some, None, option_map, is_some, ◌||◌}
use Rattle.sched_base.specs.Numbers.{core as core_number, pool as pool_number}
use Rattle.sched_base.specs.declared.PoolId.{PoolId}
use Rattle.sched_base.specs.declared.ResId.{ResId}
use Rattle.sched_model.specs.declared.action.Action.TheVariants.{Moved}
use Rattle.sched_model.specs.declared.event.Entry.{Entry}
use Rattle.sched_model.specs.declared.machine.Machine.{Machine}
use Rattle.sched_model.specs.declared.state.FreeCore.{FreeCore}
use Rattle.sched_model.specs.declared.state.State.{State}
use Rattle.sched_model.specs.Actions.{home_pool_of_core}
use Rattle.sched_model.specs.CheckedMachine.{IsChecked}
use Rattle.sched_model.specs.Machine.{is_action_enabled, enabled_at_home, is_free_core_ready}
use Rattle.sched_model.specs.Places.{at_place, test_at}
use Rattle.sched_model.specs.Runs.{IsRun}
use Rattle.sched_laws.specs.StateLaws.{state_after}
use Rattle.sched_base.proofs.Bools.{and_left}
use Rattle.sched_laws.proofs.Lists.{some-test_at}
use Rattle.sched_laws.proofs.PoolsLaw.{pools_keep_their_own}
use Rattle.journal_core.specs.Parts.{ToolPart, UnderWay, core_to, domain_to, state_under_way}
use Rattle.cpupool.specs.declared.moves.Move.TheVariants as move
use Rattle.journal_core.specs.ToolActions.{joins_at, may_join}
use Rattle.cpupool.specs.Steps.{move_of}
use Rattle.cpupool.proofs.ArrivedLemmas.{core_joins}
use Rattle.composition_laws.proofs.Counted.{in_all, in_all_is}
use Rattle.composition_laws.proofs.Whose.{joining_answers}
use Rattle.composition_laws.proofs.MoveLaw.{has_one_move}
use Rattle.composition_laws.specs.WholeFirst.{first_tool_move}
use Rattle.machine_parts.specs.Told.{Told}
use Rattle.machine_parts.specs.Places.{GoesOn, state_of}
use Rattle.machine_parts.proofs.Going.{state_of-is}
use Rattle.machine_parts.proofs.AtPlaces.{no-home}

-- what is on its way, where the program tells it so
pub core-way : (part : ToolPart) (o : Option UnderWay) (r : ResId) (to : Option PoolId) → option_map (move_of part) o ≡ Some (move.Res r to) → o ≡ Some (core_to r.0 (option_map (λ (i : PoolId). i.0) to))
core-way part None r to is = absurd (cc)
core-way part (Some (core_to k t)) r to is =
    let number : core_number k ≡ r = cc in
    let target : option_map pool_number t ≡ to = cc in
    subst (λ (x : ResId). Some (core_to k t) ≡ Some (core_to x.0 (option_map (λ (i : PoolId). i.0) to))) number
    (subst (λ (x : Option PoolId). Some (core_to k t) ≡ Some (core_to k (option_map (λ (i : PoolId). i.0) x))) target (ap (λ (x : Option ℕ). Some (core_to k x)) (back t)))
  where
    back : (t : Option ℕ) → t ≡ option_map (λ (i : PoolId). i.0) (option_map pool_number t)
    back None = refl
    back (Some i) = refl
core-way part (Some (domain_to d i)) r to is = absurd (cc)

module _ (m : Machine) (checked : IsChecked m) (entries : List Entry) (run : IsRun m entries) (t : ℕ) where
  abbrev s : State
  s = state_after m entries

  few : in_all s ≤ 1
  few = let same = in_all_is s in let most = (has_one_move m checked entries run).most in omega (arith, same, most)

  not-both : (r : ℕ) (c : FreeCore) (o : Option ℕ) → state_under_way s ≡ Some (core_to r None) → at_place s.free r ≡ Some c → c.target ≡ o → is_some o ≡ true → ⊥
  not-both r c None way at target aims = cc
  not-both r c (Some i) way at target aims =
      let joins : state_under_way s ≡ Some (core_to r (Some i)) = joining_answers s few r (record { core = c; target = i; at = at; aims = target }) in
      cc

  -- a core that leaves its pool is asked of the pool alone
  leaving-alone : (r : ℕ) → state_under_way s ≡ Some (core_to r None) → is_action_enabled m s t (Moved (core_number r)) ≡ enabled_at_home m s t (Moved (core_number r))
  leaving-alone r way = by_free (test_at s.free r (is_free_core_ready t)) refl
    where
      by_free : (b : Bool) → test_at s.free r (is_free_core_ready t) ≡ b → (b || enabled_at_home m s t (Moved (core_number r))) ≡ enabled_at_home m s t (Moved (core_number r))
      by_free false is = refl
      by_free true is =
          let f = some-test_at s.free r (is_free_core_ready t) is in
          let aims : is_some (f.0).target ≡ true = and_left (is_some (f.0).target) _ f.2 in
          absurd (not-both r (f.0) (f.0).target way f.1 refl aims)

  -- a core of no pool is asked of the tool alone
  joining-alone : (r i : ℕ) → state_under_way s ≡ Some (core_to r (Some i)) → is_action_enabled m s t (Moved (core_number r)) ≡ may_join s t
  joining-alone r i way =
      let found = core_joins s r i way in
      let none : home_pool_of_core s r ≡ None = (pools_keep_their_own m checked entries run).free r found.0 found.1 in
      ap (λ (b : Bool). test_at s.free r (is_free_core_ready t) || b) (sym (no-home m s t (Moved (core_number r)) none)) ∙ or-false (test_at s.free r (is_free_core_ready t))
      ∙ sym (ap (joins_at s t) way)
    where
      or-false : (b : Bool) → (b || false) ≡ b
      or-false true = refl
      or-false false = refl

  -- the move of what is on its way, by what is asked of it
  pub first-leaving : (r : ℕ) (ready : Bool) → state_under_way s ≡ Some (core_to r None) → ready ≡ enabled_at_home m s t (Moved (core_number r)) → cond ready (Some (Moved (core_number r))) None ≡ first_tool_move m s t (state_under_way s)
  first-leaving r ready way is = ap (λ (b : Bool). cond b (Some (Moved (core_number r))) None) (is ∙ sym (leaving-alone r way)) ∙ sym (ap (first_tool_move m s t) way)

  pub first-joining : (r i : ℕ) (ready : Bool) → state_under_way s ≡ Some (core_to r (Some i)) → ready ≡ may_join s t → cond ready (Some (Moved (core_number r))) None ≡ first_tool_move m s t (state_under_way s)
  first-joining r i ready way is = ap (λ (b : Bool). cond b (Some (Moved (core_number r))) None) (is ∙ sym (joining-alone r i way)) ∙ sym (ap (first_tool_move m s t) way)

-- the same in the state that a trail leads to
module _ (w : Told) (goes : GoesOn w) (t : ℕ) where
  pub leaving-first : (r : ℕ) (ready : Bool) → state_under_way (state_of w) ≡ Some (core_to r None) → ready ≡ enabled_at_home w.input (state_of w) t (Moved (core_number r))
      → cond ready (Some (Moved (core_number r))) None ≡ first_tool_move w.input (state_of w) t (state_under_way (state_of w))
  leaving-first r ready =
      subst (λ (s : State). state_under_way s ≡ Some (core_to r None) → ready ≡ enabled_at_home w.input s t (Moved (core_number r)) → cond ready (Some (Moved (core_number r))) None ≡ first_tool_move w.input s t (state_under_way s))
      (sym (state_of-is w)) (first-leaving w.input goes.checked w.history goes.run t r ready)

  pub joining-first : (r i : ℕ) (ready : Bool) → state_under_way (state_of w) ≡ Some (core_to r (Some i)) → ready ≡ may_join (state_of w) t
      → cond ready (Some (Moved (core_number r))) None ≡ first_tool_move w.input (state_of w) t (state_under_way (state_of w))
  joining-first r i ready =
      subst (λ (s : State). state_under_way s ≡ Some (core_to r (Some i)) → ready ≡ may_join s t → cond ready (Some (Moved (core_number r))) None ≡ first_tool_move w.input s t (state_under_way s))
      (sym (state_of-is w)) (first-joining w.input goes.checked w.history goes.run t r i ready)
