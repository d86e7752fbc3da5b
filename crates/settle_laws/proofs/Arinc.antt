-- A decision of an ARINC 653 core: only the window's unit may have a core, and it is the one that is chosen, or does not wait.
use Rattle.std.proofs.Common.{◌≡◌, ℕ, Bool, true, false, not, List, refl, sym, ap, subst, ◌∙◌, cond}
use Rattle.std.specs.Prelude.{Option, Some, None, ◌&&◌, ◌||◌}
use Rattle.sched_base.proofs.Bools.{and_false}
use Rattle.sched_base.specs.declared.Cores.{Cores}
use Rattle.sched_base.specs.declared.UnitId.{UnitId}
use Rattle.sched_model.specs.declared.state.ArincRecords.{ArincRecords}
use Rattle.sched_model.specs.declared.state.Records.{Records}
use Rattle.sched_model.specs.declared.state.Records.TheVariants.{ArincPool}
use Rattle.sched_model.specs.declared.state.Scheduler.{Scheduler}
use Rattle.sched_model.specs.declared.ask.Ask.{Ask}
use Rattle.sched_model.specs.Arinc.{Window, current_window, current_window_unit}
use Rattle.sched_model.specs.Places.{has_listed_unit, is_unit, same_unit}
use Rattle.sched_model.specs.EligibleUnits.{Decision, is_unit_allowed, is_unit_eligible, may_have_core}
use Rattle.sched_model.specs.Policy.{after_decision, arinc_decision, window_choice, decision_of, is_unit_better}
use Rattle.sched_laws.proofs.Choices.{same_unit_same}
use Rattle.settle_laws.specs.Wanted.{waits_for}
use Rattle.settle_laws.proofs.Waiting.{Left}
use Rattle.settle_laws.proofs.Spares.{Spares, others_from, own_from}

-- what a waiting unit asks for
abbrev asks_for : Option UnitId → UnitId → Bool → Bool → Bool
asks_for None w allowed mine = allowed && mine
asks_for (Some x) w allowed mine = (allowed && mine) && not (same_unit w x)

waits_is : (s : Scheduler) (records : ArincRecords) (cur : Option UnitId) (since t k home : ℕ) (w : UnitId) → s.records ≡ ArincPool records
    → waits_for cur since t k home s w ≡ asks_for cur w (is_unit_allowed s home k w) (is_unit (current_window_unit records t) w)
waits_is s records None since t k home w is = ap (λ (r : Records). is_unit_allowed s home k w && may_have_core r s home k t w) is
waits_is s records (Some x) since t k home w is = ap (λ (r : Records). (is_unit_allowed s home k w && may_have_core r s home k t w) && is_unit_better r x since t w) is

module _ (ask : Ask) (queue : List UnitId) (affinity : List (Option (List Cores))) (records : ArincRecords) where
  abbrev s : Scheduler
  s = record { queue = queue; affinity = affinity; records = ArincPool records }

  records_are : (o : Option Window) → (arinc_decision ask s o).records ≡ ArincPool records
  records_are None = refl
  records_are (Some window) = refl

  abbrev own_of : Option Window → Option UnitId
  own_of o = elim o [ None ↦ None | Some window ↦ window.unit ]

  -- the window's unit does not wait for the core that asks
  module _ (since : ℕ) (w : UnitId) where
    abbrev Quiet : Decision → Type 0
    Quiet d = Left d.unit queue w → waits_for d.unit since ask.at.0 ask.core.0 ask.home.0 (after_decision d s) w ≡ false

    no_unit : (d : Decision) → d.records ≡ ArincPool records → d.unit ≡ None → current_window_unit records ask.at.0 ≡ None → Quiet d
    no_unit d is none window left =
        ap (λ (o : Option UnitId). waits_for o since ask.at.0 ask.core.0 ask.home.0 (after_decision d s) w) none
        ∙ waits_is (after_decision d s) records None since ask.at.0 ask.core.0 ask.home.0 w is
        ∙ ap (λ (o : Option UnitId). is_unit_allowed s ask.home.0 ask.core.0 w && is_unit o w) window
        ∙ and_false (is_unit_allowed s ask.home.0 ask.core.0 w)

    picked : (u : UnitId) (d : Decision) → d.records ≡ ArincPool records → d.unit ≡ Some u → current_window_unit records ask.at.0 ≡ Some u → Quiet d
    picked u d is some window left =
        let other : same_unit u w ≡ false = ap (λ (o : Option UnitId). is_unit o w) (sym some) ∙ left.other in
        ap (λ (o : Option UnitId). waits_for o since ask.at.0 ask.core.0 ask.home.0 (after_decision d s) w) some
        ∙ waits_is (after_decision d s) records (Some u) since ask.at.0 ask.core.0 ask.home.0 w is
        ∙ ap (λ (o : Option UnitId). (is_unit_allowed s ask.home.0 ask.core.0 w && is_unit o w) && not (same_unit w u)) window
        ∙ ap (λ (b : Bool). (is_unit_allowed s ask.home.0 ask.core.0 w && b) && not (same_unit w u)) other
        ∙ ap (λ (b : Bool). b && not (same_unit w u)) (and_false (is_unit_allowed s ask.home.0 ask.core.0 w))

    passed : (u : UnitId) (d : Decision) → d.records ≡ ArincPool records → d.unit ≡ None → current_window_unit records ask.at.0 ≡ Some u
        → (has_listed_unit queue u && is_unit_eligible s ask.home.0 ask.core.0 ask.at.0 u) ≡ false → Quiet d
    passed u d is none window fails left =
        ap (λ (o : Option UnitId). waits_for o since ask.at.0 ask.core.0 ask.home.0 (after_decision d s) w) none
        ∙ waits_is (after_decision d s) records None since ask.at.0 ask.core.0 ask.home.0 w is
        ∙ ap (λ (o : Option UnitId). is_unit_allowed s ask.home.0 ask.core.0 w && is_unit o w) window
        ∙ by_same (same_unit u w) refl
      where
        by_same : (b : Bool) → same_unit u w ≡ b → (is_unit_allowed s ask.home.0 ask.core.0 w && b) ≡ false
        by_same false is = and_false (is_unit_allowed s ask.home.0 ask.core.0 w)
        by_same true is =
            let e : u ≡ w = same_unit_same u w is in
            let waits : has_listed_unit queue u ≡ true = subst (λ (x : UnitId). has_listed_unit queue x ≡ true) (sym e) left.waits in
            let mine : is_unit (current_window_unit records ask.at.0) u ≡ true = ap (λ (o : Option UnitId). is_unit o u) window ∙ subst (λ (x : UnitId). same_unit u x ≡ true) (sym e) is in
            ap (λ (x : UnitId). is_unit_allowed s ask.home.0 ask.core.0 x && true) (sym e)
            ∙ ap (λ (b : Bool). is_unit_allowed s ask.home.0 ask.core.0 u && b) (sym mine)
            ∙ sym (ap (λ (b : Bool). b && is_unit_eligible s ask.home.0 ask.core.0 ask.at.0 u) waits)
            ∙ fails

    quiet : (o : Option Window) → current_window records ask.at.0 ≡ o → Quiet (arinc_decision ask s o)
    quiet None is = no_unit (arinc_decision ask s None) refl refl (ap own_of is)
    quiet (Some window) is = by_unit window.unit refl
      where
        by_unit : (o : Option UnitId) → window.unit ≡ o → Quiet (arinc_decision ask s (Some window))
        by_unit None none = no_unit (arinc_decision ask s (Some window)) refl (ap (window_choice ask s) none) (ap own_of is ∙ none)
        by_unit (Some u) some =
            elim (goes || waits) as (λ b. (goes || waits) ≡ b → Quiet (arinc_decision ask s (Some window))) [
              | true ↦ λ may. picked u (arinc_decision ask s (Some window)) refl (ap (window_choice ask s) some ∙ ap (λ (b : Bool). cond b (Some u) None) may) (ap own_of is ∙ some)
              | false ↦ λ may. passed u (arinc_decision ask s (Some window)) refl (ap (window_choice ask s) some ∙ ap (λ (b : Bool). cond b (Some u) None) may) (ap own_of is ∙ some) (last goes waits may)
            ] refl
          where
            goes : Bool
            goes = is_unit ask.cur u && ask.runnable

            waits : Bool
            waits = has_listed_unit queue u && is_unit_eligible s ask.home.0 ask.core.0 ask.at.0 u

            last : (a b : Bool) → (a || b) ≡ false → b ≡ false
            last true b none = absurd (cc)
            last false b none = none

  abbrev decision : Decision
  decision = decision_of ask s

  same_window : ask.leaving ≡ false → decision ≡ arinc_decision ask s (current_window records ask.at.0)
  same_window stays = ap (λ (b : Bool). arinc_decision ask s (cond b None (current_window records ask.at.0))) stays

  pub arinc_spares : ((u : UnitId) → decision.unit ≡ Some u → is_unit_allowed s ask.home.0 ask.core.0 u ≡ true) → Spares ask s
  arinc_spares allowed = record {
    others = λ k cur since other apart is. others_from decision s k ask.at.0 ask.home.0 cur since (λ w left waits.
        waits_is s records cur since ask.at.0 k ask.home.0 w refl
        ∙ sym (waits_is (after_decision decision s) records cur since ask.at.0 k ask.home.0 w (records_are _))
        ∙ waits) is;
    own = λ since stays fits. own_from decision s ask.core.0 ask.at.0 ask.home.0 since allowed
        (λ w. subst (λ (d : Decision). Left d.unit queue w → waits_for d.unit since ask.at.0 ask.core.0 ask.home.0 (after_decision d s) w ≡ false) (sym (same_window stays)) (quiet since w (current_window records ask.at.0) refl));
  }
