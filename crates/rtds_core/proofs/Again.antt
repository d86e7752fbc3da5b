-- A unit that is chosen again goes on as it is.
use Rattle.std.proofs.Common.{◌≡◌, ℕ, zero, suc, Bool, true, List, [], ◌∷◌, refl, subst, sym, ap, ◌∙◌}
use Rattle.std.specs.Prelude.{Option, Some, None, option_map, slice_get, slice_set, is_some, ◌||◌, if◌then◌else◌}
use Rattle.std.specs.Option.{ForSome, IfSome}
use Rattle.std.proofs.Math.Bool.{or-true}
use Rattle.sched_base.specs.Numbers.{moment}
use Rattle.sched_base.specs.declared.Cores.{Cores}
use Rattle.sched_base.specs.declared.Moment.{Moment}
use Rattle.sched_base.specs.declared.UnitId.{UnitId}
use Rattle.sched_base.proofs.Bools.{clash}
use Rattle.sched_model.specs.Places.{at_place, change_at, change_item, has_listed_unit}
use Rattle.sched_model.specs.Pool.{same_choice}
use Rattle.sched_model.specs.EligibleUnits.{rtds_unit_at}
use Rattle.sched_model.specs.declared.state.RtdsUnit.{RtdsUnit}
use Rattle.sched_model.specs.Rtds.{change_unit, unit_burned_to, own_burned_domains, running_domains, off_domains}
use Rattle.sched_laws.proofs.Choices.{same_unit_same}
use Rattle.sched_laws.proofs.EachPlace.{by_option}
use Rattle.sched_laws.proofs.RtdsUnits.{rtds_unit-same}
use Rattle.due_heap.specs.Dues.{armed_moment}
use Rattle.unit_places.specs.Places.{unit_index}
use Rattle.rtds_queue.specs.Lists.{Lists, after_remove}
use Rattle.rtds_core.specs.Alarms.{with_due}
use Rattle.rtds_core.specs.Best.{queue_of, deadline_in, run_from, queues_without, dues_with, dues_without, IsCharged}
use Rattle.rtds_core.specs.RtdsParts.{IsKept}
use Rattle.rtds_core.proofs.Changed.{low_unit}
use Rattle.rtds_core.proofs.Chosen.{IsOwnUnit, kept_charged}
use Rattle.rtds_core.proofs.Steps.{tells_waiting}
use Rattle.rtds_core.proofs.Timing.{due_of_record}

-- a moment that is taken away and set again
due_again : (i : ℕ) (between : Option Moment) (at : Moment) (dues : List (Option Moment)) → armed_moment dues i ≡ Some at → slice_set (slice_set dues i between) i (Some at) ≡ dues
due_again i between at [] is = refl
due_again zero between at (o ∷ dues) is = ap (λ (p : Option Moment). p ∷ dues) (sym is)
due_again (suc i) between at (o ∷ dues) is = ap (λ (ds : List (Option Moment)). o ∷ ds) (due_again i between at dues is)

-- an item that is changed, and changed back
item_again : (n : ℕ) (f g : RtdsUnit → RtdsUnit) (xs : List RtdsUnit) (x : RtdsUnit) → slice_get xs n ≡ Some x → f (g x) ≡ x → change_item n f (change_item n g xs) ≡ xs
item_again n f g [] x there same = refl
item_again zero f g (y ∷ xs) x there same =
    let e : y ≡ x = cc in
    subst (λ (z : RtdsUnit). f (g z) ∷ xs ≡ z ∷ xs) (sym e) (ap (λ (z : RtdsUnit). z ∷ xs) same)
item_again (suc n) f g (y ∷ xs) x there same = ap (λ (ys : List RtdsUnit). y ∷ ys) (item_again n f g xs x there same)

place_again : {X : Type 0} (d : ℕ) (f g : X → X) (places : List (Option X)) → option_map f (option_map g (at_place places d)) ≡ at_place places d → change_at d f (change_at d g places) ≡ places
place_again d f g [] same = refl
place_again {X} zero f g (o ∷ places) same = ap (λ (p : Option X). p ∷ places) same
place_again {X} (suc d) f g (o ∷ places) same = ap (λ (ps : List (Option X)). o ∷ ps) (place_again d f g places same)

unit_again : (u : UnitId) (f g : RtdsUnit → RtdsUnit) (domains : List (Option (List RtdsUnit))) (x : RtdsUnit) → rtds_unit_at domains u ≡ Some x → f (g x) ≡ x → change_unit u f (change_unit u g domains) ≡ domains
unit_again u f g domains x there same = place_again u.dom.0 (change_item u.n f) (change_item u.n g) domains (by_place (at_place domains u.dom.0) there)
  where
    by_place : (o : Option (List RtdsUnit)) → (elim o as (λ _. Option RtdsUnit) [ None ↦ None | Some units ↦ slice_get units u.n ]) ≡ Some x → option_map (change_item u.n f) (option_map (change_item u.n g) o) ≡ o
    by_place None is = refl
    by_place (Some units) is = ap (λ (us : List RtdsUnit). Some us) (item_again u.n f g units x is same)

module _ (at : ℕ) (domains : List (Option (List RtdsUnit))) (q : Lists) (dues : List (Option Moment)) where
  own_domains : (u : UnitId) → IsCharged at domains q dues u → running_domains (Some at) u (running_domains None u domains) ≡ domains
  own_domains u is =
      unit_again u (λ (x : RtdsUnit). record x { burned = Some at }) (λ (x : RtdsUnit). record x { burned = None }) domains is.unit is.there
      (ap (λ (b : Option ℕ). record is.unit { burned = b }) (sym is.on))

  own_dues : (u : UnitId) → IsCharged at domains q dues u → with_due u (Some (moment (deadline_in (running_domains None u domains) u))) (with_due u None dues) ≡ dues
  own_dues u is =
      let late : deadline_in (running_domains None u domains) u ≡ is.unit.deadline =
      ap (λ (o : Option RtdsUnit). elim o as (λ _. ℕ) [ None ↦ 0 | Some x ↦ x.deadline ]) (rtds_unit-same u (λ (x : RtdsUnit). record x { burned = None }) domains is.unit is.there) in
      ap (λ (d : ℕ). with_due u (Some (moment d)) (with_due u None dues)) late ∙ due_again (unit_index u) None (moment is.unit.deadline) dues is.armed

  -- the records, the queues and the moments stay
  pub domains_again : (cur chosen : Option UnitId) → same_choice chosen cur ≡ true → ForSome cur (IsCharged at domains q dues) → run_from at chosen (off_domains cur domains) ≡ domains
  domains_again None None same own = refl
  domains_again None (Some w) same own = absurd (cc)
  domains_again (Some u) None same own = absurd (cc)
  domains_again (Some u) (Some w) same own =
      subst (λ (v : UnitId). running_domains (Some at) v (running_domains None u domains) ≡ domains) (sym (same_unit_same w u same)) (own_domains u (own u refl))

  pub queues_again : (cur chosen : Option UnitId) → same_choice chosen cur ≡ true → ForSome cur (IsCharged at domains q dues) → queues_without chosen q ≡ q
  queues_again None None same own = refl
  queues_again None (Some w) same own = absurd (cc)
  queues_again (Some u) None same own = absurd (cc)
  queues_again (Some u) (Some w) same own =
      subst (λ (v : UnitId). queues_without (Some v) q ≡ q) (sym (same_unit_same w u same)) (ap (λ (b : Bool). if b then after_remove q u else q) (own u refl).waits_not)

  pub dues_again : (cur chosen : Option UnitId) → same_choice chosen cur ≡ true → ForSome cur (IsCharged at domains q dues) → dues_with (off_domains cur domains) chosen (dues_without cur dues) ≡ dues
  dues_again None None same own = refl
  dues_again None (Some w) same own = absurd (cc)
  dues_again (Some u) None same own = absurd (cc)
  dues_again (Some u) (Some w) same own =
      subst (λ (v : UnitId). with_due v (Some (moment (deadline_in (running_domains None u domains) v))) (with_due u None dues) ≡ dues) (sym (same_unit_same w u same)) (own_dues u (own u refl))

burned_now : (t : ℕ) (x : RtdsUnit) → is_some x.burned ≡ true → (unit_burned_to t x).burned ≡ Some t
burned_now t x on = by_option (λ (y : RtdsUnit). y.burned ≡ Some t) x.burned _ _ (λ is. absurd (clash (is_some x.burned) on (ap (λ (o : Option ℕ). is_some o) is))) (λ from is. refl)

module _ (affinity : List (Option (List Cores))) (q : Lists) (masks : List Cores) (spare t : ℕ) where
  -- the core's own unit after its charge
  pub is_charged : (cur : Option UnitId) (domains : List (Option (List RtdsUnit))) (dues : List (Option Moment)) → IfSome cur (IsOwnUnit domains q) → IsKept domains affinity q masks dues spare t → ForSome cur (IsCharged t (own_burned_domains cur t domains) q dues)
  is_charged None domains dues own kept u is = absurd (cc)
  is_charged (Some w) domains dues own kept u is =
      let e : w ≡ u = cc in
      let burned : List (Option (List RtdsUnit)) = change_unit w (unit_burned_to t) domains in
      let x : RtdsUnit = unit_burned_to t own.unit in
      let there : rtds_unit_at burned w ≡ Some x = rtds_unit-same w (unit_burned_to t) domains own.unit own.at in
      let charged = kept_charged affinity q masks spare t (Some w) domains dues own kept in
      let on : x.burned ≡ Some t = burned_now t own.unit own.on in
      subst (IsCharged t burned q dues) e (record {
        unit = x;
        there = there;
        on = on;
        waits_not = sym (tells_waiting burned affinity q masks dues spare t w x charged there) ∙ own.waits_not;
        armed =
            charged.armed.each w (low_unit burned affinity w x charged.shape there).index ∙ due_of_record (queue_of q) burned w x there
            ∙ ap (λ (o : Option ℕ). if has_listed_unit (queue_of q) w || is_some o then Some (moment x.deadline) else None) on
            ∙ ap (λ (b : Bool). if b then Some (moment x.deadline) else None) (or-true (has_listed_unit (queue_of q) w));
      })
