-- What a change of one RTDS unit's record makes of the records, and burning of a record.
use Rattle.std.proofs.Common.{◌≡◌, ◌≢◌, ℕ, false, List, refl, arith, ap, subst, sym, ◌∙◌}
use Rattle.std.proofs.Math.Decide.{ℕ_discrete}
use Rattle.std.specs.Prelude.{Option, Some, None, is_some, slice_get, option_map}
use Rattle.sched_base.specs.declared.UnitId.{UnitId}
use Rattle.sched_model.specs.Places.{at_place, change_at, change_item, same_unit}
use Rattle.sched_model.specs.declared.state.Records.TheVariants.{RtdsPool}
use Rattle.sched_model.specs.declared.state.RtdsUnit.{RtdsUnit}
use Rattle.sched_model.specs.EligibleUnits.{rtds_unit_at}
use Rattle.sched_model.specs.Rtds.{unit_burned_to, change_unit}
use Rattle.sched_laws.proofs.EachPlace.{at_place-change_at, at_place-set_other, by_option}
use Rattle.sched_laws.proofs.Lists.{slice_get-change_item, slice_get-change_item_other}

-- the records of a pool are its own
pub rtds_same : (a b : List (Option (List RtdsUnit))) → RtdsPool a ≡ RtdsPool b → a ≡ b
rtds_same a b same = cc

-- the unit's record after a change of it
rtds_unit-changed : (u : UnitId) (f : RtdsUnit → RtdsUnit) (domains : List (Option (List RtdsUnit))) → rtds_unit_at (change_unit u f domains) u ≡ option_map f (rtds_unit_at domains u)
rtds_unit-changed u f domains =
    ap (λ (o : Option (List RtdsUnit)). elim o as (λ _. Option RtdsUnit) [ None ↦ None | Some units ↦ slice_get units u.n ]) (at_place-change_at u.dom.0 (change_item u.n f) domains)
    ∙ there (at_place domains u.dom.0)
  where
    there : (o : Option (List RtdsUnit))
        → elim (option_map (change_item u.n f) o) as (λ _. Option RtdsUnit) [ None ↦ None | Some units ↦ slice_get units u.n ] ≡ option_map f (elim o as (λ _. Option RtdsUnit) [ None ↦ None | Some units ↦ slice_get units u.n ])
    there None = refl
    there (Some units) = slice_get-change_item u.n f units

pub rtds_unit-same : (u : UnitId) (f : RtdsUnit → RtdsUnit) (domains : List (Option (List RtdsUnit))) (x : RtdsUnit) → rtds_unit_at domains u ≡ Some x → rtds_unit_at (change_unit u f domains) u ≡ Some (f x)
rtds_unit-same u f domains x at = rtds_unit-changed u f domains ∙ ap (option_map f) at

pub rtds_unit-none : (u : UnitId) (f : RtdsUnit → RtdsUnit) (domains : List (Option (List RtdsUnit))) → rtds_unit_at domains u ≡ None → rtds_unit_at (change_unit u f domains) u ≡ None
rtds_unit-none u f domains at = rtds_unit-changed u f domains ∙ ap (option_map f) at

-- and after one of another unit
pub rtds_unit-other : (w u : UnitId) (f : RtdsUnit → RtdsUnit) (domains : List (Option (List RtdsUnit))) → same_unit w u ≡ false → rtds_unit_at (change_unit w f domains) u ≡ rtds_unit_at domains u
rtds_unit-other w u f domains other =
    elim (ℕ_discrete w.dom.0 u.dom.0) [
      | yes e ↦ (
          let n : w.n ≢ u.n = λ e2. (grind (arith, e, e2, other)) in
          subst (λ (d : ℕ). elim (at_place (change_at w.dom.0 (change_item w.n f) domains) d) as (λ _. Option RtdsUnit) [ None ↦ None | Some units ↦ slice_get units u.n ] ≡ elim (at_place domains d) as (λ _. Option RtdsUnit) [ None ↦ None | Some units ↦ slice_get units u.n ]) e
          (ap (λ (o : Option (List RtdsUnit)). elim o as (λ _. Option RtdsUnit) [ None ↦ None | Some units ↦ slice_get units u.n ]) (at_place-change_at w.dom.0 (change_item w.n f) domains)
          ∙ there (at_place domains w.dom.0) n))
      | no ne ↦ ap (λ (o : Option (List RtdsUnit)). elim o as (λ _. Option RtdsUnit) [ None ↦ None | Some units ↦ slice_get units u.n ]) (at_place-set_other w.dom.0 u.dom.0 _ domains ne)
    ]
  where
    there : (o : Option (List RtdsUnit)) → w.n ≢ u.n → elim (option_map (change_item w.n f) o) as (λ _. Option RtdsUnit) [ None ↦ None | Some units ↦ slice_get units u.n ] ≡ elim o as (λ _. Option RtdsUnit) [ None ↦ None | Some units ↦ slice_get units u.n ]
    there None n = refl
    there (Some units) n = slice_get-change_item_other w.n u.n f units n

-- whether a unit burns since a moment does not change as it burns
pub burned_on : (t : ℕ) (x : RtdsUnit) → is_some (unit_burned_to t x).burned ≡ is_some x.burned
burned_on t x = by_option (λ (y : RtdsUnit). is_some y.burned ≡ is_some x.burned) x.burned _ _ (λ is. refl) (λ from is. ap (λ (o : Option ℕ). is_some o) (sym is))
