-- The set values of a domain's units, told one after another.
use Rattle.std.proofs.Common.{◌≡◌, ◌≤◌, ◌<◌, ◌+◌, ◌-◌, ◌*◌, ℕ, suc, true, List, [], ◌∷◌, ◌++◌, refl, sym, ap, subst, ◌∙◌, arith, append_assoc, inl, inr, length, length-append, map}
use Rattle.std.specs.Prelude.{Option, Some, None}
use Rattle.std.proofs.lemmas.Bool.{lt-ltb}
use Rattle.std.proofs.lemmas.List.{map-append}
use Rattle.std.proofs.Math.Nat.{div-le_of_le-mul}
use Rattle.sched_model.specs.declared.facts.Stored.{Stored}
use Rattle.sched_model.specs.declared.state.Domain.{Domain}
use Rattle.sched_model.specs.declared.state.Records.{Records}
use Rattle.sched_model.specs.declared.state.Scheduler.{Scheduler}
use Rattle.sched_model.specs.CheckedMachine.{IsGranularity}
use Rattle.sched_model.specs.Places.{at_place, numbers_from}
use Rattle.sched_ops.specs.Conditions.{is_member}
use Rattle.sched_ops.specs.Seen.{units_of}
use Rattle.sched_model.specs.Policy.{unit_stored}
use Rattle.unit_state.specs.Guests.{KeepsGuests}
use Rattle.unit_state.specs.Seen.{Seen, units_at}
use Rattle.sched_base.specs.Units.{unit_id}
use Rattle.pool_core.specs.Params.{stored_units}

-- these are the values of the units before n; those of the units up to count are to follow
pub record AreTold (records : Records) (d n count : ℕ) (units : List Stored) : Type 0 where
  pub so_far : map Some units ++ stored_units records d (numbers_from n (count - n)) ≡ stored_units records d (numbers_from 0 count)
  pub told : length units ≡ n

-- one unit more
pub told_next : (records : Records) (d n count : ℕ) (x : Stored) (units after : List Stored) → n < count → AreTold records d n count units → unit_stored records (unit_id d n) ≡ Some x → after ≡ units ++ x ∷ []
    → AreTold records d (n + 1) count after
told_next records d n count x units after low are value more = record {
  so_far =
      let next : n + 1 ≡ suc n = omega arith in
      let left : suc (count - (n + 1)) ≡ count - n = omega (arith, low) in
      let rest : List (Option Stored) = stored_units records d (numbers_from (n + 1) (count - (n + 1))) in
      ap (λ (xs : List Stored). map Some xs ++ rest) more
      ∙ ap (λ (os : List (Option Stored)). os ++ rest) (map-append Some units (x ∷ []))
      ∙ append_assoc (map Some units) (Some x ∷ []) rest
      ∙ ap (λ (o : Option Stored). map Some units ++ o ∷ rest) (sym value)
      ∙ ap (λ (k : ℕ). map Some units ++ unit_stored records (unit_id d n) ∷ stored_units records d (numbers_from k (count - (n + 1)))) next
      ∙ ap (λ (k : ℕ). map Some units ++ stored_units records d (numbers_from n k)) left
      ∙ are.so_far;
  told = ap length more ∙ length-append units (x ∷ []) ∙ ap (λ (k : ℕ). k + 1) are.told;
}

-- a domain has at most 32 units
pub few_units : (seen : Seen) (d : ℕ) → KeepsGuests seen → units_at seen.granularity (at_place seen.domains d) ≤ 32
few_units seen d keeps = by_domain (at_place seen.domains d) refl
  where
    by_domain : (o : Option Domain) → at_place seen.domains d ≡ o → units_at seen.granularity o ≤ 32
    by_domain None e = omega arith
    by_domain (Some x) e = div-le_of_le-mul seen.granularity (by_granularity seen.granularity keeps.granularity)
      where
        few : length x.vcpus ≤ 32
        few = (keeps.guests d x e).few

        by_granularity : (g : ℕ) → IsGranularity g → length x.vcpus + g - 1 ≤ g * 32
        by_granularity g (inl one) = subst (λ (k : ℕ). length x.vcpus + k - 1 ≤ k * 32) (sym one) (omega (arith, few))
        by_granularity g (inr (inl two)) = subst (λ (k : ℕ). length x.vcpus + k - 1 ≤ k * 32) (sym two) (omega (arith, few))
        by_granularity g (inr (inr four)) = subst (λ (k : ℕ). length x.vcpus + k - 1 ≤ k * 32) (sym four) (omega (arith, few))

-- each of as many units as the scheduler knows has joined
pub all_members : (scheduler : Scheduler) (d count : ℕ) → count ≡ units_of scheduler d → (n : ℕ) → n < count → is_member scheduler (unit_id d n) ≡ true
all_members scheduler d count known n low = lt-ltb n (units_of scheduler d) (subst (λ (k : ℕ). n < k) known low)
