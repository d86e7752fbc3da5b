-- The vCPUs of a domain at the opening.
use Rattle.std.proofs.Common.{◌≡◌, ◌≤◌, ℕ, zero, suc, List, [], ◌∷◌, refl, sym, subst, length}
use Rattle.std.specs.Prelude.{Some, None, map, slice_get}
use Rattle.std.specs.List.{All, AllByRecursion}
use Rattle.std.proofs.lemmas.List.{length-map}
use Rattle.std.proofs.lemmas.List.Elements.{recursion_from_All}
use Rattle.sched_base.specs.declared.Span.{Span}
use Rattle.sched_model.specs.declared.config.DomConfig.{DomConfig}
use Rattle.sched_model.specs.declared.state.Vcpu.{Vcpu}
use Rattle.sched_model.specs.CheckedMachine.{IsCheckedScript}
use Rattle.sched_model.specs.Opening.{vcpu_at_opening, domain_at_opening}
use Rattle.unit_state.specs.Parts.{HasGuests, IsGuest, IsStill}
use Rattle.unit_state.proofs.GuestLemmas.{guest_fresh}

-- each vCPU of a domain is one at the opening
fresh_at : (guests : List (List Span)) → AllByRecursion IsCheckedScript guests → (n : ℕ) (x : Vcpu) → slice_get (map vcpu_at_opening guests) n ≡ Some x → IsGuest 0 x × (x.started ≡ None)
fresh_at [] each n x at = absurd (cc)
fresh_at (script ∷ guests) each zero x at =
    let e : ◌≡◌ {A = Vcpu} (vcpu_at_opening script) x = cc in
    subst (λ (y : Vcpu). IsGuest 0 y × (y.started ≡ None)) e (guest_fresh script each.0, refl)
fresh_at (script ∷ guests) each (suc n) x at = fresh_at guests each.1 n x at

module _ (joining : DomConfig) (scripts : All IsCheckedScript joining.guests) where
  count : length (domain_at_opening joining).vcpus ≡ length joining.guests
  count = length-map joining.guests vcpu_at_opening

  -- a domain at the opening has 1 to 32 vCPUs, none of which is started
  pub fresh_guests : 1 ≤ length joining.guests → length joining.guests ≤ 32 → HasGuests 0 (domain_at_opening joining)
  fresh_guests some few = record {
    some = subst (λ (k : ℕ). 1 ≤ k) (sym count) some;
    few = subst (λ (k : ℕ). k ≤ 32) (sym count) few;
    vcpus = λ n x at. (fresh_at joining.guests (recursion_from_All IsCheckedScript joining.guests scripts) n x at).0;
  }

  pub fresh_still : IsStill (domain_at_opening joining)
  fresh_still n x at = (fresh_at joining.guests (recursion_from_All IsCheckedScript joining.guests scripts) n x at).1
