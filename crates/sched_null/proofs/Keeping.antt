-- Each change of what the cores are kept for keeps that no two cores are kept for one unit, and that each unit's core is the last one that was kept for it.
use Rattle.std.proofs.Common.{◌≡◌, ◌≢◌, ◌<◌, ◌≤◌, ℕ, zero, suc, Bool, true, false, List, [], ◌∷◌, refl, arith, subst, sym, ◌∙◌, ap, cond, inl, inr, length}
use Rattle.std.specs.Prelude.{Option, Some, None, replicate, slice_set}
use Rattle.std.proofs.lemmas.List.{length-replicate}
use Rattle.sched_base.specs.Numbers.{core as core_name}
use Rattle.sched_base.specs.declared.ResId.{ResId}
use Rattle.sched_base.specs.declared.UnitId.{UnitId}
use Rattle.sched_model.specs.Places.{at_place, clear_at, same_unit}
use Rattle.sched_model.specs.NullScheduler.{kept_without, kept_for}
use Rattle.sched_laws.proofs.Choices.{same_unit_same}
use Rattle.sched_laws.proofs.Counts.{same_unit_refl}
use Rattle.sched_laws.proofs.EachPlace.{at_place-put_at, at_place-put_at_other, at_place-replicate, read_put_at, read_clear_at, length_set}
use Rattle.sched_laws.proofs.NullKept.{read_released, length_released}
use Rattle.unit_places.specs.Places.{has_unit_place, unit_index}
use Rattle.unit_places.proofs.Placed.{low_index}
use Rattle.pool_units.proofs.Marking.{apart_index}
use Rattle.sched_null.specs.KeptCores.{IsKept, lasts_after}

abbrev Units : Type 0
Units = List (Option UnitId)

abbrev Lasts : Type 0
Lasts = List (Option ResId)

-- cores that are kept for no unit
kept_empty : (cores : ℕ) (lasts : Lasts) → cores ≤ 64 → length lasts ≡ 2048 → IsKept (replicate cores None) lasts
kept_empty cores lasts few room =
    record {
      few = (let n = count in omega (arith, few, n));
      once = λ q r u at_q at_r. absurd (none q u at_q);
      room = room;
      last = λ r u at has. absurd (none r u at);
    }
  where
    count : length (replicate {A = Option UnitId} cores None) ≡ cores
    count = length-replicate {A = Option UnitId} cores None

    none : (q : ℕ) (u : UnitId) → at_place (replicate cores None) q ≡ Some u → ⊥
    none q u at = (let e : None ≡ Some u = sym (at_place-replicate cores q) ∙ at in cc)

pub kept_fresh : (cores : ℕ) → cores ≤ 64 → IsKept (replicate cores None) (replicate 2048 None)
kept_fresh cores few = kept_empty cores (replicate 2048 None) few (length-replicate {A = Option ResId} 2048 None)

pub kept_cleared : (kept : Units) (lasts : Lasts) → IsKept kept lasts → IsKept (replicate (length kept) None) lasts
kept_cleared kept lasts is = kept_empty (length kept) lasts is.few is.room

pub kept_leave : (core : ℕ) (kept : Units) (lasts : Lasts) → IsKept kept lasts → IsKept (clear_at core kept) lasts
kept_leave core kept lasts is =
    record {
      few = (let same = length_set core None kept in let few = is.few in omega (arith, same, few));
      once = λ q r u at_q at_r. is.once q r u (read_clear_at core q kept u at_q).1 (read_clear_at core r kept u at_r).1;
      room = is.room;
      last = λ r u at has. is.last r u (read_clear_at core r kept u at).1 has;
    }

pub kept_released : (test : UnitId → Bool) (kept : Units) (lasts : Lasts) → IsKept kept lasts → IsKept (kept_without test kept) lasts
kept_released test kept lasts is =
    record {
      few = (let same = length_released test kept in let few = is.few in omega (arith, same, few));
      once = λ q r u at_q at_r. is.once q r u (read_released test kept q u at_q).0 (read_released test kept r u at_r).0;
      room = is.room;
      last = λ r u at has. is.last r u (read_released test kept r u at).0 has;
    }

not_released : (u w : UnitId) → u ≡ w → same_unit u w ≡ false → ⊥
not_released u w e other = (let same : same_unit u w ≡ true = subst (λ (x : UnitId). same_unit u x ≡ true) e (same_unit_refl u) in absurd (let f : ◌≡◌ {A = Bool} true false = sym same ∙ other in cc))

-- the last cores of the units, once the core was kept for one
length_lasts : (u : UnitId) (c : ResId) (lasts : Lasts) → length (lasts_after u c lasts) ≡ length lasts
length_lasts u c lasts = elim (has_unit_place u) as (λ b. length (cond b (slice_set lasts (unit_index u) (Some c)) lasts) ≡ length lasts) [
  | true ↦ length_set (unit_index u) (Some c) lasts
  | false ↦ refl
]

last_here : (u : UnitId) (c : ResId) (lasts : Lasts) → has_unit_place u ≡ true → unit_index u < length lasts → at_place (lasts_after u c lasts) (unit_index u) ≡ Some c
last_here u c lasts has inside = ap (λ (b : Bool). at_place (cond b (slice_set lasts (unit_index u) (Some c)) lasts) (unit_index u)) has ∙ at_place-put_at (unit_index u) c lasts inside

last_there : (u w : UnitId) (c : ResId) (lasts : Lasts) → has_unit_place w ≡ true → same_unit u w ≡ false → at_place (lasts_after u c lasts) (unit_index w) ≡ at_place lasts (unit_index w)
last_there u w c lasts has other =
    elim (has_unit_place u) as (λ b. has_unit_place u ≡ b → at_place (cond b (slice_set lasts (unit_index u) (Some c)) lasts) (unit_index w) ≡ at_place lasts (unit_index w)) [
      | true ↦ λ place. at_place-put_at_other (unit_index u) (unit_index w) c lasts (λ e. apart_index w u has place other (sym e))
      | false ↦ λ place. refl
    ] refl

pub kept_keep : (c : ResId) (u : UnitId) (kept : Units) (lasts : Lasts) → IsKept kept lasts → IsKept (kept_for c.0 u kept) (lasts_after u c lasts)
kept_keep c u kept lasts is =
    record {
      few = (let same = same_length in let few = is.few in omega (arith, same, few));
      once = λ q r w at_q at_r.
          elim (read_put_at c.0 q u (kept_without (same_unit u) kept) w at_q) [
            | inl was_q ↦ elim (read_put_at c.0 r u (kept_without (same_unit u) kept) w at_r) [
              | inl was_r ↦ is.once q r w (read_released (same_unit u) kept q w was_q).0 (read_released (same_unit u) kept r w was_r).0
              | inr is_r ↦ absurd (not_released u w is_r.1 (read_released (same_unit u) kept q w was_q).1)
            ]
            | inr is_q ↦ elim (read_put_at c.0 r u (kept_without (same_unit u) kept) w at_r) [
              | inl was_r ↦ absurd (not_released u w is_q.1 (read_released (same_unit u) kept r w was_r).1)
              | inr is_r ↦ is_q.0 ∙ sym is_r.0
            ]
          ];
      room = length_lasts u c lasts ∙ is.room;
      last = λ r w at has.
          elim (read_put_at c.0 r u (kept_without (same_unit u) kept) w at) [
            | inl was ↦ (let old = read_released (same_unit u) kept r w was in last_there u w c lasts has old.1 ∙ is.last r w old.0 has)
            | inr here ↦
                last_written r w here.1 has
                ∙ ap (λ (k : ℕ). Some (core_name k)) (sym here.0)
          ];
    }
  where
    same_length : length (kept_for c.0 u kept) ≡ length kept
    same_length = length_set c.0 (Some u) (kept_without (same_unit u) kept) ∙ length_released (same_unit u) kept

    last_written : (r : ℕ) (w : UnitId) → u ≡ w → has_unit_place w ≡ true → at_place (lasts_after u c lasts) (unit_index w) ≡ Some (core_name c.0)
    last_written r w e has =
        let mine : has_unit_place u ≡ true = subst (λ (x : UnitId). has_unit_place x ≡ true) (sym e) has in
        let room = is.room in
        let low = low_index u mine in
        subst (λ (x : UnitId). at_place (lasts_after u c lasts) (unit_index x) ≡ Some (core_name c.0)) e (last_here u c lasts mine (omega (arith, room, low)))

released_none : (u : UnitId) (kept : List (Option UnitId)) → ((q : ℕ) → at_place kept q ≡ Some u → ⊥) → kept_without (same_unit u) kept ≡ kept
released_none u [] none = refl
released_none u (None ∷ kept) none = ap (λ (ks : List (Option UnitId)). None ∷ ks) (released_none u kept (λ q at. none (suc q) at))
released_none u (Some w ∷ kept) none =
    elim (same_unit u w) as (λ b. same_unit u w ≡ b → cond b None (Some w) ∷ kept_without (same_unit u) kept ≡ Some w ∷ kept) [
      | true ↦ λ same. absurd (none 0 (ap Some (sym (same_unit_same u w same))))
      | false ↦ λ same. ap (λ (ks : List (Option UnitId)). Some w ∷ ks) (released_none u kept (λ q at. none (suc q) at))
    ] refl

-- where the core is kept for the unit and no other core is, nothing changes
keep_same : (core : ℕ) (u : UnitId) (kept : List (Option UnitId)) → ((q : ℕ) → at_place kept q ≡ Some u → q ≡ core) → at_place kept core ≡ Some u → kept_for core u kept ≡ kept
keep_same core u [] others at = absurd (cc)
keep_same zero u (o ∷ kept) others at = ap (λ (p : Option UnitId). p ∷ kept_without (same_unit u) kept) (sym at) ∙ ap (λ (ks : List (Option UnitId)). o ∷ ks) (released_none u kept (λ q there. (let e = others (suc q) there in omega (arith, e))))
keep_same (suc core) u (None ∷ kept) others at = ap (λ (ks : List (Option UnitId)). None ∷ ks) (keep_same core u kept (λ q there. (let e = others (suc q) there in omega (arith, e))) at)
keep_same (suc core) u (Some w ∷ kept) others at =
    elim (same_unit u w) as (λ b. same_unit u w ≡ b → cond b None (Some w) ∷ kept_for core u kept ≡ Some w ∷ kept) [
      | true ↦ λ same. absurd (let e = others 0 (ap Some (sym (same_unit_same u w same))) in omega (arith, e))
      | false ↦ λ same. ap (λ (ks : List (Option UnitId)). Some w ∷ ks) (keep_same core u kept (λ q there. (let e = others (suc q) there in omega (arith, e))) at)
    ] refl

pub kept_already : (core : ℕ) (u : UnitId) (kept : Units) (lasts : Lasts) → IsKept kept lasts → at_place kept core ≡ Some u → kept ≡ kept_for core u kept
kept_already core u kept lasts is at = sym (keep_same core u kept (λ q there. is.once q core u there at) at)
