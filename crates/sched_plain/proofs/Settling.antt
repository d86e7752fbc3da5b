-- Which pools are settled after an event.
use Rattle.std.proofs.Common.{◌≡◌, ◌<◌, ℕ, zero, suc, Bool, true, false, not, List, refl, sym, ap, subst, ◌∙◌}
use Rattle.std.specs.Prelude.{Option, Some, None, ◌&&◌, replicate, slice_index_or, slice_set, length}
use Rattle.std.proofs.Math.Decide.{ℕ_discrete}
use Rattle.std.proofs.lemmas.List.{get_or-set_other}
use Rattle.sched_base.proofs.Bools.{and_left, and_right, not_false}
use Rattle.sched_model.specs.declared.action.Action.{Action}
use Rattle.sched_model.specs.declared.action.Action.TheVariants.{Arrive, Leave, Block, Slice, Decide}
use Rattle.sched_base.specs.declared.ResId.{ResId}
use Rattle.sched_model.specs.declared.state.Pool.{Pool}
use Rattle.sched_model.specs.declared.state.Resource.{Resource}
use Rattle.sched_model.specs.Places.{at_place}
use Rattle.sched_model.specs.Pool.{after_decide, after_in, core_ask, settled_pool}
use Rattle.sched_laws.proofs.EachPlace.{at_place-put_at, at_place-put_at_other, place_below}
use Rattle.sched_laws.proofs.Lists.{some_same}
use Rattle.pool_laws.specs.CoreLooks.{IsSettled}
use Rattle.pool_laws.proofs.Settled.{settled_again}
use Rattle.settle_laws.specs.Frees.{is_decision_spared, may_free}
use Rattle.settle_laws.proofs.Decides.{decides}
use Rattle.settle_laws.proofs.Freeing.{frees_nothing}
use Rattle.settle_laws.proofs.Tests.{not_true}
use Rattle.settle_laws.proofs.Spared.{spared_arrive, spared_leave, spared_block, spared_slice}
use Rattle.sched_plain.specs.SettledPools.{AreSettled, MayDecide, is_spared}

no_mark : (n i : ℕ) → slice_index_or (replicate n false) i false ≡ false
no_mark zero i = refl
no_mark (suc n) zero = refl
no_mark (suc n) (suc i) = no_mark n i

-- where no pool has a mark
pub none_settled : (t : ℕ) (pools : List (Option Pool)) (marks : List Bool) → marks ≡ replicate 16 false → AreSettled t pools marks
none_settled t pools marks none = record {
  each = λ i pool marked at. absurd (
      let clash : true ≡ false = sym marked ∙ ap (λ (ms : List Bool). slice_index_or ms i false) none ∙ no_mark 16 i in
      cc);
}

-- a decision after which nothing is to be looked at
spared_decide : (g t : ℕ) (r : ResId) (pool : Pool) → MayDecide g pool → IsSettled t pool → is_decision_spared pool.resources r.0 pool.scheduler.records ≡ true → IsSettled t (after_in g t pool (Decide r))
spared_decide g t r pool may before is = by_place (at_place pool.resources r.0) refl is
  where
    by_place : (o : Option Resource) → at_place pool.resources r.0 ≡ o → elim o as (λ _. Bool) [ None ↦ true | Some c ↦ not (may_free c.cur c.leaving pool.scheduler.records) ] ≡ true → IsSettled t (after_in g t pool (Decide r))
    by_place None at e = subst (λ (o : Option Resource). IsSettled t (elim o as (λ _. Pool) [ None ↦ pool | Some c ↦ after_decide g t r.0 c pool ])) (sym at) before
    by_place (Some c) at e = decides g t r.0 c pool at may.known may.units may.once (frees_nothing (core_ask g t pool r.0 c) pool.scheduler (not_true (may_free c.cur c.leaving pool.scheduler.records) e)) before

-- an event after which nothing is to be looked at
pub spared : (g t : ℕ) (pool : Pool) (action : Action) → MayDecide g pool → IsSettled t pool → is_spared action pool ≡ true → IsSettled t (after_in g t pool action)
spared g t pool (Arrive p) may before is = spared_arrive g t pool before p.0
spared g t pool (Leave p) may before is = spared_leave g t pool before p.0
spared g t pool (Block p) may before is = spared_block g t pool before p.0
spared g t pool (Slice r) may before is = spared_slice g t pool before r.0
spared g t pool (Decide r) may before is = spared_decide g t r pool may before is
spared g t pool action may before is = absurd (cc)

-- a pool that is settled, and gets a mark
pub settled_one : (t i : ℕ) (pools : List (Option Pool)) (marks : List Bool) (next : Pool) → i < length pools → IsSettled t next → AreSettled t pools marks → AreSettled t (slice_set pools i (Some next)) (slice_set marks i true)
settled_one t i pools marks next inside here before = record {
  each = λ j pool marked at. elim (ℕ_discrete j i) [
    | yes same ↦ (
        let there : at_place (slice_set pools i (Some next)) i ≡ Some pool = subst (λ (k : ℕ). at_place (slice_set pools i (Some next)) k ≡ Some pool) same at in
        let is : next ≡ pool = some_same (sym (at_place-put_at i next pools inside) ∙ there) in
        subst (IsSettled t) is here)
    | no other ↦ before.each j pool (sym (get_or-set_other marks i j true false other) ∙ marked) (sym (at_place-put_at_other i j next pools other) ∙ at)
  ];
}

-- where no look is needed after the event
pub spared_then : (g t : ℕ) (pool : Pool) (action : Action) (was : Bool) → MayDecide g pool → (was ≡ true → IsSettled t pool) → not (is_spared action pool && was) ≡ false → IsSettled t (after_in g t pool action)
spared_then g t pool action was may before needless =
    let both = not_false (is_spared action pool && was) needless in
    spared g t pool action may (before (and_right (is_spared action pool) was both)) (and_left (is_spared action pool) was both)

-- the pool was settled, where it has a mark
pub settled_here : (now t i : ℕ) (pools : List (Option Pool)) (pool : Pool) (marks : List Bool) → AreSettled now pools marks → t ≡ now → at_place pools i ≡ Some pool → slice_index_or marks i false ≡ true → IsSettled t pool
settled_here now t i pools pool marks before is there marked = subst (λ (n : ℕ). IsSettled n pool) (sym is) (before.each i pool marked there)

-- the pool is settled after its event, and has a mark
pub settled_then : (now t i : ℕ) (pools : List (Option Pool)) (pool after next : Pool) (marks : List Bool) → AreSettled now pools marks → t ≡ now → at_place pools i ≡ Some pool → next ≡ settled_pool t after
    → AreSettled now (slice_set pools i (Some next)) (slice_set marks i true)
settled_then now t i pools pool after next marks before is there leaves =
    let here : IsSettled now next = subst (IsSettled now) (sym (leaves ∙ ap (λ (n : ℕ). settled_pool n after) is)) (settled_again now after) in
    settled_one now i pools marks next (place_below pools i pool there) here before
