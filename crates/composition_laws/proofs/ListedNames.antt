-- The names that a part lists, by what it has.
use Rattle.std.proofs.Common.{◌≡◌, ◌≢◌, ◌-◌, ℕ, zero, suc, Bool, true, false, List, length, replicate, cond, refl, ap, sym, subst, ◌∙◌, ne_eqb}
use Rattle.std.specs.Prelude.{Option, Some, None, option_map, is_some, nat_lt, ◌&&◌}
use mathlib.Core.Logic.{dite}
use native.Mathlib.Decide.{ℕ_discrete}
use Rattle.sched_model.specs.declared.config.Config.{Config}
use Rattle.sched_model.specs.declared.config.PoolParams.{PoolParams}
use Rattle.sched_model.specs.declared.state.Domain.{Domain}
use Rattle.sched_model.specs.declared.state.FreeCore.{FreeCore}
use Rattle.sched_model.specs.declared.state.Pool.{Pool}
use Rattle.sched_model.specs.declared.state.Resource.{Resource}
use Rattle.sched_model.specs.declared.state.State.{State}
use Rattle.sched_model.specs.Places.{at_place}
use Rattle.sched_model.specs.Opening.{fresh_pool, machine_core_count}
use Rattle.sched_model.specs.Pool.{settled_pool}
use Rattle.sched_model.proofs.PlaceLemmas.{is_some-option_map}
use Rattle.journal_core.specs.Parts.{StatePart, pool_part, tool_part, tool_of, part_of, lists, pool_lists}
use Rattle.composition_laws.proofs.Places.{some_change_each}
use Rattle.composition_laws.proofs.Looks.{LooksLike, has_core_in, moving_in}
use Rattle.composition_laws.proofs.Alike.{AlikeAt}
use Rattle.composition_laws.proofs.NamesLaw.{some_mapped}

-- the core is one of no pool
abbrev pub is_free : State → ℕ → Bool
is_free s n = nat_lt n 64 && is_some (at_place s.free n)

-- what the tool's part lists, and what each other part lists
pub tool_lists : (s : State) (n : ℕ) → lists (part_of s 16) n ≡ is_free s n
tool_lists s n = ap (λ b. nat_lt n 64 && b) (some_mapped (λ (c : FreeCore). c.stall_ends) n s.free)

pub part_lists : (s : State) (k n : ℕ) → k ≢ 16 → lists (part_of s k) n ≡ lists (pool_part (at_place s.pools k)) n
part_lists s k n ne = ap (λ (p : StatePart). lists p n) (ap (λ b. cond b (tool_part (tool_of s)) (pool_part (at_place s.pools k))) (ne_eqb k 16 ne))

pub same_lists : (s next : State) (k n : ℕ) → lists (pool_part (at_place next.pools k)) n ≡ lists (pool_part (at_place s.pools k)) n → is_some (at_place next.free n) ≡ is_some (at_place s.free n)
    → lists (part_of next k) n ≡ lists (part_of s k) n
same_lists s next k n pools free = dite (ℕ_discrete k 16)
    (λ e. subst (λ (j : ℕ). lists (part_of next j) n ≡ lists (part_of s j) n) (sym e) (tool_lists next n ∙ ap (λ b. nat_lt n 64 && b) free ∙ sym (tool_lists s n)))
    (λ ne. part_lists next k n ne ∙ pools ∙ sym (part_lists s k n ne))

-- the name of a core, and that of a domain
pub core_name : (n : ℕ) (pool : Pool) → nat_lt n 64 ≡ true → pool_lists n pool ≡ is_some (at_place pool.resources n)
core_name n pool low = ap (λ b. cond b (is_some (at_place pool.resources n)) (is_some (at_place pool.domains (n - 64)))) low

pub domain_name : (n : ℕ) (pool : Pool) → nat_lt n 64 ≡ false → pool_lists n pool ≡ is_some (at_place pool.domains (n - 64))
domain_name n pool high = ap (λ b. cond b (is_some (at_place pool.resources n)) (is_some (at_place pool.domains (n - 64)))) high

-- two pools list the name alike, where they have alike what it names
pub names_at : (n : ℕ) (p q : Pool) → (nat_lt n 64 ≡ true → is_some (at_place p.resources n) ≡ is_some (at_place q.resources n)) → (nat_lt n 64 ≡ false → is_some (at_place p.domains (n - 64)) ≡ is_some (at_place q.domains (n - 64)))
    → pool_lists n p ≡ pool_lists n q
names_at n p q cores domains = by_kind (nat_lt n 64) refl
  where
    by_kind : (b : Bool) → nat_lt n 64 ≡ b → pool_lists n p ≡ pool_lists n q
    by_kind true low = core_name n p low ∙ cores low ∙ sym (core_name n q low)
    by_kind false high = domain_name n p high ∙ domains high ∙ sym (domain_name n q high)

pub names_looks : (n : ℕ) (p q : Pool) → LooksLike (has_core_in q) (moving_in q) p → pool_lists n p ≡ pool_lists n q
names_looks n p q looks = names_at n p q (λ low. looks.cores n)
    (λ high. sym (is_some-option_map (λ (x : Domain). x.moving) (at_place p.domains (n - 64))) ∙ ap is_some (looks.domains (n - 64)) ∙ is_some-option_map (λ (x : Domain). x.moving) (at_place q.domains (n - 64)))

pub names_settled : (t n : ℕ) (pool : Pool) → pool_lists n (settled_pool t pool) ≡ pool_lists n pool
names_settled t n pool = names_at n (settled_pool t pool) pool (λ low. some_change_each n _ pool.resources) (λ high. refl)

none_in : (X : Type 0) (k n : ℕ) → (let places : List (Option X) = replicate k None in is_some (at_place places n)) ≡ false
none_in X zero n = refl
none_in X (suc k) zero = refl
none_in X (suc k) (suc n) = none_in X k n

pub names_none : (n : ℕ) (pool : Pool) → is_some (at_place pool.resources n) ≡ false → is_some (at_place pool.domains (n - 64)) ≡ false → pool_lists n pool ≡ false
names_none n pool cores domains = by_kind (nat_lt n 64) refl
  where
    by_kind : (b : Bool) → nat_lt n 64 ≡ b → pool_lists n pool ≡ false
    by_kind true low = core_name n pool low ∙ cores
    by_kind false high = domain_name n pool high ∙ domains

pub names_empty : (n : ℕ) (config : Config) (params : PoolParams) → pool_lists n (fresh_pool config params) ≡ false
names_empty n config params = names_none n (fresh_pool config params) (none_in Resource (machine_core_count config) n) (none_in Domain (length config.domains) (n - 64))

-- what stands at a place for a pool lists the name as before
pub names_changed : (n : ℕ) (f : Pool → Pool) (o : Option Pool) → ((pool : Pool) → pool_lists n (f pool) ≡ pool_lists n pool) → lists (pool_part (option_map f o)) n ≡ lists (pool_part o) n
names_changed n f None keeps = refl
names_changed n f (Some pool) keeps = keeps pool

pub names_alike : (n : ℕ) (o p : Option Pool) → AlikeAt o p → lists (pool_part p) n ≡ lists (pool_part o) n
names_alike n None None a = refl
names_alike n None (Some q) a = absurd (let e : true ≡ false = a.there in cc)
names_alike n (Some p) None a = absurd (let e : false ≡ true = a.there in cc)
names_alike n (Some p) (Some q) a = names_looks n q p (record { cores = a.cores; domains = a.domains })
