-- Which parts an event of a pool changes.
use Rattle.sched_laws.proofs.EachPlace.{at_place-change_at}
use Rattle.std.proofs.Common.{◌≡◌, ◌≢◌, ℕ, zero, suc, ◌-◌, List, [], ◌∷◌, map, take, Bool, true, false, refl, sym, ◌∙◌, ap}
use Rattle.std.specs.Prelude.{Option, Some, None, option_map, is_some, eqb, nat_lt, if◌then◌else◌, length}
use Rattle.sched_model.specs.declared.action.Action.{Action}
use Rattle.sched_model.specs.declared.action.Action.TheVariants.{Stall, Xl, Moved, DomMoved}
use Rattle.sched_model.specs.declared.machine.Machine.{Machine}
use Rattle.sched_model.specs.declared.state.Domain.{Domain}
use Rattle.sched_model.specs.declared.state.Pool.{Pool}
use Rattle.sched_model.specs.declared.state.State.{State}
use Rattle.sched_model.specs.Places.{at_place, change_at, first_place}
use Rattle.sched_model.specs.Pool.{settled_pool, after_in}
use Rattle.sched_model.specs.Actions.{IsOfPool, home_pool_of_action, change_pool}
use Rattle.sched_model.specs.Machine.{after, after_at_home}
use Rattle.sched_model.proofs.PlaceLemmas.{at_place-map, at_place-change_at_other}
use Rattle.journal_core.specs.Parts.{Outline, UnderWay, core_to, domain_to, ToolPart, tool_part, pool_part, pool_outline, first_answer, core_to_leave, domain_to_move, core_to_join, pool_under_way, state_under_way, tool_of, part_of, pool_lists, is_name, no_home, home_in, tool_lock, is_leaving}
use Rattle.composition_laws.specs.Faces.{Face, DomainFace, domain_face, face_of}
use Rattle.composition_laws.specs.PoolSteps.{ChangesPool}
use Rattle.composition_laws.proofs.Faces.{face_kept, seen_change_at}

-- places that are seen
map-seen : {X Y Z : Type 0} (see : X → Y) (f : Option X → Z) (h : Option Y → Z) (places : List (Option X)) → ((o : Option X) → f o ≡ h (option_map see o)) → map f places ≡ map h (map (option_map see) places)
map-seen see f h [] same = refl
map-seen see f h (o ∷ places) same = ap (λ z. z ∷ map f places) (same o) ∙ ap (λ zs. h (option_map see o) ∷ zs) (map-seen see f h places same)

is_some-seen : {X Y : Type 0} (see : X → Y) (o : Option X) → is_some o ≡ is_some (option_map see o)
is_some-seen see None = refl
is_some-seen see (Some x) = refl

first_answer-seen : {X Y Z : Type 0} (see : X → Y) (f : ℕ → X → Option Z) (h : ℕ → Y → Option Z) (n : ℕ) (places : List (Option X)) → ((k : ℕ) (x : X) → f k x ≡ h k (see x))
    → first_answer f n places ≡ first_answer h n (map (option_map see) places)
first_answer-seen see f h n [] same = refl
first_answer-seen see f h n (None ∷ places) same = first_answer-seen see f h (suc n) places same
first_answer-seen {X} {Y} {Z} see f h n (Some x ∷ places) same =
    ap (λ (o : Option Z). elim o as (λ _. Option Z) [ Some y ↦ Some y | None ↦ first_answer f (suc n) places ]) (same n x)
    ∙ ap (λ (rest : Option Z). elim (h n (see x)) as (λ _. Option Z) [ Some y ↦ Some y | None ↦ rest ]) (first_answer-seen see f h (suc n) places same)

-- what the tool knows of a pool, and which names it lists, by its face
abbrev by_face : Face → Outline
by_face face = record { kind = face.kind; cores = map is_some face.cores; domains = map (option_map (λ (d : DomainFace). d.vcpus)) face.domains }

counted : (o : Option Domain) → option_map (λ (d : Domain). length d.vcpus) o ≡ option_map (λ (d : DomainFace). d.vcpus) (option_map domain_face o)
counted None = refl
counted (Some d) = refl

outline_is : (pool : Pool) → pool_outline pool ≡ by_face (face_of pool)
outline_is pool =
    ap (λ (cores : List Bool). record { kind = (face_of pool).kind; cores = cores; domains = map (option_map (λ (d : Domain). length d.vcpus)) pool.domains }) (map-seen is_leaving is_some is_some pool.resources (is_some-seen is_leaving))
    ∙ ap (λ (domains : List (Option ℕ)). record { kind = (face_of pool).kind; cores = map is_some (face_of pool).cores; domains = domains })
    (map-seen domain_face (option_map (λ (d : Domain). length d.vcpus)) (option_map (λ (d : DomainFace). d.vcpus)) pool.domains counted)

abbrev way_by_face : ℕ → Face → Option UnderWay
way_by_face i face =
    elim (first_answer (λ (r : ℕ) (leaving : Bool). if leaving then Some (core_to r None) else None) 0 face.cores) [
      | Some way ↦ Some way
      | None ↦ first_answer (λ (d : ℕ) (x : DomainFace). option_map (λ i. domain_to d i.0) x.moving) 0 face.domains
    ]

way_is : (i : ℕ) (pool : Pool) → pool_under_way i pool ≡ way_by_face i (face_of pool)
way_is i pool =
    ap (λ (o : Option UnderWay). elim o as (λ _. Option UnderWay) [ Some way ↦ Some way | None ↦ first_answer domain_to_move 0 pool.domains ])
    (first_answer-seen is_leaving core_to_leave (λ (r : ℕ) (leaving : Bool). if leaving then Some (core_to r None) else None) 0 pool.resources (λ r c. refl))
    ∙ ap (λ (rest : Option UnderWay). elim (first_answer (λ (r : ℕ) (leaving : Bool). if leaving then Some (core_to r None) else None) 0 (face_of pool).cores) as (λ _. Option UnderWay) [ Some way ↦ Some way | None ↦ rest ])
    (first_answer-seen domain_face domain_to_move (λ (d : ℕ) (x : DomainFace). option_map (λ i. domain_to d i.0) x.moving) 0 pool.domains (λ d x. refl))

abbrev lists_by_face : ℕ → Face → Bool
lists_by_face n face = (if nat_lt n 64 then is_some (at_place face.cores n) else is_some (at_place face.domains (n - 64)))

lists_is : (n : ℕ) (pool : Pool) → pool_lists n pool ≡ lists_by_face n (face_of pool)
lists_is n pool =
    ap (λ (b : Bool). if nat_lt n 64 then b else is_some (at_place pool.domains (n - 64))) (is_some-seen is_leaving (at_place pool.resources n) ∙ ap is_some (sym (at_place-map is_leaving pool.resources n)))
    ∙ ap (λ (b : Bool). if nat_lt n 64 then is_some (at_place (face_of pool).cores n) else b) (is_some-seen domain_face (at_place pool.domains (n - 64)) ∙ ap is_some (sym (at_place-map domain_face pool.domains (n - 64))))

pub first_answer-change_at : {X Z : Type 0} (ask : ℕ → X → Option Z) (n i : ℕ) (f : X → X) (places : List (Option X)) → ((k : ℕ) (x : X) → ask k (f x) ≡ ask k x)
    → first_answer ask n (change_at i f places) ≡ first_answer ask n places
first_answer-change_at ask n i f [] keeps = refl
first_answer-change_at ask n zero f (None ∷ places) keeps = refl
first_answer-change_at {X} {Z} ask n zero f (Some x ∷ places) keeps = ap (λ (o : Option Z). elim o as (λ _. Option Z) [ Some y ↦ Some y | None ↦ first_answer ask (suc n) places ]) (keeps n x)
first_answer-change_at ask n (suc i) f (None ∷ places) keeps = first_answer-change_at ask (suc n) i f places keeps
first_answer-change_at {X} {Z} ask n (suc i) f (Some x ∷ places) keeps =
    ap (λ (rest : Option Z). elim (ask n x) as (λ _. Option Z) [ Some y ↦ Some y | None ↦ rest ]) (first_answer-change_at ask (suc n) i f places keeps)

first_place-change_at : {X : Type 0} (test : X → Bool) (n k i : ℕ) (f : X → X) (places : List (Option X)) → ((x : X) → test (f x) ≡ test x)
    → first_place n test (take k (change_at i f places)) ≡ first_place n test (take k places)
first_place-change_at test n zero i f places keeps = refl
first_place-change_at test n (suc k) i f [] keeps = refl
first_place-change_at test n (suc k) zero f (None ∷ places) keeps = refl
first_place-change_at test n (suc k) zero f (Some x ∷ places) keeps = ap (λ (b : Bool). elim b as (λ _. Option ℕ) [ true ↦ Some n | false ↦ first_place (suc n) test (take k places) ]) (keeps x)
first_place-change_at test n (suc k) (suc i) f (None ∷ places) keeps = first_place-change_at test (suc n) k i f places keeps
first_place-change_at test n (suc k) (suc i) f (Some x ∷ places) keeps =
    ap (λ (o : Option ℕ). elim (test x) as (λ _. Option ℕ) [ true ↦ Some n | false ↦ o ]) (first_place-change_at test (suc n) k i f places keeps)

module _ (i : ℕ) (f : Pool → Pool) (keeps : (pool : Pool) → face_of (f pool) ≡ face_of pool) (s : State) where
  outline_kept : (pool : Pool) → pool_outline (f pool) ≡ pool_outline pool
  outline_kept pool = outline_is (f pool) ∙ ap by_face (keeps pool) ∙ sym (outline_is pool)

  way_kept : (k : ℕ) (pool : Pool) → pool_under_way k (f pool) ≡ pool_under_way k pool
  way_kept k pool = way_is k (f pool) ∙ ap (way_by_face k) (keeps pool) ∙ sym (way_is k pool)

  lists_kept : (n : ℕ) (pool : Pool) → pool_lists n (f pool) ≡ pool_lists n pool
  lists_kept n pool = lists_is n (f pool) ∙ ap (lists_by_face n) (keeps pool) ∙ sym (lists_is n pool)

  tool_kept : tool_of (change_pool i f s) ≡ tool_of s
  tool_kept =
      ap (λ (pools : List (Option Outline)). record (tool_of s) { pools = pools; under_way = state_under_way (change_pool i f s) }) (seen_change_at pool_outline i f s.pools outline_kept)
      ∙ ap (λ (o : Option UnderWay). record (tool_of s) { under_way = elim o as (λ _. Option UnderWay) [ Some way ↦ Some way | None ↦ first_answer core_to_join 0 s.free ] }) (first_answer-change_at pool_under_way 0 i f s.pools way_kept)

  part_kept : (k : ℕ) → k ≢ i → part_of (change_pool i f s) k ≡ part_of s k
  part_kept k other =
      ap (λ (tool : ToolPart). if eqb k tool_lock then tool_part tool else pool_part (at_place (change_at i f s.pools) k)) tool_kept
      ∙ ap (λ (pool : Option Pool). if eqb k tool_lock then tool_part (tool_of s) else pool_part pool) (at_place-change_at_other i k f s.pools other)

  homes_kept : (m : Machine) (n : ℕ) → home_in m.config (change_pool i f s) n ≡ home_in m.config s n
  homes_kept m n =
      ap (λ (o : Option ℕ). if is_name m.config n then elim o as (λ _. ℕ) [ Some k ↦ k | None ↦ tool_lock ] else no_home) (first_place-change_at (pool_lists n) 0 tool_lock i f s.pools (lists_kept n))

after_is : (m : Machine) (s : State) (t : ℕ) (action : Action) → IsOfPool action → after m s t action ≡ after_at_home m.config.granularity s t action
after_is m s t Stall own = absurd own
after_is m s t Xl own = absurd own
after_is m s t (Moved r) own = absurd own
after_is m s t (DomMoved d) own = absurd own
after_is m s t action own = refl

pub pool_step : (m : Machine) (s : State) (t : ℕ) (action : Action) (i : ℕ) → IsOfPool action → home_pool_of_action m.config.granularity s action ≡ Some i → ChangesPool m s t action i
pool_step m s t action i own home =
    let g = m.config.granularity in
    let f : Pool → Pool = λ pool. settled_pool t (after_in g t pool action) in
    let keeps : (pool : Pool) → face_of (f pool) ≡ face_of pool = λ pool. face_kept g t pool action in
    let is : after m s t action ≡ change_pool i f s =
    after_is m s t action own ∙ ap (λ (o : Option ℕ). elim o as (λ _. State) [ None ↦ s | Some k ↦ change_pool k f s ]) home in
    record {
      own = ap (λ (next : State). at_place next.pools i) is ∙ at_place-change_at i f s.pools;
      others = λ k other. ap (λ (next : State). part_of next k) is ∙ part_kept i f keeps s k other;
      homes = λ n. ap (λ (next : State). home_in m.config next n) is ∙ homes_kept i f keeps s m n;
      now = ap (λ (next : State). next.now) is;
    }
