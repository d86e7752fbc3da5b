-- What a change of one core makes of what a pool's cores keep.
use Rattle.std.proofs.Common.{◌≡◌, ◌≢◌, ◌≤◌, ◌<◌, ◌+◌, ◌-◌, ◌*◌, ◌/◌, ◌⊎◌, ℕ, zero, suc, List, [], ◌∷◌, ◌∙◌, refl, sym, ap, subst, arith, length, inl, inr}
use Rattle.std.specs.Prelude.{Bool, not, true, false, Option, Some, None, option_map, replicate, slice_set, if◌then◌else◌}
use Rattle.std.specs.List.{list_any}
use Rattle.std.proofs.Math.Decide.{ℕ_discrete}
use Rattle.std.proofs.lemmas.Bool.{cases_lt}
use Rattle.std.proofs.lemmas.List.{get_or-set_same, get_or-set_other, get_or_past, length-set, length-replicate}
use Rattle.sched_base.specs.Numbers.{moment, core as core_number, processor}
use Rattle.sched_base.specs.declared.Moment.{Moment}
use Rattle.sched_base.specs.declared.UnitId.{UnitId}
use Rattle.sched_model.specs.declared.action.Action.TheVariants.{Block, Slice, Arrive, Decide, Leave, Save}
use Rattle.sched_model.specs.declared.state.Processor.{Processor}
use Rattle.sched_model.specs.declared.state.Resource.{Resource}
use Rattle.sched_model.specs.declared.state.Stage.TheVariants.{Open, Decided}
use Rattle.sched_model.specs.CheckedMachine.{IsGranularity}
use Rattle.sched_model.specs.Places.{at_place, change_at, clear_at, first_place}
use Rattle.sched_model.specs.Pool.{cores_from, is_held_back, reopened_core, same_choice}
use Rattle.sched_model.proofs.PlaceLemmas.{at_place-change_at_other, cores_from-change_at}
use Rattle.due_heap.specs.Dues.{armed_moment}
use Rattle.pool_laws.specs.ReadyMoments.{later_of, end_of, end_where, slice_moment, may_gather}
use Rattle.core_state.specs.declared.dues.Dues.{Dues}
use Rattle.core_state.specs.Seen.{Seen, chosen_core, processor_among, with_sibling, cleared_works}
use Rattle.core_state.specs.Ends.{may_core_decide, may_core_save, may_core_part, ready_among}
use Rattle.core_state.specs.CoreState.{AgreesBut, AreArmed, AreArmedBut, AreEmpty, IsKept, MayRearm}
use Rattle.core_state.proofs.Arming.{block_past, but, other_core, processor_same, sibling_past, sibling_same, few_places}
use Rattle.sched_laws.proofs.Lists.{length_change_item}
use Rattle.sched_laws.proofs.EachPlace.{at_place-change_at, at_place-replicate}

-- what is seen of these cores and works
abbrev pub seen_of : ℕ → List (Option Resource) → List (Option Moment) → Seen
seen_of g cores works = record { resources = cores; works = works; granularity = g }

-- only the core r changes, and of the works only those of its processors
pub record IsChange (g r : ℕ) (cores next : List (Option Resource)) (works after : List (Option Moment)) : Type 0 where
  pub places : length next ≡ length cores
  pub processors : length after ≡ length works
  pub others : (i : ℕ) → i ≢ r → at_place next i ≡ at_place cores i
  pub own : (c : Resource) → at_place next r ≡ Some c → length c.processors ≡ g
  pub other_works : (p : ℕ) → p / g ≢ r → at_place after p ≡ at_place works p

-- the dues of the other cores are right still
pub armed_but : (g r : ℕ) (cores next : List (Option Resource)) (works after : List (Option Moment)) (dues : Dues) → IsGranularity g → IsChange g r cores next works after
    → AreArmed (seen_of g cores works) dues → AreArmedBut r (r + 1) (r * g) (r * g + g) (seen_of g next after) dues
armed_but g r cores next works after dues granularity change are =
    let core : (i : ℕ) → (i < r) ⊎ (r + 1 ≤ i) → at_place next i ≡ at_place cores i = λ i h. change.others i (elim h [ inl lt ↦ λ e. omega (arith, lt, e) | inr ge ↦ λ e. omega (arith, ge, e) ]) in
    let of_processor : (p : ℕ) → (p < r * g) ⊎ (r * g + g ≤ p) → at_place next (p / g) ≡ at_place cores (p / g) = λ p h. change.others (p / g) (other_core g r p granularity h) in
    let before = seen_of g cores works in
    let now = seen_of g next after in
    record {
      slices = but r (r + 1) dues.slices (λ i. ready_among before (Slice (core_number i))) (λ i. ready_among now (Slice (core_number i))) (λ i h. ap slice_moment (core i h)) are.slices;
      decides = but r (r + 1) dues.decides (λ i. ready_among before (Decide (core_number i))) (λ i. ready_among now (Decide (core_number i))) (λ i h. ap (λ (o : Option Resource). end_where may_core_decide o) (core i h)) are.decides;
      saves = but r (r + 1) dues.saves (λ i. ready_among before (Save (core_number i))) (λ i. ready_among now (Save (core_number i))) (λ i h. ap (λ (o : Option Resource). end_where may_core_save o) (core i h)) are.saves;
      blocks =
          but (r * g) (r * g + g) dues.blocks (λ i. ready_among before (Block (processor i))) (λ i. ready_among now (Block (processor i)))
          (λ p h.
          ap (λ (w : Option Moment). later_of w (end_of (processor_among g next p))) (change.other_works p (other_core g r p granularity h))
          ∙ ap (λ (q : Option Processor). later_of (at_place works p) (end_of q)) (processor_same g p cores next (of_processor p h))) are.blocks;
      arrives =
          but (r * g) (r * g + g) dues.arrives (λ i. ready_among before (Arrive (processor i))) (λ i. ready_among now (Arrive (processor i)))
          (λ p h. sibling_same g p may_gather (λ q. not (is_held_back q)) cores next (of_processor p h)) are.arrives;
      leaves =
          but (r * g) (r * g + g) dues.leaves (λ i. ready_among before (Leave (processor i))) (λ i. ready_among now (Leave (processor i)))
          (λ p h. sibling_same g p may_core_part is_held_back cores next (of_processor p h)) are.leaves;
    }

-- all is kept, once the dues are right again
pub kept_after : (g r home home' : ℕ) (first first' : Option ℕ) (cores next : List (Option Resource)) (works after : List (Option Moment)) (dues dues' : Dues)
    → IsKept (seen_of g cores works) home first dues → IsChange g r cores next works after
    → home' ≡ cores_from 0 next → first' ≡ first_place 0 (λ (c : Resource). true) next
    → AreArmed (seen_of g next after) dues' → IsKept (seen_of g next after) home' first' dues'
kept_after g r home home' first first' cores next works after dues dues' kept change is_home is_first armed = record {
  cores = record {
    granularity = kept.cores.granularity;
    places = subst (λ (n : ℕ). n * g ≤ 64) (sym change.places) kept.cores.places;
    works = change.processors ∙ kept.cores.works;
    cores = λ i c is.
        elim (ℕ_discrete i r) [
          | yes e ↦ change.own c (subst (λ (k : ℕ). at_place next k ≡ Some c) e is)
          | no ne ↦ kept.cores.cores i c (sym (change.others i ne) ∙ is)
        ];
  };
  is_home = is_home;
  is_first = is_first;
  armed = armed;
}

first_change : (n i : ℕ) (f : Resource → Resource) (cores : List (Option Resource)) → first_place n (λ (c : Resource). true) (change_at i f cores) ≡ first_place n (λ (c : Resource). true) cores
first_change n i f [] = refl
first_change n zero f (None ∷ cores) = refl
first_change n zero f (Some c ∷ cores) = refl
first_change n (suc i) f (None ∷ cores) = first_change (suc n) i f cores
first_change n (suc i) f (Some c ∷ cores) = refl

pub change_twice : (i : ℕ) (f h : Resource → Resource) (cores : List (Option Resource)) → change_at i f (change_at i h cores) ≡ change_at i (λ c. f (h c)) cores
change_twice i f h [] = refl
change_twice zero f h (None ∷ cores) = refl
change_twice zero f h (Some c ∷ cores) = refl
change_twice (suc i) f h (c ∷ cores) = ap (λ (rest : List (Option Resource)). c ∷ rest) (change_twice i f h cores)

-- a change that leaves a core as many processors as it has
abbrev pub KeepsSiblings : (Resource → Resource) → Type 0
KeepsSiblings f = (c : Resource) → length (f c).processors ≡ length c.processors

changed_own : (g : ℕ) (f : Resource → Resource) (o : Option Resource) → KeepsSiblings f → ((x : Resource) → o ≡ Some x → length x.processors ≡ g) → (c : Resource) → option_map f o ≡ Some c → length c.processors ≡ g
changed_own g f None keeps has c is = absurd (cc)
changed_own g f (Some x) keeps has c is = let same : f x ≡ c = cc in ap (λ (y : Resource). length y.processors) (sym same) ∙ keeps x ∙ has x refl

-- a core that is there changes
pub core_change : (r : ℕ) (f : Resource → Resource) {g home : ℕ} {first : Option ℕ} {cores : List (Option Resource)} {works : List (Option Moment)} {dues : Dues} → KeepsSiblings f → IsKept (seen_of g cores works) home first dues
    → IsChange g r cores (change_at r f cores) works works
core_change r f {g} {home} {first} {cores} {works} {dues} keeps kept = record {
  places = length-set cores r (option_map f (at_place cores r));
  processors = refl;
  others = λ i ne. at_place-change_at_other r i f cores ne;
  own = λ c is. changed_own g f (at_place cores r) keeps (kept.cores.cores r) c (sym (at_place-change_at r f cores) ∙ is);
  other_works = λ p ne. refl;
}

-- the same, and the work of one of its processors
pub worked_change : (p : ℕ) (work : Option Moment) (f : Resource → Resource) {g home : ℕ} {first : Option ℕ} {cores : List (Option Resource)} {works : List (Option Moment)} {dues : Dues} → KeepsSiblings f → IsKept (seen_of g cores works) home first dues
    → IsChange g (p / g) cores (change_at (p / g) f cores) works (slice_set works p work)
worked_change p work f {g} {home} {first} {cores} {works} {dues} keeps kept =
    let core = core_change (p / g) f keeps kept in
    record {
      places = core.places;
      processors = length-set works p work;
      others = core.others;
      own = core.own;
      other_works = λ q ne. get_or-set_other works p q work None (λ e. ne (ap (λ (k : ℕ). k / g) e));
    }

pub length-without_works : (p count : ℕ) (works : List (Option Moment)) → length (cleared_works p count works) ≡ length works
length-without_works p zero works = refl
length-without_works p (suc count) works = length-without_works (suc p) count (clear_at p works) ∙ length-set works p None

-- the works of the other processors stay
pub without_works-other : (p count q : ℕ) (works : List (Option Moment)) → (q < p) ⊎ (p + count ≤ q) → at_place (cleared_works p count works) q ≡ at_place works q
without_works-other p zero q works apart = refl
without_works-other p (suc count) q works (inl h) =
    without_works-other (suc p) count q (clear_at p works) (inl (omega (arith, h))) ∙ get_or-set_other works p q None None (λ e. omega (arith, h, e))
without_works-other p (suc count) q works (inr h) =
    without_works-other (suc p) count q (clear_at p works) (inr (omega (arith, h))) ∙ get_or-set_other works p q None None (λ e. omega (arith, h, e))

cleared : (p : ℕ) (works : List (Option Moment)) → at_place (clear_at p works) p ≡ None
cleared p [] = refl
cleared zero (w ∷ works) = refl
cleared (suc p) (w ∷ works) = cleared p works

-- and these have none
pub without_works-own : (p count q : ℕ) (works : List (Option Moment)) → p ≤ q → q < p + count → at_place (cleared_works p count works) q ≡ None
without_works-own p zero q works low high = absurd (omega (arith, low, high))
without_works-own p (suc count) q works low high =
    elim (ℕ_discrete q p) [
      | yes e ↦ without_works-other (suc p) count q (clear_at p works) (inl (omega (arith, e))) ∙ ap (at_place (clear_at p works)) e ∙ cleared p works
      | no ne ↦ without_works-own (suc p) count q (clear_at p works) (omega (arith, low, ne)) (omega (arith, high))
    ]

of_core : (g r p : ℕ) → IsGranularity g → r * g ≤ p → p < r * g + g → p / g ≡ r
of_core g r p (inl e) low high = subst (λ (k : ℕ). p / k ≡ r) (sym e) (let l = rw e at low in let h = rw e at high in omega (arith, l, h))
of_core g r p (inr (inl e)) low high = subst (λ (k : ℕ). p / k ≡ r) (sym e) (let l = rw e at low in let h = rw e at high in omega (arith, l, h))
of_core g r p (inr (inr e)) low high = subst (λ (k : ℕ). p / k ≡ r) (sym e) (let l = rw e at low in let h = rw e at high in omega (arith, l, h))

apart : (g r p : ℕ) → IsGranularity g → p / g ≢ r → (p < r * g) ⊎ (r * g + g ≤ p)
apart g r p granularity ne =
    elim (cases_lt p (r * g)) [
      | inl lt ↦ inl lt
      | inr ge ↦ elim (cases_lt p (r * g + g)) [
        | inl lt ↦ absurd (ne (of_core g r p granularity ge lt))
        | inr past ↦ inr past
      ]
    ]

-- a core comes in or goes out
pub placed_change : (r : ℕ) (x : Option Resource) {g home : ℕ} {first : Option ℕ} {cores : List (Option Resource)} {works : List (Option Moment)} {dues : Dues} → ((c : Resource) → x ≡ Some c → length c.processors ≡ g) → IsKept (seen_of g cores works) home first dues
    → IsChange g r cores (slice_set cores r x) works (cleared_works (r * g) g works)
placed_change r x {g} {home} {first} {cores} {works} {dues} has kept = record {
  places = length-set cores r x;
  processors = length-without_works (r * g) g works;
  others = λ i ne. get_or-set_other cores r i x None ne;
  own = λ c is.
      elim (cases_lt r (length cores)) [
        | inl inside ↦ has c (sym (get_or-set_same cores r x None inside) ∙ is)
        | inr past ↦ let none : at_place (slice_set cores r x) r ≡ None = get_or_past (slice_set cores r x) r None (omega (arith, past, length-set cores r x)) in absurd (cc)
      ];
  other_works = λ p ne. without_works-other (r * g) g p works (apart g r p kept.cores.granularity ne);
}

pub sibling_keeps : (i : ℕ) (f : Processor → Processor) → KeepsSiblings (with_sibling i f)
sibling_keeps i f c = length_change_item i f c.processors

pub open_keeps : KeepsSiblings reopened_core
open_keeps c = elim (list_any is_held_back c.processors) as (λ b. length (if b then c else record c { stage = Open }).processors ≡ length c.processors) [ true ↦ refl | false ↦ refl ]

pub chosen_keeps : (t : ℕ) (unit : Option UnitId) (due : Option Moment) → KeepsSiblings (chosen_core t unit due)
chosen_keeps t unit due c =
    elim (same_choice unit c.cur) as (λ b.
    length (elim b as (λ _. Resource) [
      | true ↦ record c { due = due; pending = false; stage = Decided }
      | false ↦ record c { saving = c.cur; cur = unit; since = moment t; due = due; pending = false; stage = Decided }
    ]).processors ≡ length c.processors) [
      | true ↦ refl
      | false ↦ refl
    ]

pub open_sibling_keeps : (i : ℕ) (f : Processor → Processor) → KeepsSiblings (λ c. reopened_core (with_sibling i f c))
open_sibling_keeps i f c = open_keeps (with_sibling i f c) ∙ sibling_keeps i f c

-- what the function that arms a core asks, and what is kept after it, where the cores and works in hand are those of a change
places_after : {g r : ℕ} {cores next now : List (Option Resource)} {works after : List (Option Moment)} → IsChange g r cores next works after → now ≡ next → length cores * g ≤ 64 → length now * g ≤ 64
places_after {g} change is few = subst (λ (n : ℕ). n * g ≤ 64) (sym (ap length is ∙ change.places)) few

pub few_after : {g r home : ℕ} {first : Option ℕ} {cores next now : List (Option Resource)} {works after : List (Option Moment)} {dues : Dues} → IsKept (seen_of g cores works) home first dues → IsChange g r cores next works after → now ≡ next → length now ≤ 64
few_after {g} {now = now} kept change is = few_places g (length now) kept.cores.granularity (places_after change is kept.cores.places)

pub may_rearm : {g r home : ℕ} {first : Option ℕ} {cores next now : List (Option Resource)} {works after so : List (Option Moment)} {dues : Dues} → IsKept (seen_of g cores works) home first dues → IsChange g r cores next works after → now ≡ next → so ≡ after
    → MayRearm r (seen_of g now so) dues
may_rearm {g} {r} {next = next} {so = so} {dues = dues} kept change is is_so = record {
  granularity = kept.cores.granularity;
  places = places_after change is kept.cores.places;
  others =
      subst (λ (xs : List (Option Resource)). AreArmedBut r (r + 1) (r * g) (r * g + g) (seen_of g xs so) dues) (sym is)
      (subst (λ (ws : List (Option Moment)). AreArmedBut r (r + 1) (r * g) (r * g + g) (seen_of g next ws) dues) (sym is_so)
      (armed_but g r _ next _ _ dues kept.cores.granularity change kept.armed));
}

kept_is : (g home : ℕ) (first : Option ℕ) (now next : List (Option Resource)) (so after : List (Option Moment)) (dues : Dues) → now ≡ next → so ≡ after → IsKept (seen_of g next after) home first dues → IsKept (seen_of g now so) home first dues
kept_is g home first now next so after dues is is_so kept =
    subst (λ (xs : List (Option Resource)). IsKept (seen_of g xs so) home first dues) (sym is) (subst (λ (ws : List (Option Moment)). IsKept (seen_of g next ws) home first dues) (sym is_so) kept)

pub placed_kept : {g r home home' : ℕ} {first first' : Option ℕ} {cores next now : List (Option Resource)} {works after so : List (Option Moment)} {dues dues' : Dues} → IsKept (seen_of g cores works) home first dues → IsChange g r cores next works after → now ≡ next → so ≡ after
    → home' ≡ cores_from 0 now → first' ≡ first_place 0 (λ (c : Resource). true) now → AreArmed (seen_of g now so) dues' → IsKept (seen_of g now so) home' first' dues'
placed_kept {g} {r} {home} {home'} {first} {first'} {cores} {next} {now} {works} {after} {so} {dues} {dues'} kept change is is_so is_home is_first armed =
    kept_is g home' first' now next so after dues' is is_so
    (kept_after g r home home' first first' cores next works after dues dues' kept change
    (is_home ∙ ap (cores_from 0) is) (is_first ∙ ap (first_place 0 (λ (c : Resource). true)) is)
    (subst (λ (xs : List (Option Resource)). AreArmed (seen_of g xs after) dues') is (subst (λ (ws : List (Option Moment)). AreArmed (seen_of g now ws) dues') is_so armed)))

-- the same, where a core that is there changes: the set of the cores stays, and the first of them
pub changed_kept : (r : ℕ) (f : Resource → Resource) {g home : ℕ} {first : Option ℕ} {cores now : List (Option Resource)} {works after so : List (Option Moment)} {dues dues' : Dues} → IsKept (seen_of g cores works) home first dues → IsChange g r cores (change_at r f cores) works after → now ≡ change_at r f cores → so ≡ after
    → AreArmed (seen_of g now so) dues' → IsKept (seen_of g now so) home first dues'
changed_kept r f {cores = cores} kept change is is_so armed = placed_kept kept change is is_so
    (kept.is_home ∙ sym (cores_from-change_at 0 r f cores) ∙ ap (cores_from 0) (sym is)) (kept.is_first ∙ sym (first_change 0 r f cores) ∙ ap (first_place 0 (λ (c : Resource). true)) (sym is)) armed

pub some_has : (g : ℕ) (core : Resource) → length core.processors ≡ g → (c : Resource) → Some core ≡ Some c → length c.processors ≡ g
some_has g core has c is = let same : core ≡ c = cc in ap (λ (x : Resource). length x.processors) (sym same) ∙ has

pub none_has : (g : ℕ) (c : Resource) → None ≡ Some c → length c.processors ≡ g
none_has g c is = absurd (cc)

-- what is seen after it
pub seen_is : {g : ℕ} {now next : List (Option Resource)} {so after : List (Option Moment)} → now ≡ next → so ≡ after → seen_of g now so ≡ seen_of g next after
seen_is {g} {now} {next} {so} {after} is is_so = ap (λ (xs : List (Option Resource)). seen_of g xs so) is ∙ ap (λ (ws : List (Option Moment)). seen_of g next ws) is_so

no_cores : (r n : ℕ) → cores_from r (replicate n None) ≡ 0
no_cores r zero = refl
no_cores r (suc n) = let rest = no_cores (suc r) n in omega (arith, rest)

no_first : (r n : ℕ) → first_place {X = Resource} r (λ c. true) (replicate n None) ≡ None
no_first r zero = refl
no_first r (suc n) = no_first (suc r) n

agrees : (dues : List (Option Moment)) (ends : ℕ → Option Moment) → dues ≡ replicate 64 None → ((i : ℕ) → ends i ≡ None) → AgreesBut 0 0 dues ends
agrees dues ends is none = record {
  ids = ap length is;
  below = λ i h. absurd (omega (arith, h));
  above = λ i h. ap (λ (ds : List (Option Moment)). armed_moment ds i) is ∙ at_place-replicate 64 i ∙ sym (none i);
}

pub vacant_kept : (g n : ℕ) (cores : List (Option Resource)) (works : List (Option Moment)) (dues : Dues) → IsGranularity g → n * g ≤ 64 → cores ≡ replicate n None → works ≡ replicate 64 None → AreEmpty dues
    → IsKept (seen_of g cores works) 0 None dues
vacant_kept g n cores works dues granularity few is is_works empty =
    kept_is g 0 None cores (replicate n None) works (replicate 64 None) dues is is_works (record {
      cores = record {
        granularity = granularity;
        places = subst (λ (k : ℕ). k * g ≤ 64) (sym (length-replicate n None)) few;
        works = refl;
        cores = λ i c there. let none = at_place-replicate {X = Resource} n i in absurd (cc);
      };
      is_home = sym (no_cores 0 n);
      is_first = sym (no_first 0 n);
      armed =
          let seen : Seen = seen_of g (replicate n None) (replicate 64 None) in
          record {
            slices = agrees dues.slices (λ i. ready_among seen (Slice (core_number i))) empty.slices (λ i. ap slice_moment (at_place-replicate n i));
            decides = agrees dues.decides (λ i. ready_among seen (Decide (core_number i))) empty.decides (λ i. ap (λ (o : Option Resource). end_where may_core_decide o) (at_place-replicate n i));
            saves = agrees dues.saves (λ i. ready_among seen (Save (core_number i))) empty.saves (λ i. ap (λ (o : Option Resource). end_where may_core_save o) (at_place-replicate n i));
            blocks = agrees dues.blocks (λ i. ready_among seen (Block (processor i))) empty.blocks (λ i. block_past seen i (at_place-replicate n (i / g)));
            arrives = agrees dues.arrives (λ i. ready_among seen (Arrive (processor i))) empty.arrives (λ i. sibling_past g i may_gather (λ q. not (is_held_back q)) (replicate n None) (at_place-replicate n (i / g)));
            leaves = agrees dues.leaves (λ i. ready_among seen (Leave (processor i))) empty.leaves (λ i. sibling_past g i may_core_part is_held_back (replicate n None) (at_place-replicate n (i / g)));
          };
    })

-- one work after another
pub without_works-turn : (p i count : ℕ) (works : List (Option Moment)) → i < count
    → cleared_works (p + (i + 1)) (count - (i + 1)) (clear_at (p + i) works) ≡ cleared_works (p + i) (count - i) works
without_works-turn p i count works below =
    let e : count - i ≡ suc (count - (i + 1)) = omega arith in
    let f : p + (i + 1) ≡ suc (p + i) = omega arith in
    rw e (ap (λ (m : ℕ). cleared_works m (count - (i + 1)) (clear_at (p + i) works)) f)

pub without_works-done : (p i count : ℕ) (works : List (Option Moment)) → count ≤ i → works ≡ cleared_works (p + i) (count - i) works
without_works-done p i count works past =
    let e : count - i ≡ 0 = omega arith in
    rw e refl

-- the first core that passes a test is one of the places
pub first_below : (n : ℕ) (test : Resource → Bool) (cores : List (Option Resource)) (r : ℕ) → first_place n test cores ≡ Some r → r < n + length cores
first_below n test [] r is = absurd (cc)
first_below n test (None ∷ cores) r is = let rest = first_below (suc n) test cores r is in omega (arith, rest)
first_below n test (Some c ∷ cores) r is = by_test (test c) (first_below (suc n) test cores r) is
  where
    by_test : (b : Bool) → (first_place (suc n) test cores ≡ Some r → r < suc n + length cores) → elim b as (λ _. Option ℕ) [ true ↦ Some n | false ↦ first_place (suc n) test cores ] ≡ Some r → r < n + suc (length cores)
    by_test true later found = let same : n ≡ r = cc in omega (arith, same)
    by_test false later found = let rest = later found in omega (arith, rest)
