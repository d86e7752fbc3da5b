-- All that always holds, after each call but the decision.
use Rattle.std.proofs.Common.{◌≡◌, ◌≢◌, ◌≤◌, ◌<◌, ◌+◌, ◌-◌, ◌^◌, ℕ, zero, suc, Bool, true, false, List, [], ◌∷◌, length, refl, ap, subst, sym, ◌∙◌, arith, inl, inr}
use Rattle.std.specs.Prelude.{Option, Some, None, option_map, is_some, slice_get, slice_set, slice_index_or, replicate, nat_lt, ℤ, pos, neg_ℤ, ◌==◌, ◌&&◌}
use Rattle.std.specs.List.{AllByRecursion, list_any}
use Rattle.std.specs.Option.{ForSome}
use Rattle.std.proofs.Math.Decide.{ℕ_discrete}
use Rattle.std.proofs.lemmas.List.{get_or-replicate, length-replicate, length-map}
use Rattle.sched_base.specs.Numbers.{core_set, domain, has_moment_come}
use Rattle.unit_places.specs.Masks.{mask_of}
use Rattle.sched_base.specs.declared.Cores.{Cores}
use Rattle.sched_base.specs.declared.Moment.{Moment}
use Rattle.sched_base.specs.declared.UnitId.{UnitId}
use Rattle.sched_base.specs.Credit2Numbers.{start_credit}
use Rattle.sched_model.specs.declared.state.Credit2Unit.{Credit2Unit}
use Rattle.sched_model.specs.declared.state.Credit2Domain.{Credit2Domain}
use Rattle.sched_model.specs.declared.state.Credit2Records.{Credit2Records}
use Rattle.sched_model.specs.declared.state.Records.TheVariants.{Credit2Pool}
use Rattle.sched_model.specs.Places.{at_place, put_at, clear_at, change_at, has_listed_unit}
use Rattle.sched_model.specs.CheckedMachine.{IsWithin}
use Rattle.sched_model.specs.EligibleUnits.{unit_cores}
use Rattle.sched_model.specs.Policy.{next_refill_moment, pinned_cores as pinned}
use Rattle.sched_model.specs.Credit2.{most_weight, unit_credit, domain_after_refill, refilled_pool, domain_with_weight, domain_with_cap, records_with_terms, change_domain, fresh_credit2_domain}
use Rattle.sched_base.proofs.Bools.{clash}
use Rattle.sched_base.proofs.Lists.{each_get}
use Rattle.sched_laws.proofs.Choices.{at_unit}
use Rattle.sched_laws.proofs.EachPlace.{at_place-put_at, at_place-put_at_other, at_place-clear_at_other, at_place-clear_at, EachAt-put_at, EachAt-clear_at, EachPlace-empty, by_option, at_place-change_at}
use Rattle.sched_laws.proofs.Lists.{length_change_item, if_some}
use Rattle.state_ranges.specs.Budgets.{BudgetFits, Nobody}
use Rattle.state_ranges.specs.Fits.{Credit2DomainFits, UnitFits}
use Rattle.state_ranges.proofs.Decided.{unit_rec, r_set_domain}
use Rattle.state_ranges.specs.Budgets.{AllRunOnly, RunsOnly}
use Rattle.sched_ops.specs.Conditions.{is_on, is_vacant, IsAway, HasNoneBusy, Keeps}
use Rattle.sched_laws.specs.RecordRanges.{IsWeight, IsCap}
use Rattle.sched_ops.specs.Seen.{Seen, with_scheduler, restarted_scheduler}
use Rattle.sched_model.specs.declared.config.PoolParams.TheVariants as pool_params
use Rattle.sched_model.proofs.PlaceLemmas.{at_place-change_at_other}
use Rattle.scheduler_records.specs.Parts.{credit2_scheduler}
use Rattle.arrival_queue.specs.Queues.{Queued}
use Rattle.runq.specs.Queue.{after_insert, empty_queue as empty}
use Rattle.queue_laws.specs.Arrivals.{arrivals}
use Rattle.queue_laws.proofs.Arrivals.{length-arrivals}
use Rattle.credit2_core.specs.declared.state.Credit2State.{Credit2State}
use Rattle.credit2_core.specs.Keys.{key_in}
use Rattle.credit2_core.specs.Places.{set_counts, unit_counts, refill_of, refills_of}
use Rattle.sched_ops.specs.Affinity.{count_all, joined_unit_count, is_member_among}
use Rattle.credit2_core.specs.Domains.{masked_cores, refreshed_cores}
use Rattle.credit2_core.specs.Credit2State.{InRange, IsFree, IsSound, IsLineOf, AreMasks, scheduler_in, seen_in}
use Rattle.credit2_core.proofs.Lists.{each_has, queued_have, length-placed}
use Rattle.credit2_core.proofs.Waiting.{IsOrdered}
use Rattle.sched_ops.proofs.Affinity.{no_more_wait, count_all-put_at, count_all-clear_at, count_all-empty, count_at-empty}
use Rattle.credit2_core.proofs.Members.{IsElsewhere, joined_small, record_of, waits_off}
use Rattle.credit2_core.proofs.Idle.{IsOff, each_keeps, idle_set_domain}
use Rattle.credit2_core.proofs.Ranges.{range_later, range_refilled, range_set_domain, range_limit, range_joined, range_parted}
use Rattle.credit2_core.proofs.Same.{map-set, map-change_at, counts_refilled, counts_set_domain, refills_changed, refills_written, refills_put}
use Rattle.credit2_core.proofs.Lines.{line_records, line_refilled, line_pushed}
use Rattle.std.proofs.lemmas.Bool.{ltb-true, lt-ltb, eq-eqb, cases_Bool, not-true}

-- whether a unit is on, and whether its record says that it runs
off_on : (records : Credit2Records) (u : UnitId) → IsOff records u → is_on (Credit2Pool records) u ≡ false
off_on records u off =
    by_option (λ (b : Bool). b ≡ false) (at_place records.domains u.dom.0) false _ (λ none. refl)
    (λ x at. by_option (λ (b : Bool). b ≡ false) (slice_get x.units u.n) false (λ y. is_some y.burned) (λ none. refl) (λ y has. ap is_some (off y (let here : unit_rec records u ≡ Some y = rw (unit_rec, at) has in here))))

on_off : (records : Credit2Records) (u : UnitId) → is_on (Credit2Pool records) u ≡ false → IsOff records u
on_off records u off y is = (
    let r = record_of records u y is in
    let place = r.1 in
    let has = r.2 in
    let there : is_on (Credit2Pool records) u ≡ is_some y.burned = rw (is_on, place) (rw has refl) in
    by_burned y.burned (sym there ∙ off))
  where
    by_burned : (o : Option ℕ) → is_some o ≡ false → o ≡ None
    by_burned None e = refl
    by_burned (Some b) e = absurd cc

pub keeps_line : (h : Credit2State) → IsSound h → Keeps (seen_in h)
keeps_line h sound = record {
  apart = sound.line.apart;
  members = λ u there. at_unit (λ w. is_member_among h.affinity w ≡ true) u (arrivals h.queue.units) there sound.line.joined;
  off = λ u there. off_on h.records u (waits_off (arrivals h.queue.units) h.records u sound.line.off there);
  once = tt;
  cut = λ i n d x at there. (each_get (UnitFits h.latest d.weight) d.units n x (sound.range.credits.domains i d at).units there).residual;
}

-- one more waits
pub sound_pushed : (h : Credit2State) (u : UnitId) → IsSound h → IsAway (scheduler_in h) u → IsOrdered h.queue.units → IsSound (record h { queue = after_insert h.queue u (neg_ℤ (unit_credit h.records u)) }) × (0 < h.queue.spare)
sound_pushed h u sound away ordered =
    let es : List Queued = h.queue.units in
    let small = joined_small h.latest h.records h.affinity u sound.range sound.counts away.member in
    let line = line_pushed h.affinity h.records u es ordered (omega (arith, small)) away.waits_not away.member (on_off h.records u away.off) sound.line in
    let grown = length-placed (record { unit = u; key = key_in h.records u; rank = length es }) es in
    let few = no_more_wait h.affinity (arrivals (after_insert h.queue u (neg_ℤ (unit_credit h.records u))).units) line.apart line.joined in
    let all = length-arrivals (after_insert h.queue u (neg_ℤ (unit_credit h.records u))).units in
    let room = sound.room in
    let spare : 0 < h.queue.spare = omega (arith, grown, few, all, room) in (
      record {
        range = sound.range;
        counts = sound.counts;
        line = line;
        masks = sound.masks;
        free = sound.free;
        refills = sound.refills;
        room = omega (arith, room, grown, spare);
        small = sound.small;
      },
      spare,
    )

-- the domain is refilled
pub sound_refilled : (h : Credit2State) (d t : ℕ) → IsSound h → h.latest ≤ t → has_moment_come t (next_refill_moment (Credit2Pool h.records) d) ≡ true
    → IsSound (record h { records = refilled_pool t d h.records; refills = slice_set h.refills d (refill_of (at_place (refilled_pool t d h.records).domains d)); latest = t })
sound_refilled h d t sound past come = record {
  range = range_refilled t d h.records come (range_later h.latest t h.records past sound.range);
  counts = sound.counts ∙ sym (counts_refilled t d h.records);
  line = line_refilled h.affinity t d h.records h.queue.units sound.line;
  masks = sound.masks;
  free = sound.free;
  refills = ap (λ (rs : List (Option Moment)). slice_set rs d (refill_of (at_place (refilled_pool t d h.records).domains d))) sound.refills ∙ refills_written d (domain_after_refill (most_weight h.records) t) h.records.domains;
  room = sound.room;
  small = sound.small;
}

-- the domain has a new weight or cap
pub sound_set_domain : (h : Credit2State) (d t : ℕ) (weight percent : Option ℕ) → IsSound h → h.latest ≤ t → ForSome weight IsWeight → ForSome percent IsCap
    → IsSound (record h { records = records_with_terms t d weight percent h.records; refills = slice_set h.refills d (refill_of (at_place (records_with_terms t d weight percent h.records).domains d)); latest = t })
sound_set_domain h d t weight percent sound past weighs caps =
    let weighted : Credit2Records = change_domain d (domain_with_weight weight) h.records in
    let last : List (Option Credit2Domain) = (records_with_terms t d weight percent h.records).domains in
    record {
      range = range_set_domain t d weight percent h.records (if_some weight (IsWithin 1 65535) weighs) (if_some percent (λ (c : ℕ). c ≤ 6400) caps) (range_later h.latest t h.records past sound.range);
      counts = sound.counts ∙ sym (counts_set_domain t d weight percent h.records);
      line = line_records h.affinity h.records (records_with_terms t d weight percent h.records) h.queue.units (idle_set_domain t d weight percent h.records) (r_set_domain t (IsElsewhere (arrivals h.queue.units)) d weight percent h.records sound.line.off) sound.line;
      masks = sound.masks;
      free = sound.free;
      refills = ap (λ (rs : List (Option Moment)). slice_set rs d (refill_of (at_place last d))) (sound.refills ∙ sym (refills_changed d (domain_with_weight weight) h.records (weight_refill weight))) ∙ refills_written d (domain_with_cap (most_weight weighted) t percent) weighted.domains;
      room = sound.room;
      small = sound.small;
    }
  where
    weight_refill : (weight : Option ℕ) (x : Credit2Domain) → (domain_with_weight weight x).refill ≡ x.refill
    weight_refill None x = refl
    weight_refill (Some w) x = refl

-- the pool has a new rate limit, and perhaps another last reset
pub sound_limit : (h : Credit2State) (limit t : ℕ) (last : Option ℕ) → IsSound h → h.latest ≤ t → limit ≤ 500000 → IsSound (record h { records = record h.records { limit = limit; last_reset = last }; latest = t })
sound_limit h limit t last sound past low = record {
  range = range_limit t limit last h.records low (range_later h.latest t h.records past sound.range);
  counts = sound.counts;
  line = record { apart = sound.line.apart; joined = sound.line.joined; indices = sound.line.indices; keys = sound.line.keys; off = sound.line.off };
  masks = sound.masks;
  free = sound.free;
  refills = sound.refills;
  room = sound.room;
  small = sound.small;
}

-- tables of as many units have as many units
count_same : (a b : List (Option (List Cores))) (i : ℕ) → set_counts a ≡ set_counts b → joined_unit_count a i ≡ joined_unit_count b i
count_same [] [] i same = refl
count_same [] (y ∷ b) i same = absurd cc
count_same (x ∷ a) [] i same = absurd cc
count_same (x ∷ a) (y ∷ b) zero same = by_sets x y cc
  where
    by_sets : (o p : Option (List Cores)) → option_map length o ≡ option_map length p → elim o as (λ _. ℕ) [ None ↦ 0 | Some sets ↦ length sets ] ≡ elim p as (λ _. ℕ) [ None ↦ 0 | Some sets ↦ length sets ]
    by_sets None None e = refl
    by_sets None (Some s) e = absurd cc
    by_sets (Some s) None e = absurd cc
    by_sets (Some s) (Some z) e = cc
count_same (x ∷ a) (y ∷ b) (suc i) same = count_same a b i cc

count_all_same : (a b : List (Option (List Cores))) → set_counts a ≡ set_counts b → count_all a ≡ count_all b
count_all_same [] [] same = refl
count_all_same [] (y ∷ b) same = absurd cc
count_all_same (x ∷ a) [] same = absurd cc
count_all_same (None ∷ a) (None ∷ b) same = count_all_same a b cc
count_all_same (None ∷ a) (Some y ∷ b) same = absurd cc
count_all_same (Some x ∷ a) (None ∷ b) same = absurd cc
count_all_same (Some x ∷ a) (Some y ∷ b) same = (let r = count_all_same a b cc in let e : length x ≡ length y = cc in omega (arith, r, e))

-- the masks, once those of a domain are written anew
masks_refreshed : (affinity next : List (Option (List Cores))) (masks now : List Cores) (d : ℕ) → ((e : ℕ) → e ≢ d → at_place next e ≡ at_place affinity e) → ((u : UnitId) → u.n < 256 → mask_of now u ≡ refreshed_cores masks next d u)
    → ((u : UnitId) → is_member_among next u ≡ true → u.n < 256) → AreMasks affinity masks → AreMasks next now
masks_refreshed affinity next masks now d same written low are u joined =
    written u (low u joined) ∙ elim (ℕ_discrete u.dom.0 d) [
      | yes here ↦ by_sets (at_place next d) (subst (λ k. at_place next k ≡ at_place next d) (sym here) refl) joined here
      | no other ↦ (
          let place : at_place next u.dom.0 ≡ at_place affinity u.dom.0 = same u.dom.0 other in
          let before : is_member_among affinity u ≡ true = subst (λ (o : Option (List Cores)). nat_lt u.n (elim o as (λ _. ℕ) [ None ↦ 0 | Some sets ↦ length sets ]) ≡ true) place joined in
          elsewhere (at_place next d) other ∙ are u before ∙ ap (λ (o : Option (List Cores)). core_set (elim o as (λ _. ℕ) [ None ↦ 0 | Some sets ↦ (slice_index_or sets u.n (core_set 0)).0 ])) (sym place))
    ]
  where
    elsewhere : (o : Option (List Cores)) → u.dom.0 ≢ d → elim o as (λ _. Cores) [ None ↦ mask_of masks u | Some sets ↦ masked_cores masks d sets (length sets) u ] ≡ mask_of masks u
    elsewhere None other = refl
    elsewhere (Some sets) other = (let e : (u.dom.0 == d) ≡ false = elim (cases_Bool (u.dom.0 == d)) [ inl is ↦ absurd (other (grind (arith, is))) | inr is ↦ is ] in rw e refl)

    by_sets : (o : Option (List Cores)) → at_place next u.dom.0 ≡ o → is_member_among next u ≡ true → u.dom.0 ≡ d → elim o as (λ _. Cores) [ None ↦ mask_of masks u | Some sets ↦ masked_cores masks d sets (length sets) u ] ≡ core_set (unit_cores next u)
    by_sets None is joined here = absurd (
        let l = ltb-true u.n (joined_unit_count next u.dom.0) joined in
        let z : joined_unit_count next u.dom.0 ≡ 0 = ap (λ (p : Option (List Cores)). elim p as (λ _. ℕ) [ None ↦ 0 | Some sets ↦ length sets ]) is in
        omega (arith, l, z))
    by_sets (Some sets) is joined here =
        let a : (u.dom.0 == d) ≡ true = eq-eqb u.dom.0 d here in
        let b : nat_lt u.n (length sets) ≡ true = subst (λ (p : Option (List Cores)). nat_lt u.n (elim p as (λ _. ℕ) [ None ↦ 0 | Some s ↦ length s ]) ≡ true) is joined in
        let left : masked_cores masks d sets (length sets) u ≡ slice_index_or sets u.n (core_set 0) = rw (a, b) refl in
        left ∙ ap (λ (p : Option (List Cores)). core_set (elim p as (λ _. ℕ) [ None ↦ 0 | Some s ↦ (slice_index_or s u.n (core_set 0)).0 ])) (sym is)

-- the sets of cores change
length_pinned : (unit : Option ℕ) (cores : Cores) (sets : List Cores) → length (pinned unit cores sets) ≡ length sets
length_pinned None cores sets = length-map sets _
length_pinned (Some n) cores sets = length_change_item n _ sets

-- the sets of cores of one domain change, of which each unit may have all cores then
free_elsewhere : (unpinned : Bool) (affinity next : List (Option (List Cores))) (d : ℕ) → ((e : ℕ) → e ≢ d → at_place next e ≡ at_place affinity e)
    → ((n : ℕ) → nat_lt n (joined_unit_count next d) ≡ true → elim (at_place next d) as (λ _. ℕ) [ None ↦ 0 | Some s ↦ (slice_index_or s n (core_set 0)).0 ] ≡ 2 ^ 64 - 1) → IsFree unpinned affinity → IsFree unpinned next
free_elsewhere unpinned affinity next d same all free = record {
  all = λ is u joined. elim (ℕ_discrete u.dom.0 d) [
    | yes here ↦ (
        let there : at_place next u.dom.0 ≡ at_place next d = ap (at_place next) here in
        ap (λ (o : Option (List Cores)). elim o as (λ _. ℕ) [ None ↦ 0 | Some s ↦ (slice_index_or s u.n (core_set 0)).0 ]) there
        ∙ all u.n (subst (λ (o : Option (List Cores)). nat_lt u.n (elim o as (λ _. ℕ) [ None ↦ 0 | Some s ↦ length s ]) ≡ true) there joined))
    | no other ↦ (
        let place : at_place next u.dom.0 ≡ at_place affinity u.dom.0 = same u.dom.0 other in
        ap (λ (o : Option (List Cores)). elim o as (λ _. ℕ) [ None ↦ 0 | Some s ↦ (slice_index_or s u.n (core_set 0)).0 ]) place
        ∙ free.all is u (subst (λ (o : Option (List Cores)). nat_lt u.n (elim o as (λ _. ℕ) [ None ↦ 0 | Some s ↦ length s ]) ≡ true) place joined))
  ];
}

-- a set of all cores in place of some
pinned_all : (unit : Option ℕ) (cores : Cores) (sets : List Cores) (n : ℕ) → cores.0 ≡ 2 ^ 64 - 1 → n < length sets → (slice_index_or sets n (core_set 0)).0 ≡ 2 ^ 64 - 1 → (slice_index_or (pinned unit cores sets) n (core_set 0)).0 ≡ 2 ^ 64 - 1
pinned_all None cores [] n all low was = absurd (omega (arith, low))
pinned_all None cores (s ∷ sets) zero all low was = all
pinned_all None cores (s ∷ sets) (suc n) all low was = pinned_all None cores sets n all (omega (arith, low)) was
pinned_all (Some k) cores [] n all low was = absurd (omega (arith, low))
pinned_all (Some zero) cores (s ∷ sets) zero all low was = all
pinned_all (Some zero) cores (s ∷ sets) (suc n) all low was = was
pinned_all (Some (suc k)) cores (s ∷ sets) zero all low was = was
pinned_all (Some (suc k)) cores (s ∷ sets) (suc n) all low was = pinned_all (Some k) cores sets n all (omega (arith, low)) was

free_pinned : (unpinned : Bool) (affinity : List (Option (List Cores))) (d : ℕ) (unit : Option ℕ) (cores : Cores) → IsFree unpinned affinity → IsFree (unpinned && cores.0 == 2 ^ 64 - 1) (change_at d (pinned unit cores) affinity)
free_pinned false affinity d unit cores free = record { all = λ is u joined. absurd cc }
free_pinned true affinity d unit cores free = record { all = λ is. (free_elsewhere true affinity (change_at d (pinned unit cores) affinity) d (λ e other. at_place-change_at_other d e (pinned unit cores) affinity other) (each (grind (arith, is)) (at_place affinity d) refl) free).all refl }
  where
    each : cores.0 ≡ 2 ^ 64 - 1 → (o : Option (List Cores)) → at_place affinity d ≡ o → (n : ℕ) → nat_lt n (joined_unit_count (change_at d (pinned unit cores) affinity) d) ≡ true
        → elim (at_place (change_at d (pinned unit cores) affinity) d) as (λ _. ℕ) [ None ↦ 0 | Some s ↦ (slice_index_or s n (core_set 0)).0 ] ≡ 2 ^ 64 - 1
    each all None at n joined =
        let there : at_place (change_at d (pinned unit cores) affinity) d ≡ None = at_place-change_at d (pinned unit cores) affinity ∙ ap (option_map (pinned unit cores)) at in
        let l = ltb-true n (joined_unit_count (change_at d (pinned unit cores) affinity) d) joined in
        let z : joined_unit_count (change_at d (pinned unit cores) affinity) d ≡ 0 = ap (λ (p : Option (List Cores)). elim p as (λ _. ℕ) [ None ↦ 0 | Some s ↦ length s ]) there in
        absurd (omega (arith, l, z))
    each all (Some sets) at n joined =
        let there : at_place (change_at d (pinned unit cores) affinity) d ≡ Some (pinned unit cores sets) = at_place-change_at d (pinned unit cores) affinity ∙ ap (option_map (pinned unit cores)) at in
        let l = ltb-true n (joined_unit_count (change_at d (pinned unit cores) affinity) d) joined in
        let z : joined_unit_count (change_at d (pinned unit cores) affinity) d ≡ length (pinned unit cores sets) = ap (λ (p : Option (List Cores)). elim p as (λ _. ℕ) [ None ↦ 0 | Some s ↦ length s ]) there in
        let same = length_pinned unit cores sets in
        let low : n < length sets = omega (arith, l, z, same) in
        let u : UnitId = record { dom = domain d; n = n } in
        let here : nat_lt n (joined_unit_count affinity d) ≡ true = subst (λ (o : Option (List Cores)). nat_lt n (elim o as (λ _. ℕ) [ None ↦ 0 | Some s ↦ length s ]) ≡ true) (sym at) (lt-ltb n (length sets) low) in
        let was : (slice_index_or sets n (core_set 0)).0 ≡ 2 ^ 64 - 1 = sym (ap (λ (o : Option (List Cores)). elim o as (λ _. ℕ) [ None ↦ 0 | Some s ↦ (slice_index_or s n (core_set 0)).0 ]) at) ∙ free.all refl u here in
        ap (λ (o : Option (List Cores)). elim o as (λ _. ℕ) [ None ↦ 0 | Some s ↦ (slice_index_or s n (core_set 0)).0 ]) there ∙ pinned_all unit cores sets n all low was

pub sound_pinned : (h : Credit2State) (d t : ℕ) (unit : Option ℕ) (cores : Cores) (now : List Cores) → IsSound h → h.latest ≤ t → ((u : UnitId) → u.n < 256 → mask_of now u ≡ refreshed_cores h.masks (change_at d (pinned unit cores) h.affinity) d u)
    → IsSound (record h { affinity = change_at d (pinned unit cores) h.affinity; masks = now; latest = t; unpinned = h.unpinned && cores.0 == 2 ^ 64 - 1 })
sound_pinned h d t unit cores now sound past written =
    let next : List (Option (List Cores)) = change_at d (pinned unit cores) h.affinity in
    let same : set_counts next ≡ set_counts h.affinity = map-change_at (λ (o : Option (List Cores)). option_map length o) d (pinned unit cores) h.affinity (λ x at. ap (λ k. Some k) (length_pinned unit cores x)) in
    let all = count_all_same next h.affinity same in
    let stays : (u : UnitId) → is_member_among h.affinity u ≡ true → is_member_among next u ≡ true = λ u joined. subst (λ k. nat_lt u.n k ≡ true) (sym (count_same next h.affinity u.dom.0 same)) joined in
    let back : (u : UnitId) → is_member_among next u ≡ true → is_member_among h.affinity u ≡ true = λ u joined. subst (λ k. nat_lt u.n k ≡ true) (count_same next h.affinity u.dom.0 same) joined in
    let room = sound.room in
    let small = sound.small in
    record {
      range = range_later h.latest t h.records past sound.range;
      counts = same ∙ sound.counts;
      line = record {
        apart = sound.line.apart;
        joined = each_has (arrivals h.queue.units) (λ u. is_member_among next u ≡ true) (λ u there. stays u (at_unit (λ w. is_member_among h.affinity w ≡ true) u (arrivals h.queue.units) there sound.line.joined));
        indices = sound.line.indices;
        keys = sound.line.keys;
        off = sound.line.off;
      };
      masks = masks_refreshed h.affinity next h.masks now d (λ e other. at_place-change_at_other d e (pinned unit cores) h.affinity other) written (λ u joined. (let l = joined_small h.latest h.records h.affinity u sound.range sound.counts (back u joined) in omega (arith, l))) sound.masks;
      free = free_pinned h.unpinned h.affinity d unit cores sound.free;
      refills = sound.refills;
      room = omega (arith, room, all);
      small = omega (arith, small, all);
    }

-- one place changes, of which no unit waits
line_elsewhere : (affinity next : List (Option (List Cores))) (records after : Credit2Records) (d : ℕ) (es : List Queued) → ((e : ℕ) → e ≢ d → at_place next e ≡ at_place affinity e) → ((e : ℕ) → e ≢ d → at_place after.domains e ≡ at_place records.domains e)
    → ((u : UnitId) → has_listed_unit (arrivals es) u ≡ true → u.dom.0 ≢ d) → AllRunOnly (IsElsewhere (arrivals es)) after → IsLineOf affinity records es → IsLineOf next after es
line_elsewhere affinity next records after d es sets places other only line = record {
  apart = line.apart;
  joined = each_has (arrivals es) (λ u. is_member_among next u ≡ true)
      (λ u there. subst (λ (o : Option (List Cores)). nat_lt u.n (elim o as (λ _. ℕ) [ None ↦ 0 | Some s ↦ length s ]) ≡ true) (sym (sets u.dom.0 (other u there))) (at_unit (λ w. is_member_among affinity w ≡ true) u (arrivals es) there line.joined));
  indices = line.indices;
  keys = each_keeps records after es (queued_have (λ (u : UnitId). unit_credit after u ≡ unit_credit records u) es (each_has (arrivals es) (λ u. unit_credit after u ≡ unit_credit records u)
      (λ u there. ap (λ (o : Option Credit2Domain). elim o as (λ _. ℤ) [ None ↦ pos 0 | Some x ↦ elim (slice_get x.units u.n) as (λ _. ℤ) [ None ↦ pos 0 | Some y ↦ y.credit ] ]) (places u.dom.0 (other u there))))) line.keys;
  off = only;
}

-- the domain parts
pub sound_parted : (h : Credit2State) (d k : ℕ) → IsSound h → HasNoneBusy (scheduler_in h) d → k ≡ joined_unit_count h.affinity d
    → IsSound (record h { records = record h.records { domains = clear_at d h.records.domains }; affinity = clear_at d h.affinity; refills = slice_set h.refills d (refill_of (at_place (clear_at d h.records.domains) d)); spare = h.spare + k })
sound_parted h d k sound idle is =
    let after : Credit2Records = record h.records { domains = clear_at d h.records.domains } in
    let all = count_all-clear_at d h.affinity in
    let room = sound.room in
    let small = sound.small in
    record {
      range = range_parted h.latest d h.records sound.range;
      counts = map-set (λ (o : Option (List Cores)). option_map length o) d None h.affinity ∙ ap (λ (ks : List (Option ℕ)). slice_set ks d None) sound.counts ∙ sym (map-set (λ (o : Option Credit2Domain). option_map (λ (x : Credit2Domain). length x.units) o) d None h.records.domains);
      line = line_elsewhere h.affinity (clear_at d h.affinity) h.records after d h.queue.units (λ e other. at_place-clear_at_other d e h.affinity other) (λ e other. at_place-clear_at_other d e h.records.domains other)
          (λ u there same. clash (has_listed_unit (arrivals h.queue.units) u) there (idle.waiting u same)) (EachAt-clear_at (λ e (x : Credit2Domain). RunsOnly (IsElsewhere (arrivals h.queue.units) e) x.units) d h.records.domains sound.line.off) sound.line;
      masks = λ u joined. (
          let other : u.dom.0 ≢ d = λ e. (let l = ltb-true u.n (joined_unit_count (clear_at d h.affinity) u.dom.0) joined in let z : joined_unit_count (clear_at d h.affinity) u.dom.0 ≡ 0 = ap (λ (p : Option (List Cores)). elim p as (λ _. ℕ) [ None ↦ 0 | Some s ↦ length s ]) (subst (λ j. at_place (clear_at d h.affinity) j ≡ None) (sym e) (at_place-clear_at d h.affinity)) in omega (arith, l, z)) in
          let place : at_place (clear_at d h.affinity) u.dom.0 ≡ at_place h.affinity u.dom.0 = at_place-clear_at_other d u.dom.0 h.affinity other in
          sound.masks u (subst (λ (o : Option (List Cores)). nat_lt u.n (elim o as (λ _. ℕ) [ None ↦ 0 | Some s ↦ length s ]) ≡ true) place joined)
          ∙ ap (λ (o : Option (List Cores)). core_set (elim o as (λ _. ℕ) [ None ↦ 0 | Some s ↦ (slice_index_or s u.n (core_set 0)).0 ])) (sym place));
      free = free_elsewhere h.unpinned h.affinity (clear_at d h.affinity) d (λ e other. at_place-clear_at_other d e h.affinity other)
          (λ n joined. absurd (let l = ltb-true n (joined_unit_count (clear_at d h.affinity) d) joined in let z : joined_unit_count (clear_at d h.affinity) d ≡ 0 = ap (λ (p : Option (List Cores)). elim p as (λ _. ℕ) [ None ↦ 0 | Some s ↦ length s ]) (at_place-clear_at d h.affinity) in omega (arith, l, z))) sound.free;
      refills = ap (λ (rs : List (Option Moment)). slice_set rs d (refill_of (at_place (clear_at d h.records.domains) d))) sound.refills ∙ refills_put d None h.records.domains;
      room = omega (arith, room, all, is);
      small = omega (arith, small, all, is);
    }

-- a domain joins
replicate_get : {X : Type 0} (k n : ℕ) (x y : X) → slice_get (replicate k x) n ≡ Some y → x ≡ y
replicate_get zero n x y at = absurd cc
replicate_get (suc k) zero x y at = cc
replicate_get (suc k) (suc n) x y at = replicate_get k n x y at

pub sound_joined : (h : Credit2State) (d weight percent count t : ℕ) (sets now : List Cores) → IsSound h → d < length h.affinity → at_place h.affinity d ≡ None → count ≤ 32 → count ≤ h.spare → IsWithin 1 65535 weight → percent ≤ 6400 → h.latest ≤ t
    → sets ≡ replicate count (core_set (2 ^ 64 - 1)) → ((u : UnitId) → u.n < 256 → mask_of now u ≡ refreshed_cores h.masks (put_at d sets h.affinity) d u)
    → IsSound (record {
      records = record h.records { domains = put_at d (fresh_credit2_domain weight percent count t) h.records.domains };
      affinity = put_at d sets h.affinity;
      queue = h.queue;
      masks = now;
      refills = slice_set h.refills d (refill_of (at_place (put_at d (fresh_credit2_domain weight percent count t) h.records.domains) d));
      spare = h.spare - count;
      latest = t;
      unpinned = h.unpinned;
    })
sound_joined h d weight percent count t sets now sound inside absent few fits within low past each written =
    let long : length sets ≡ count = ap length each ∙ length-replicate count (core_set (2 ^ 64 - 1)) in
    let fresh : Credit2Domain = fresh_credit2_domain weight percent count t in
    let new : Credit2Unit = record { credit = pos start_credit; residual = 0; held = pos 0; burned = None } in
    let after : Credit2Records = record h.records { domains = put_at d fresh h.records.domains } in
    let next : List (Option (List Cores)) = put_at d sets h.affinity in
    let all = count_all-put_at d sets h.affinity absent in
    let room = sound.room in
    let small = sound.small in
    let range : InRange t after = range_joined t d weight percent count h.records within low few (range_later h.latest t h.records past sound.range) in
    let counts : set_counts next ≡ unit_counts after.domains =
    map-set (λ (o : Option (List Cores)). option_map length o) d (Some sets) h.affinity
    ∙ ap (λ k. slice_set (set_counts h.affinity) d (Some k)) (long ∙ sym (length-replicate count new))
    ∙ ap (λ (ks : List (Option ℕ)). slice_set ks d (Some (length fresh.units))) sound.counts
    ∙ sym (map-set (λ (o : Option Credit2Domain). option_map (λ (x : Credit2Domain). length x.units) o) d (Some fresh) h.records.domains)
    in
    record {
      range = range;
      counts = counts;
      line = line_elsewhere h.affinity next h.records after d h.queue.units (λ e other. at_place-put_at_other d e sets h.affinity other) (λ e other. at_place-put_at_other d e fresh h.records.domains other)
          (λ u there same. (
          let joined = at_unit (λ w. is_member_among h.affinity w ≡ true) u (arrivals h.queue.units) there sound.line.joined in
          let l = ltb-true u.n (joined_unit_count h.affinity u.dom.0) joined in
          let z : joined_unit_count h.affinity u.dom.0 ≡ 0 = ap (λ (p : Option (List Cores)). elim p as (λ _. ℕ) [ None ↦ 0 | Some s ↦ length s ]) (subst (λ j. at_place h.affinity j ≡ None) (sym same) absent) in
          omega (arith, l, z)))
          (EachAt-put_at (λ e (x : Credit2Domain). RunsOnly (IsElsewhere (arrivals h.queue.units) e) x.units) d fresh h.records.domains sound.line.off (λ n y at. inl (subst (λ (z : Credit2Unit). z.burned ≡ None) (replicate_get count n new y at) refl))) sound.line;
      masks = masks_refreshed h.affinity next h.masks now d (λ e other. at_place-put_at_other d e sets h.affinity other) written (λ u joined. (let l = joined_small t after next u range counts joined in omega (arith, l))) sound.masks;
      free = free_elsewhere h.unpinned h.affinity next d (λ e other. at_place-put_at_other d e sets h.affinity other) (λ n joined. (
          let there : at_place next d ≡ Some sets = at_place-put_at d sets h.affinity inside in
          let low : nat_lt n (length sets) ≡ true = subst (λ (o : Option (List Cores)). nat_lt n (elim o as (λ _. ℕ) [ None ↦ 0 | Some s ↦ length s ]) ≡ true) there joined in
          let few_enough : n < count = (let l = ltb-true n (length sets) low in omega (arith, l, long)) in
          ap (λ (o : Option (List Cores)). elim o as (λ _. ℕ) [ None ↦ 0 | Some s ↦ (slice_index_or s n (core_set 0)).0 ]) there
          ∙ ap (λ (s : List Cores). (slice_index_or s n (core_set 0)).0) each
          ∙ ap (λ (x : Cores). x.0) (get_or-replicate count n (core_set (2 ^ 64 - 1)) (core_set 0) few_enough))) sound.free;
      refills = ap (λ (rs : List (Option Moment)). slice_set rs d (refill_of (at_place (put_at d fresh h.records.domains) d))) sound.refills ∙ refills_put d (Some fresh) h.records.domains;
      room = omega (arith, room, all, long, fits);
      small = omega (arith, small, all, long, fits);
    }

-- a pool that no domain has joined
all_empty : {X : Type 0} (places : List (Option X)) → list_any is_some places ≡ false → places ≡ replicate (length places) None
all_empty [] none = refl
all_empty (None ∷ places) none = ap (λ ps. None ∷ ps) (all_empty places none)
all_empty (Some x ∷ places) none = absurd cc

all_empty_too : (affinity : List (Option (List Cores))) (domains : List (Option Credit2Domain)) → set_counts affinity ≡ unit_counts domains → list_any is_some affinity ≡ false → domains ≡ replicate (length affinity) None
all_empty_too [] [] same none = refl
all_empty_too [] (d ∷ domains) same none = absurd cc
all_empty_too (a ∷ affinity) [] same none = absurd cc
all_empty_too (Some x ∷ affinity) (d ∷ domains) same none = absurd cc
all_empty_too (None ∷ affinity) (None ∷ domains) same none = (let rest : set_counts affinity ≡ unit_counts domains = cc in ap (λ (ps : List (Option Credit2Domain)). None ∷ ps) (all_empty_too affinity domains rest none))
all_empty_too (None ∷ affinity) (Some d ∷ domains) same none = absurd cc

nobody_waits : (affinity : List (Option (List Cores))) (units : List UnitId) → affinity ≡ replicate (length affinity) None → AllByRecursion (λ u. is_member_among affinity u ≡ true) units → units ≡ []
nobody_waits affinity [] empty joined = refl
nobody_waits affinity (u ∷ units) empty joined = absurd (
    let l = ltb-true u.n (joined_unit_count affinity u.dom.0) joined.0 in
    let z : joined_unit_count affinity u.dom.0 ≡ 0 = ap (λ (a : List (Option (List Cores))). joined_unit_count a u.dom.0) empty ∙ count_at-empty (length affinity) u.dom.0 in
    omega (arith, l, z))

-- a pool that no domain has joined begins anew
pub restarted_is : (h : Credit2State) (limit : ℕ) → IsSound h → is_vacant (scheduler_in h) ≡ true → seen_in (record h { records = record h.records { limit = limit; last_reset = None } }) ≡ with_scheduler (restarted_scheduler (pool_params.Credit2 limit) (scheduler_in h)) (seen_in h)
restarted_is h limit sound vacant =
    let none : list_any is_some h.affinity ≡ false = not-true (list_any is_some h.affinity) vacant in
    let sets : h.affinity ≡ replicate (length h.affinity) None = all_empty h.affinity none in
    let places : h.records.domains ≡ replicate (length h.affinity) None = all_empty_too h.affinity h.records.domains sound.counts none in
    let nobody : arrivals h.queue.units ≡ [] = nobody_waits h.affinity (arrivals h.queue.units) sets sound.line.joined in
    let seen : List UnitId → List (Option (List Cores)) → List (Option Credit2Domain) → Seen = λ units affinity domains.
    record { scheduler = credit2_scheduler units affinity (record { limit = limit; last_reset = None; domains = domains }); spare = h.spare; latest = h.latest }
    in
    ap (λ (units : List UnitId). seen units h.affinity h.records.domains) nobody ∙ ap (λ (affinity : List (Option (List Cores))). seen [] affinity h.records.domains) sets ∙ ap (seen [] (replicate (length h.affinity) None)) places

empty_counts : (n : ℕ) → set_counts (replicate n None) ≡ unit_counts (replicate n None)
empty_counts zero = refl
empty_counts (suc n) = ap (λ ks. None ∷ ks) (empty_counts n)

empty_refills : (n : ℕ) → ◌≡◌ {A = List (Option Moment)} (replicate n None) (refills_of (replicate n None))
empty_refills zero = refl
empty_refills (suc n) = ap (λ ks. None ∷ ks) (empty_refills n)

pub sound_fresh : (domains units latest : ℕ) (masks : List Cores) → domains ≤ 64 → units ≤ 256
    → IsSound (record { records = record { limit = 1000; last_reset = None; domains = replicate domains None }; affinity = replicate domains None; queue = empty units; masks = masks; refills = replicate domains None; spare = units; latest = latest; unpinned = true })
sound_fresh n units latest masks few small =
    let records : Credit2Records = record { limit = 1000; last_reset = None; domains = replicate n None } in
    let long : length records.domains ≡ n = length-replicate n None in
    let all = count_all-empty n in
    record {
      range = record {
        few = omega (arith, long, few);
        credits = record { places = refl; limit = omega arith; domains = EachPlace-empty (Credit2DomainFits latest) n };
        budgets = λ d x at. EachPlace-empty (λ (y : Credit2Domain). BudgetFits latest (λ k. k ≤ 32) Nobody Nobody y) n d x at;
      };
      counts = empty_counts n;
      line = record { apart = tt; joined = tt; indices = tt; keys = tt; off = λ d x at. EachPlace-empty (λ (y : Credit2Domain). RunsOnly (IsElsewhere [] d) y.units) n d x at };
      masks = λ u joined. absurd (let l = ltb-true u.n (joined_unit_count (replicate n None) u.dom.0) joined in let z = count_at-empty n u.dom.0 in omega (arith, l, z));
      free = record { all = λ free u joined. absurd (let l = ltb-true u.n (joined_unit_count (replicate n None) u.dom.0) joined in let z = count_at-empty n u.dom.0 in omega (arith, l, z)) };
      refills = empty_refills n;
      room = omega (arith, all);
      small = omega (arith, all, small);
    }

-- where no domain has joined, no unit is pinned
pub sound_unpinned : (h : Credit2State) → IsSound h → is_vacant (scheduler_in h) ≡ true → IsSound (record h { unpinned = true })
sound_unpinned h sound vacant = record {
  range = sound.range;
  counts = sound.counts;
  line = sound.line;
  masks = sound.masks;
  free = record {
    all = λ is u joined. absurd (
        let none : list_any is_some h.affinity ≡ false = not-true (list_any is_some h.affinity) vacant in
        let l = ltb-true u.n (joined_unit_count h.affinity u.dom.0) joined in
        let z : joined_unit_count h.affinity u.dom.0 ≡ 0 = ap (λ (a : List (Option (List Cores))). joined_unit_count a u.dom.0) (all_empty h.affinity none) ∙ count_at-empty (length h.affinity) u.dom.0 in
        omega (arith, l, z));
  };
  refills = sound.refills;
  room = sound.room;
  small = sound.small;
}
