-- What holds of the units that wait, after each change.
use Rattle.std.proofs.Common.{◌≡◌, ◌<◌, ◌+◌, ℕ, Bool, true, false, List, [], ◌∷◌, ◌++◌, length, map, refl, ap, subst, sym, ◌∙◌, arith, cond, inl, inr, ◌⊎◌}
use Rattle.std.specs.Prelude.{Option, Some, None, not}
use Rattle.std.specs.Bool.{OnTrue, OnFalse}
use Rattle.std.specs.List.{AllByRecursion}
use Rattle.sched_base.specs.Numbers.{domain}
use Rattle.sched_base.specs.declared.Cores.{Cores}
use Rattle.sched_base.specs.declared.UnitId.{UnitId}
use Rattle.sched_model.specs.declared.state.Credit2Records.{Credit2Records}
use Rattle.sched_model.specs.Places.{has_listed_unit, without_unit, same_unit}
use Rattle.sched_model.specs.Credit2.{own_burned_records, reset_records, domain_after_take, change_domain, running_records, off_records, refilled_pool}
use Rattle.sched_base.proofs.Lists.{AllByRecursion-push, AllByRecursion-filter}
use Rattle.sched_laws.proofs.Choices.{same_unit_same}
use Rattle.sched_laws.proofs.Counts.{without_absent}
use Rattle.state_ranges.proofs.Decided.{IsCur, r_burn_cur, r_reset, r_take, r_refilled, r_switch_off, r_set_running, unit_rec}
use Rattle.state_ranges.specs.Budgets.{AllRunOnly}
use Rattle.sched_ops.specs.Conditions.{IsApart}
use Rattle.arrival_queue.specs.Queues as queues
use Rattle.arrival_queue.specs.Queues.{Queued, queued_unit, list_with, list_without, closed_up, rank_in}
use Rattle.runq.specs.Queue.{Queue, after_remove}
use Rattle.queue_laws.specs.Arrivals.{arrivals}
use Rattle.queue_laws.proofs.Once.{keys_placed, keys_removed}
use Rattle.queue_laws.proofs.Arrivals.{length-arrivals}
use Rattle.credit2_core.specs.Keys.{HasCredits, key_in}
use Rattle.sched_ops.specs.Affinity.{is_member_among}
use Rattle.credit2_core.specs.Credit2State.{IsLineOf, IsSameRoom}
use Rattle.credit2_core.proofs.Lists.{apart_push, apart_without, has_unit-without, has_unit-push}
use Rattle.credit2_core.proofs.Waiting.{IsOrdered, has_arrived, removed_arrivals, placed_arrivals}
use Rattle.credit2_core.proofs.Members.{IsElsewhere}
use Rattle.credit2_core.proofs.Idle.{IsOff, KeepsIdle, keys_kept, idle_burn_cur, idle_take, idle_set_running, idle_switch_off, idle_refilled}

-- units that run only where a stronger rule says so
pub run_weaker : (On On2 : ℕ → ℕ → Type 0) (records : Credit2Records) → ((d n : ℕ) → On d n → On2 d n) → AllRunOnly On records → AllRunOnly On2 records
run_weaker On On2 records more only d x at n y has = elim (only d x at n y has) [ inl none ↦ inl none | inr on ↦ inr (more d n on) ]

module _ (affinity : List (Option (List Cores))) where
  -- the records change, and the credit of no unit that waits does
  pub line_records : (records next : Credit2Records) (es : List Queued) → KeepsIdle records next → AllRunOnly (IsElsewhere (arrivals es)) next → IsLineOf affinity records es → IsLineOf affinity next es
  line_records records next es keeps only line = record { apart = line.apart; joined = line.joined; indices = line.indices; keys = keys_kept records next es keeps line.off line.keys; off = only }

  -- the keys follow the credits, in the same order of arrival
  pub line_rekeyed : (records next : Credit2Records) (es ds : List Queued) → arrivals ds ≡ arrivals es → HasCredits next ds → AllRunOnly (IsElsewhere (arrivals es)) next → IsLineOf affinity records es → IsLineOf affinity next ds
  line_rekeyed records next es ds order keys only line = record {
    apart = subst IsApart (sym order) line.apart;
    joined = subst (λ (units : List UnitId). AllByRecursion (λ u. is_member_among affinity u ≡ true) units) (sym order) line.joined;
    indices = subst (λ (units : List UnitId). AllByRecursion (λ (u : UnitId). u.n < 256) units) (sym order) line.indices;
    keys = keys;
    off = subst (λ (units : List UnitId). AllRunOnly (IsElsewhere units) next) (sym order) only;
  }

  pub line_burn_cur : (cur : Option UnitId) (t : ℕ) (records : Credit2Records) (es : List Queued) → IsLineOf affinity records es → IsLineOf affinity (own_burned_records cur t records) es
  line_burn_cur cur t records es line = line_records records (own_burned_records cur t records) es (idle_burn_cur cur t records) (r_burn_cur t (IsElsewhere (arrivals es)) cur records line.off) line

  pub line_take : (u : UnitId) (records : Credit2Records) (es : List Queued) → IsLineOf affinity records es → IsLineOf affinity (change_domain u.dom.0 (domain_after_take u.n) records) es
  line_take u records es line = line_records records (change_domain u.dom.0 (domain_after_take u.n) records) es (idle_take u records) (r_take 0 (IsElsewhere (arrivals es)) u records line.off) line

  pub line_switch_off : (cur : Option UnitId) (records : Credit2Records) (es : List Queued) → IsLineOf affinity records es → IsLineOf affinity (off_records cur records) es
  line_switch_off cur records es line =
      line_records records (off_records cur records) es (idle_switch_off cur records)
      (run_weaker (λ d n. IsElsewhere (arrivals es) d n × (IsCur cur d n → ⊥)) (IsElsewhere (arrivals es)) (off_records cur records) (λ d n on. on.0) (r_switch_off 0 (IsElsewhere (arrivals es)) cur records line.off)) line

  pub line_set_running : (t : ℕ) (u : UnitId) (records : Credit2Records) (es : List Queued) → has_listed_unit (arrivals es) u ≡ false → IsLineOf affinity records es → IsLineOf affinity (running_records (Some t) u records) es
  line_set_running t u records es absent line =
      line_records records (running_records (Some t) u records) es (idle_set_running (Some t) u records)
      (r_set_running t (IsElsewhere (arrivals es)) (IsElsewhere (arrivals es)) u records (λ d n on. on) absent line.off) line

  pub line_reset : (t k : ℕ) (records : Credit2Records) (es ds : List Queued) → arrivals ds ≡ arrivals es → HasCredits (reset_records t k records) ds → IsLineOf affinity records es → IsLineOf affinity (reset_records t k records) ds
  line_reset t k records es ds order keys line = line_rekeyed records (reset_records t k records) es ds order keys (r_reset t (IsElsewhere (arrivals es)) k records line.off) line

  pub line_refilled : (t d : ℕ) (records : Credit2Records) (es : List Queued) → IsLineOf affinity records es → IsLineOf affinity (refilled_pool t d records) es
  line_refilled t d records es line = line_records records (refilled_pool t d records) es (idle_refilled t d records) (r_refilled t (IsElsewhere (arrivals es)) d records line.off) line

  -- one that waited waits no more
  pub record IsLeft (records : Credit2Records) (u : UnitId) (old new : Queue) : Type 0 where
    pub order : arrivals new.units ≡ without_unit u (arrivals old.units)
    pub line : IsLineOf affinity records new.units
    pub room : IsSameRoom old new

  gone : (records : Credit2Records) (u : UnitId) (old : Queue) → IsOrdered old.units → u.n < 256 → queues.has_unit u old.units ≡ true → IsLineOf affinity records old.units → IsLeft records u old (after_remove old u)
  gone records u old ordered low there line =
      let es : List Queued = old.units in
      let ds : List Queued = map (closed_up (rank_in u es)) (list_without u es) in
      let order : arrivals ds ≡ without_unit u (arrivals es) = removed_arrivals u es ordered low line.indices there in
      record {
        order = order;
        line = record {
          apart = subst IsApart (sym order) (apart_without u (arrivals es) line.apart);
          joined = subst (λ (units : List UnitId). AllByRecursion (λ w. is_member_among affinity w ≡ true) units) (sym order) (AllByRecursion-filter (λ w. is_member_among affinity w ≡ true) (λ w. is_member_among affinity w ≡ true) (λ w. not (same_unit u w)) (λ w passes here. here) (arrivals es) line.joined);
          indices = subst (λ (units : List UnitId). AllByRecursion (λ (w : UnitId). w.n < 256) units) (sym order) (AllByRecursion-filter (λ (w : UnitId). w.n < 256) (λ (w : UnitId). w.n < 256) (λ w. not (same_unit u w)) (λ w passes here. here) (arrivals es) line.indices);
          keys = keys_removed (key_in records) u (rank_in u es) es line.keys;
          off = subst (λ (units : List UnitId). AllRunOnly (IsElsewhere units) records) (sym order)
              (run_weaker (IsElsewhere (arrivals es)) (IsElsewhere (without_unit u (arrivals es))) records (λ d n other. has_unit-without (record { dom = domain d; n = n }) u (arrivals es) other) line.off);
        };
        room = record { room = (let fewer : length ds + 1 ≡ length es = shorter in omega (arith, fewer)) };
      }
    where
      times_one : (units : List UnitId) → IsApart units → has_listed_unit units u ≡ true → length (without_unit u units) + 1 ≡ length units
      times_one [] apart has = absurd cc
      times_one (w ∷ units) apart has =
          elim (same_unit u w) as (λ b. same_unit u w ≡ b → length (cond (not b) (w ∷ without_unit u units) (without_unit u units)) + 1 ≡ length (w ∷ units)) [
            | true ↦ λ is. (let e : without_unit u units ≡ units = without_absent u units (subst (λ (x : UnitId). has_listed_unit units x ≡ false) (sym (same_unit_same u w is)) apart.0) in rw e (omega arith))
            | false ↦ λ is. (let r = times_one units apart.1 (rest is) in omega (arith, r))
          ] refl
        where
          rest : same_unit u w ≡ false → has_listed_unit units u ≡ true
          rest is = rw is at has

      shorter : length (map (closed_up (rank_in u old.units)) (list_without u old.units)) + 1 ≡ length old.units
      shorter =
          let order = removed_arrivals u old.units ordered low line.indices there in
          let one = times_one (arrivals old.units) line.apart (sym (has_arrived u old.units low line.indices) ∙ there) in
          let a = length-arrivals (map (closed_up (rank_in u old.units)) (list_without u old.units)) in
          let b = length-arrivals old.units in
          let c = ap length order in
          omega (arith, one, a, b, c)

  kept : (records : Credit2Records) (u : UnitId) (old : Queue) → u.n < 256 → queues.has_unit u old.units ≡ false → IsLineOf affinity records old.units → IsLeft records u old old
  kept records u old low absent line = record {
    order = sym (without_absent u (arrivals old.units) (sym (has_arrived u old.units low line.indices) ∙ absent));
    line = line;
    room = record { room = refl };
  }

  pub line_left : (records : Credit2Records) (u : UnitId) (old new : Queue) (waited : Bool) → IsOrdered old.units → u.n < 256 → waited ≡ queues.has_unit u old.units → OnTrue waited (new ≡ after_remove old u) → OnFalse waited (new ≡ old) → IsLineOf affinity records old.units → IsLeft records u old new
  line_left records u old new true ordered low answer when else line = subst (IsLeft records u old) (sym when) (gone records u old ordered low (sym answer) line)
  line_left records u old new false ordered low answer when else line = subst (IsLeft records u old) (sym else) (kept records u old low (sym answer) line)

  -- one more waits
  pub line_pushed : (records : Credit2Records) (u : UnitId) (es : List Queued) → IsOrdered es → u.n < 256 → has_listed_unit (arrivals es) u ≡ false → is_member_among affinity u ≡ true → IsOff records u → IsLineOf affinity records es → IsLineOf affinity records (list_with (queued_unit u (key_in records u) (length es)) es)
  line_pushed records u es ordered low absent joined off line =
      let order : arrivals (list_with (queued_unit u (key_in records u) (length es)) es) ≡ arrivals es ++ u ∷ [] = placed_arrivals u (key_in records u) es ordered in
      record {
        apart = subst IsApart (sym order) (apart_push u (arrivals es) line.apart absent);
        joined = subst (λ (units : List UnitId). AllByRecursion (λ w. is_member_among affinity w ≡ true) units) (sym order) (AllByRecursion-push (λ w. is_member_among affinity w ≡ true) (arrivals es) u line.joined joined);
        indices = subst (λ (units : List UnitId). AllByRecursion (λ (w : UnitId). w.n < 256) units) (sym order) (AllByRecursion-push (λ (w : UnitId). w.n < 256) (arrivals es) u line.indices low);
        keys = keys_placed (key_in records) u (length es) es line.keys;
        off = subst (λ (units : List UnitId). AllRunOnly (IsElsewhere units) records) (sym order) others;
      }
    where
      others : AllRunOnly (IsElsewhere (arrivals es ++ u ∷ [])) records
      others d x at n y has =
          let w : UnitId = record { dom = domain d; n = n } in
          elim (same_unit w u) as (λ b. same_unit w u ≡ b → (y.burned ≡ None) ⊎ IsElsewhere (arrivals es ++ u ∷ []) d n) [
            | true ↦ λ is. inl (let e : w ≡ u = same_unit_same w u is in off y (subst (λ (v : UnitId). unit_rec records v ≡ Some y) e (let here : unit_rec records w ≡ Some y = rw (unit_rec, at) has in here)))
            | false ↦ λ is. elim (line.off d x at n y has) [ inl none ↦ inl none | inr other ↦ inr (has_unit-push w u (arrivals es) other is) ]
          ] refl
