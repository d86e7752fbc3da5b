-- What a decision leaves.
use Rattle.std.proofs.Common.{◌≡◌, ◌≤◌, ℕ, true, length, refl, ap, subst, sym, ◌∙◌, arith, inl, inr, ◌⊎◌}
use Rattle.std.specs.Prelude.{Option, Some, None}
use Rattle.sched_base.specs.declared.UnitId.{UnitId}
use Rattle.sched_model.specs.declared.ask.Ask.{Ask}
use Rattle.sched_model.specs.declared.state.Scheduler.{Scheduler}
use Rattle.sched_model.specs.declared.state.Credit2Unit.{Credit2Unit}
use Rattle.sched_model.specs.declared.state.Credit2Records.{Credit2Records}
use Rattle.sched_model.specs.declared.state.Records.TheVariants.{Credit2Pool}
use Rattle.sched_model.specs.Places.{has_listed_unit}
use Rattle.sched_model.specs.Credit2.{own_burned_records, reset_records, off_records, credit2_choice, credit2_decision_for, has_domain_budget}
use Rattle.sched_model.specs.Policy.{decision_by}
use Rattle.scheduler_records.specs.Parts.{credit2_scheduler}
use Rattle.sched_laws.proofs.EachPlace.{length_change_each}
use Rattle.sched_laws.proofs.Choices.{decision_has, at_unit}
use Rattle.record_laws.proofs.Credit2Seen.{reset_is}
use Rattle.sched_laws.specs.PoolFacts.{IfUnit}
use Rattle.state_ranges.proofs.Decided.{choice_pays, unit_rec}
use Rattle.sched_ops.specs.Conditions.{IsOwnOf}
use Rattle.runq.specs.Queue.{Queue}
use Rattle.queue_laws.specs.Arrivals.{arrivals}
use Rattle.credit2_core.specs.declared.state.Credit2State.{Credit2State}
use Rattle.credit2_core.specs.Choice.{records_after_run}
use Rattle.sched_ops.specs.Affinity.{joined_unit_count, is_member_among}
use Rattle.credit2_core.specs.Credit2State.{IsSound, IsLineOf, IsSameRoom, scheduler_in}
use Rattle.credit2_core.proofs.Lists.{each_has}
use Rattle.credit2_core.proofs.Members.{count_there, waits_off}
use Rattle.credit2_core.proofs.Ranges.{Few, range_later, range_idle, range_ran}
use Rattle.credit2_core.proofs.Same.{alike_idle, alike_ran}
use Rattle.std.proofs.lemmas.Bool.{ltb-true}

pub length_reset : (t k : ℕ) (records : Credit2Records) → length (reset_records t k records).domains ≡ length records.domains
length_reset t k records = ap length (reset_is t k records) ∙ length_change_each 0 _ records.domains

-- the core idles
pub sound_idle : (h : Credit2State) (ask : Ask) → IsSound h → h.latest ≤ ask.at.0 → IsLineOf h.affinity (off_records ask.cur (own_burned_records ask.cur ask.at.0 h.records)) h.queue.units → IsSound (record h { records = off_records ask.cur (own_burned_records ask.cur ask.at.0 h.records); latest = ask.at.0 })
sound_idle h ask sound past line =
    let alike = alike_idle ask.cur ask.at.0 h.records in
    record {
      range = range_idle ask (scheduler_in h) h.records (range_later h.latest ask.at.0 h.records past sound.range);
      counts = sound.counts ∙ sym alike.counts;
      line = line;
      masks = sound.masks;
      free = sound.free;
      refills = sound.refills ∙ sym alike.refills;
      room = sound.room;
      small = sound.small;
    }

-- the choice is the core's own unit, or one that waits
pub choice_from : (ask : Ask) (scheduler : Scheduler) (records : Credit2Records) (u : UnitId) → scheduler.records ≡ Credit2Pool records → credit2_choice ask scheduler (own_burned_records ask.cur ask.at.0 records) ≡ Some u → (ask.cur ≡ Some u) ⊎ (has_listed_unit scheduler.queue u ≡ true)
choice_from ask scheduler records u own is =
    let P : UnitId → Type 0 = λ w. (ask.cur ≡ Some w) ⊎ (has_listed_unit scheduler.queue w ≡ true) in
    let all : IfUnit P (decision_by scheduler.records ask scheduler).unit = decision_has P ask scheduler (each_has scheduler.queue P (λ w there. inr there)) (λ w cur runs. inl cur) in
    let burned : Credit2Records = own_burned_records ask.cur ask.at.0 records in
    let chosen : IfUnit P (credit2_decision_for ask scheduler burned (credit2_choice ask scheduler burned)).unit = subst (λ r. IfUnit P (decision_by r ask scheduler).unit) own all in
    subst (λ (o : Option UnitId). IfUnit P (credit2_decision_for ask scheduler burned o).unit) is chosen

-- the core runs the chosen unit
pub sound_ran : (h : Credit2State) (ask : Ask) (u : UnitId) (k : ℕ) (q : Queue) → IsSound h → h.latest ≤ ask.at.0 → IsOwnOf (scheduler_in h) ask.cur → credit2_choice ask (credit2_scheduler (arrivals h.queue.units) h.affinity (own_burned_records ask.cur ask.at.0 h.records)) (own_burned_records ask.cur ask.at.0 h.records) ≡ Some u
    → IsLineOf h.affinity (records_after_run ask.cur ask.at.0 k u (own_burned_records ask.cur ask.at.0 h.records)) q.units → IsSameRoom h.queue q → IsSound (record h { records = records_after_run ask.cur ask.at.0 k u (own_burned_records ask.cur ask.at.0 h.records); queue = q; latest = ask.at.0 })
sound_ran h ask u k q sound past own is line room =
    let burned : Credit2Records = own_burned_records ask.cur ask.at.0 h.records in
    let chosen : credit2_choice ask (scheduler_in h) burned ≡ Some u = is in
    let from : (ask.cur ≡ Some u) ⊎ (has_listed_unit (arrivals h.queue.units) u ≡ true) = choice_from ask (scheduler_in h) h.records u refl chosen in
    let pays : has_domain_budget burned u ≡ true = subst (IfUnit (λ w. has_domain_budget burned w ≡ true)) chosen (choice_pays ask.at.0 Few ask (scheduler_in h) burned) in
    let joined : is_member_among h.affinity u ≡ true = elim from [ inl cur ↦ (own u cur).member | inr waits ↦ at_unit (λ w. is_member_among h.affinity w ≡ true) u (arrivals h.queue.units) waits sound.line.joined ] in
    let off : (ask.cur ≡ Some u) ⊎ ((y : Credit2Unit) → unit_rec h.records u ≡ Some y → y.burned ≡ None) = elim from [ inl cur ↦ inl cur | inr waits ↦ inr (waits_off (arrivals h.queue.units) h.records u sound.line.off waits) ] in
    let alike = alike_ran ask.cur ask.at.0 k u h.records in
    let all = sound.room in
    let same = room.room in
    record {
      range = range_ran ask (scheduler_in h) h.records u k pays
          (λ x at. (let low = ltb-true u.n (joined_unit_count h.affinity u.dom.0) joined in let e = count_there h.affinity h.records.domains u.dom.0 x sound.counts at in omega (arith, low, e)))
          off (range_later h.latest ask.at.0 h.records past sound.range);
      counts = sound.counts ∙ sym alike.counts;
      line = line;
      masks = sound.masks;
      free = sound.free;
      refills = sound.refills ∙ sym alike.refills;
      room = omega (arith, all, same);
      small = sound.small;
    }
