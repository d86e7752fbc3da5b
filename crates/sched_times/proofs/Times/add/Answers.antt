use Rattle.std.proofs.Common.{◌≡◌, ◌<◌, ℕ, List, Bool, false, length, sym, subst, ap, ◌∙◌, rules, max}
use Rattle.std.specs.Prelude.{Option, IfSome, slice_index_or}
use Rattle.std.proofs.lemmas.List.{with_items_is}
use Rattle.sched_model.specs.declared.event.Entry.{Entry}
use Rattle.sched_times.specs.declared.grant.Grant.{Grant}
use Rattle.sched_times.specs.declared.tally.ResourceTally.{ResourceTally}
use Rattle.sched_times.specs.declared.tally.UserTally.{UserTally}
use Rattle.sched_times.specs.Times.{over_at, told_by}
use Rattle.sched_times.specs.Present.{grant_by, idles_then}
use Rattle.sched_times.specs.Tallies.{user_at, resources_with, users_with, users_slept, IsTally}
use Rattle.sched_times.proofs.Grows.{tally-more}
use Rattle.sched_times.proofs.Times.add.Goals as goal

pub invariant_of-self : goal.invariant_of-self
invariant_of-self c =
    let b = c.self.inside in
    let e : Entry = c.args.e.now in
    let now : ℕ = c.over_at-now.result in
    let given : Option Grant = c.processor_grant-given.result in
    let many_cores : length c.tell.new.resources ≡ b.cores.len = search rules in
    let many_units : length c.tell.new.users ≡ b.units.len = search rules in
    let many_processors : length c.tell-2.new.resources ≡ b.processors.len = search rules in
    let many_vcpus : length c.tell-2.new.users ≡ b.vcpus.len = search rules in
    let many_idle : length c.note_idle.new.idle ≡ b.idle.len = search rules in
    let all_idle : length c.note_idle.new.idle ≡ 256 = search rules in
    let cores = with_items_is b.cores c.tell.new.resources many_cores ∙ c.tell.ensures.resources
    ∙ (λ i. resources_with (c.core_grant.ensures i) now (c.as_mut_slice.ensures.value i)) in
    let units = with_items_is b.units c.tell.new.users many_units ∙ c.tell.ensures.users
    ∙ (λ i. users_with (c.core_grant.ensures i) now (c.as_mut_slice.ensures.value i) (c.as_mut_slice-2.ensures.value i)) in
    let processors = with_items_is b.processors c.tell-2.new.resources many_processors ∙ c.tell-2.ensures.resources
    ∙ (λ i. resources_with given now (c.as_mut_slice-3.ensures.value i)) in
    let vcpus = with_items_is b.vcpus c.tell-2.new.users many_vcpus ∙ c.tell-2.ensures.users
    ∙ (λ i. users_slept (c.sleep_of.ensures i) now (users_with given now (c.as_mut_slice-3.ensures.value i) (c.as_mut_slice-4.ensures.value i))) in
    let idle = with_items_is b.idle c.note_idle.new.idle many_idle in
    let until : c.max.result ≡ max b.until.0 (told_by b.horizon.0 e) = c.max.ensures ∙ ap (max b.until.0) c.told_by.ensures in
    let gives : given ≡ grant_by b.granularity (λ k. (user_at b.units.items k).has) (λ p. slice_index_or b.idle.items p false) e.event =
    c.processor_grant-given.ensures ∙ (λ i. grant_by b.granularity (λ k. (user_at (c.as_slice.ensures.value i) k).has) (λ p. slice_index_or (c.as_slice-2.ensures.value i) p false) e.event) in
    let kept = tally-more b.config.value b.range b.past.value e b.granularity b.horizon.0 b.until.0 b.cores.items b.units.items b.processors.items b.vcpus.items b.idle.items c.note_idle.new.idle now given
    c.self.invariant (c.over_at-now.ensures ∙ ap (over_at b.range) until) gives
    (subst (λ o. IfSome o (λ (g : Grant). g.on < 256)) c.core_grant.ensures c.tell.ensures.low) c.tell-2.ensures.low all_idle
    (λ p. c.note_idle.ensures p ∙ ap (λ bs. idles_then p e.event (slice_index_or bs p false)) c.as_mut_slice-5.ensures.value) in
    subst (λ (z : List Entry × (ℕ × (List ResourceTally × (List UserTally × (List ResourceTally × (List UserTally × List Bool)))))). IsTally b.config.value b.range z.0 b.granularity b.horizon.0 z.1.0 z.1.1.0 z.1.1.1.0 z.1.1.1.1.0 z.1.1.1.1.1.0 z.1.1.1.1.1.1)
    (λ i. (sym c.push.ensures i, (sym until i, (sym cores i, (sym units i, (sym processors i, (sym vcpus i, sym idle i))))))) kept
