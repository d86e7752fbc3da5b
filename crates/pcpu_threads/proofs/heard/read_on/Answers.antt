use Rattle.std.proofs.Common.{◌≡◌, ◌∙◌, ◌+◌, ℕ, List, drop, length, take, refl, sym, ap, subst}
use Rattle.sched_model.specs.declared.event.Entry.{Entry}
use Rattle.pcpu_threads.specs.declared.heard.Scribe.{Scribe}
use Rattle.pcpu_threads.specs.Hearing.{HearsOn, IsTold, front_of}
use Rattle.pcpu_threads.proofs.Hearing.{reads-on}
use Rattle.pcpu_threads.proofs.heard.read_on.Goals as goal

pub returns-clause-heard : goal.returns-clause-heard
returns-clause-heard g c =
    let heard = g.L.Listener.has_heard in
    let items = c.entries.new.into.items in
    let old : Scribe = c.args.scribe.now in
    let mid : Scribe = record { seat = c.entries.new.seat; ahead = c.entries.new.into } in
    let new : Scribe = record { seat = c.entries.new.seat; ahead = c.clear.new.self } in
    let found : items ≡ take 2048 (drop c.args.read (front_of c.entries.new.seat)) = c.entries.ensures.found ∙ ap (λ (n : ℕ). take n (drop c.args.read (front_of c.entries.new.seat))) c.requires.scribe.room in
    let count : c.len-count.result ≡ length items = c.len-count.ensures ∙ sym c.as_slice.ensures.len ∙ ap length c.as_slice.ensures.value in
    subst (λ (n : ℕ). HearsOn heard c.args.hall.now c.args.read (c.args.read + n) old c.args.listener.now c.args.outlet.now new c.tell.new.listener c.tell.new.outlet) (sym count)
    (reads-on heard c.args.hall.now c.args.read old mid new items c.args.listener.now c.tell.new.listener c.args.outlet.now c.tell.new.outlet c.requires.scribe c.entries.ensures.stays c.entries.ensures.looked.begins c.requires.inside found refl
    c.clear.ensures.items (c.clear.ensures.capacity ∙ c.entries.ensures.room ∙ c.requires.scribe.room)
    (subst (λ (xs : List Entry). IsTold heard xs c.args.listener.now c.args.outlet.now c.tell.new.listener c.tell.new.outlet) c.as_slice.ensures.value c.tell.ensures))
