use Rattle.std.proofs.Common.{◌∙◌, ◌≤◌, length, List, subst, arith}
use Rattle.std.proofs.lemmas.List.{take_all}
use Rattle.sched_model.specs.declared.event.Entry.{Entry}
use Rattle.pcpu_watch.specs.Looks.{LooksSoFar}
use Rattle.pcpu_watch.proofs.Looking.{all-looks}
use Rattle.pcpu_watch.proofs.rest.look_at_rest.Goals as goal

pub loop-place-preserved : goal.loop-place-preserved
loop-place-preserved c = record { so_far = c.look_at_end.ensures.looks; room = c.look_at_end.ensures.room ∙ c.loop-place.invariant.room }

pub returns : goal.returns
returns c =
    let h = c.args.book.now.history in
    let looks = c.loop-place.looks.items in
    let past : length h ≤ c.loop-place.place = (let len = c.len-place-end.ensures in let test = c.loop-place-test.false in omega (arith, len, test)) in
    all-looks h looks (subst (λ (l : List Entry). LooksSoFar l looks) (take_all c.loop-place.place h past) c.loop-place.invariant.so_far)
