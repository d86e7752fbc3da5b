use Rattle.std.proofs.Common.{◌≡◌, ◌≤◌, ◌∙◌, ℕ, length, ap, subst}
use Rattle.status_board.specs.Boards.{Desk, News}
use Rattle.status_board.specs.Totals.{totals_of}
use Rattle.status_board.specs.declared.totals.Totals.{Totals}
use Rattle.pcpu_watch.specs.declared.looks.Look.{Look}
use Rattle.pcpu_watch.specs.declared.scribe.Scribe.{Scribe}
use Rattle.pcpu_watch.specs.Looks.{look_of}
use Rattle.pcpu_watch.specs.Scribes.{HasWritten, ReadsOn, has_read}
use Rattle.pcpu_watch.proofs.Watching.{all-published, looked}
use Rattle.pcpu_watch.proofs.watch.take_turn.Goals as goal

pub returns-clause-looked : goal.returns-clause-looked
returns-clause-looked g c =
    let hall = c.args.hall.now in
    let w = c.args.watch.now in
    let is = c.requires.can.is in
    let s : Scribe = c.write_turn.new.scribe in
    let with : Desk → Scribe = λ d. record w.scribe { writer = d } in
    let on : ReadsOn hall w.scribe s = subst (λ (d : Desk). ReadsOn hall (with d) s) c.tell-told.ensures.kept c.write_turn.ensures.on in
    let written : HasWritten (length w.looks.items) s = subst (λ (k : ℕ). HasWritten k s) c.len-moment.ensures c.in_ok-write_turn.ensures.written in
    let told : c.shown-learned.result ≡ look_of (has_read w.scribe) = c.shown-learned.ensures
    ∙ ap (λ (t : Totals). record { entries = t.entries; moment = t.moment }) (c.totals.ensures ∙ ap (λ (n : News). totals_of n.cores n.list) c.tell-told.ensures.told)
    ∙ ap look_of (all-published hall w is) in
    let least = subst (λ (l : Look). l.entries ≤ c.kept-look.result.entries) told c.kept-look.ensures.least in
    looked hall w is s c.kept-look.new.self on written c.kept-look.ensures.reading c.kept-look.result c.kept-look.ensures.shows least c.push.new.self c.push.ensures
