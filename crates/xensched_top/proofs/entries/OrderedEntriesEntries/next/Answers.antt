use Rattle.std.proofs.Common.{ap, sym, ◌∙◌, ◌-◌, arith}
use Rattle.xensched_top.specs.Entries.{Coming}
use Rattle.xensched_top.proofs.EntryLemmas.{ordered_comes, ordered_ends_so}
use Rattle.xensched_top.proofs.entries.OrderedEntriesEntries.next.Goals as goal

pub returns-clause-some : goal.returns-clause-some
returns-clause-some c =
    ap (λ (v : Coming). v.entries) (sym c.self.view_is)
    ∙ ordered_comes c.self.inside.engine c.go_on-step.new.self c.self.inside.left (c.self.inside.left - 1) c.self.inside.over c.go_on-step.result.last c.go_on-step.result.entry
    c.if-self.false (omega (arith, c.if-self-eq0.false)) c.go_on-step.ensures.entry c.go_on-step.ensures.last c.go_on-step.ensures.after

pub returns-clause-ending : goal.returns-clause-ending
returns-clause-ending c =
    ordered_ends_so c.self.inside.engine c.go_on-step.new.self c.self.inside.left (c.self.inside.left - 1) c.self.inside.over c.go_on-step.result.last c.go_on-step.result.entry
    c.if-self.false (omega (arith, c.if-self-eq0.false)) c.go_on-step.ensures.entry c.go_on-step.ensures.last c.go_on-step.ensures.after
    ∙ ap (λ (v : Coming). v.end) c.self.view_is
