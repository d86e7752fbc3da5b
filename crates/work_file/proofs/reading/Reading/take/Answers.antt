use Rattle.std.proofs.Common.{rules, ◌≡◌, length, None, subst, sym, [], ◌∷◌, ◌++◌}
use Rattle.work_file.specs.Lines.{next_line, place_cause}
use Rattle.work_file.specs.Reading.{IsCheckedReading}
use Rattle.work_file.proofs.CheckedLemmas.{checked_stall, checked_command, on_ok_both}
use Rattle.work_file.proofs.reading.Reading.take.Goals as goal

pub returns-in-Ok-Stall-clause-checked : goal.returns-in-Ok-Stall-clause-checked
returns-in-Ok-Stall-clause-checked c =
    let r = c.args.self.now in
    let x = c.in-Ok-Stall.stall in
    let now = record r { line = next_line r.line; last = x.at; stalls = r.stalls ++ x ∷ [] } in
    on_ok_both c.add_stall.result (c.add_stall.new.self ≡ now) (place_cause r.last.0 (length r.stalls) x.at.0 ≡ None) (IsCheckedReading c.args.config.now c.add_stall.new.self)
    (search rules) (search rules)
    (λ same placed. subst (IsCheckedReading c.args.config.now) (sym same) (checked_stall c.args.config.now r x (next_line r.line) c.requires (search rules) placed))

pub returns-in-Ok-Command-clause-checked : goal.returns-in-Ok-Command-clause-checked
returns-in-Ok-Command-clause-checked c =
    let r = c.args.self.now in
    let x = c.in-Ok-Command.command in
    let now = record r { line = next_line r.line; last = x.at; commands = r.commands ++ x ∷ [] } in
    on_ok_both c.add_command.result (c.add_command.new.self ≡ now) (place_cause r.last.0 (length r.commands) x.at.0 ≡ None) (IsCheckedReading c.args.config.now c.add_command.new.self)
    (search rules) (search rules)
    (λ same placed. subst (IsCheckedReading c.args.config.now) (sym same) (checked_command c.args.config.now r x (next_line r.line) c.requires (search rules) placed))
