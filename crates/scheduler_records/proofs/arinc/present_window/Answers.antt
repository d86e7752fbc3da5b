use Rattle.scheduler_records.proofs.arinc.present_window.Goals as goal

pub window_at-requires-clause-frame : goal.window_at-requires-clause-frame
window_at-requires-clause-frame c = c.requires.frame _ c.in-Some.is
