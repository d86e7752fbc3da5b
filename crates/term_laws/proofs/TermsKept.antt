-- The law of the terms of RTDS units.
use Rattle.std.proofs.Common.{◌≡◌, ◌+◌, List, ◌∷◌, refl, arith, sym, ◌∙◌}
use Rattle.std.specs.Prelude.{Option, Some, None}
use Rattle.std.specs.List.{All, AllByRecursion}
use Rattle.std.proofs.lemmas.List.Elements.{All-from_recursion}
use Rattle.sched_base.specs.declared.UnitId.{UnitId}
use Rattle.sched_base.proofs.Lists.{AllByRecursion-map}
use Rattle.sched_model.specs.declared.event.Entry.{Entry}
use Rattle.sched_model.specs.declared.machine.Machine.{Machine}
use Rattle.sched_model.specs.declared.state.RtdsUnit.{RtdsUnit}
use Rattle.sched_model.specs.Opening.{opening}
use Rattle.sched_model.specs.CheckedMachine.{IsChecked}
use Rattle.sched_model.specs.Runs.{run_start, IsRun}
use Rattle.sched_laws.specs.StateLaws.{state_after}
use Rattle.term_laws.specs.RtdsTerm.{RtdsTerm, legs, terms, term_end, opened_terms, rtds_in, KeepsTerm}
use Rattle.term_laws.proofs.CapSteps.{cap_tracks}
use Rattle.term_laws.proofs.UnitSteps.{at_first}
use Rattle.term_laws.proofs.StepsBegun.{full_unit_at_first}
use Rattle.term_laws.proofs.TermLaw.{OnCore, HasLeft, fits_within, terms_kept}

module _ (m : Machine) (checked : IsChecked m) (u : UnitId) where
  -- the terms, where the unit's record at the opening is this one
  abbrev first_term : List Entry → RtdsUnit → RtdsTerm
  first_term entries x = record { term = record { from = 0; until = term_end u.dom.0 x.period entries; budget = x.budget }; delay = 0; extra = x.extra }

  abbrev terms_by : List Entry → Option RtdsUnit → List RtdsTerm
  terms_by entries o = elim o [ None ↦ opened_terms u entries | Some x ↦ first_term entries x ∷ opened_terms u entries ]

  nobody : OnCore u None (opening m)
  nobody r on = (let none = (cap_tracks m checked u.dom.0).nobody r in let c : None ≡ Some u.n = sym none ∙ on in cc)

  module _ (entries : List Entry) (run : IsRun m entries) where
    first_kept : (x : RtdsUnit) → rtds_in (opening m) u ≡ Some x → KeepsTerm (legs (state_after m entries) u entries) (first_term entries x)
    first_kept x is plain =
        let full = full_unit_at_first m u x is in
        let left = full.left in
        let within : HasLeft u x.budget x.period None (opening m) = record { unit = x; at = is; few = omega (arith, left); plain = plain; ends = full.deadline; runs = λ b none. absurd (cc) } in
        fits_within m checked u x.period (first_term entries x).term entries (run_start m) run (at_first m checked u) (omega arith) x.budget (x.budget + 0) None (omega arith) nobody within

    opened_kept : AllByRecursion (KeepsTerm (legs (state_after m entries) u entries)) (opened_terms u entries)
    opened_kept =
        AllByRecursion-map _ (KeepsTerm (legs (state_after m entries) u entries)) (λ term kept. kept.1) (opened_terms u entries)
        (terms_kept m checked u entries (run_start m) None run (at_first m checked u) tt nobody)

    known_kept : (o : Option RtdsUnit) → rtds_in (opening m) u ≡ o → AllByRecursion (KeepsTerm (legs (state_after m entries) u entries)) (terms_by entries o)
    known_kept None is = opened_kept
    known_kept (Some x) is = (first_kept x is, opened_kept)

  pub all_kept : (entries : List Entry) → IsRun m entries → All (KeepsTerm (legs (state_after m entries) u entries)) (terms m u entries)
  all_kept entries run = All-from_recursion (KeepsTerm (legs (state_after m entries) u entries)) (terms m u entries) (known_kept entries run (rtds_in (opening m) u) refl)
