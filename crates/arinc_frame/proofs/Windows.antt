-- A window stays the same, with its end, until that end.
use Rattle.std.proofs.Common.{◌≡◌, ◌<◌, ◌≤◌, ◌+◌, ◌-◌, ◌%◌, ℕ, true, false, List, [], ◌∷◌, refl, arith, subst, sym, ◌∙◌, ap}
use Rattle.std.specs.Prelude.{Option, Some, None, nat_lt}
use Rattle.std.specs.Option.{ForSome}
use Rattle.sched_model.specs.declared.config.Frame.{Frame}
use Rattle.sched_model.specs.declared.config.FrameEntry.{FrameEntry}
use Rattle.sched_model.specs.declared.state.ArincRecords.{ArincRecords}
use Rattle.sched_model.specs.Arinc.{Window, window_among, frame_window, current_window}
use Rattle.sched_laws.proofs.Window.{cons_window, until_last, mod_more, mod_self}
use Rattle.sched_laws.specs.RecordRanges.{IsFrame}
use Rattle.scheduler_records.specs.Frames.{window_of}
use Rattle.arinc_frame.specs.declared.window.Present.{Present}
use Rattle.arinc_frame.specs.Frames.{IsPresent}
use Rattle.std.proofs.lemmas.Bool.{le-ltb, ltb-false, lt-ltb}

-- a later place of the frame that is before the window's end
same_window : (start ahead more last : ℕ) (entries : List FrameEntry) → start + ahead + more < (window_among start ahead last entries).until → window_among start (ahead + more) last entries ≡ window_among start ahead last entries
same_window start ahead more last [] low = refl
same_window start ahead more last (e ∷ entries) low =
    elim (nat_lt ahead e.run.0) as (λ b. nat_lt ahead e.run.0 ≡ b → start + ahead + more < (cons_window e start ahead last entries b).until → window_among start (ahead + more) last (e ∷ entries) ≡ cons_window e start ahead last entries b) [
      | true ↦ λ is below. (let there : nat_lt (ahead + more) e.run.0 ≡ true = lt-ltb (ahead + more) e.run.0 (omega (arith, below)) in ap (cons_window e start (ahead + more) last entries) there)
      | false ↦ λ is below. (
          let g = ltb-false ahead e.run.0 is in
          let there : nat_lt (ahead + more) e.run.0 ≡ false = le-ltb (ahead + more) e.run.0 (omega (arith, g)) in
          let shift : ahead + more - e.run.0 ≡ (ahead - e.run.0) + more = omega (arith, g) in
          let at : start + e.run.0 + (ahead - e.run.0) + more ≡ start + ahead + more = omega (arith, g) in
          ap (cons_window e start (ahead + more) last entries) there
          ∙ ap (λ a. window_among (start + e.run.0) a last entries) shift
          ∙ same_window (start + e.run.0) (ahead - e.run.0) more last entries (subst (λ k. k < (window_among (start + e.run.0) (ahead - e.run.0) last entries).until) (sym at) below))
    ] refl low

-- the window of a moment after the installation is that of each moment up to its end
window_steady : (installed : ℕ) (frame : Frame) (from t : ℕ) → IsFrame frame → installed ≤ from → from ≤ t → t < (frame_window installed frame from).until → frame_window installed frame t ≡ frame_window installed frame from
window_steady installed frame from t in_range since past low =
    let major : ℕ = frame.major.0 in
    let x : ℕ = from - installed in
    let more : ℕ = t - from in
    let ahead : ℕ = x % major in
    let split : t - installed ≡ x + more = omega (arith, past, since) in
    let self : ahead ≤ x = mod_self x major in
    let fits = in_range.fits in
    let last = until_last (from - ahead) ahead (from - ahead + major) frame.entries (omega (arith, fits)) in
    let inside : ahead + more < major = omega (arith, self, last, low, past, since) in
    let rest : (t - installed) % major ≡ ahead + more = ap (λ y. y % major) split ∙ mod_more x more major inside in
    let start : t - (ahead + more) ≡ from - ahead = omega (arith, self, past, since) in
    let there : from - ahead + ahead + more ≡ t = omega (arith, self, past, since) in
    ap (λ a. window_among (t - a) a (t - a + major) frame.entries) rest
    ∙ ap (λ s. window_among s (ahead + more) (s + major) frame.entries) start
    ∙ same_window (from - ahead) ahead more (from - ahead + major) frame.entries (subst (λ k. k < (frame_window installed frame from).until) (sym there) low)

-- the window that was found last, up to its end
pub present_still : (records : ArincRecords) (present : Present) (t : ℕ) → ForSome records.frame IsFrame → IsPresent records present → present.from ≤ t → t < present.window.until → Some (window_of present.window) ≡ current_window records t
present_still records present t in_range is past low =
    elim records.frame as (λ o. records.frame ≡ o
    → elim o as (λ _. Option Window) [ None ↦ None | Some frame ↦ Some (frame_window records.installed frame present.from) ] ≡ Some (window_of present.window)
    → Some (window_of present.window) ≡ elim o as (λ _. Option Window) [ None ↦ None | Some frame ↦ Some (frame_window records.installed frame t) ]) [
      | None ↦ λ e found. absurd (cc)
      | Some frame ↦ λ e found. (
          let same : frame_window records.installed frame present.from ≡ window_of present.window = cc in
          let before : t < (frame_window records.installed frame present.from).until = subst (λ (w : Window). t < w.until) (sym same) low in
          ap Some (sym same ∙ sym (window_steady records.installed frame present.from t (in_range frame e) is.installed past before)))
    ] refl is.found
