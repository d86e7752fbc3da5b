-- The unit of a window stays the same until the window's end.
use Rattle.std.proofs.Common.{◌≡◌, ◌<◌, ◌≤◌, ◌+◌, ◌-◌, ◌*◌, ◌/◌, ◌%◌, ℕ, Bool, true, false, List, [], ◌∷◌, refl, arith, subst, sym, ◌∙◌, ap}
use Rattle.std.specs.Prelude.{Some, nat_lt, sum_by}
use Rattle.std.proofs.lemmas.Bool.{lt-ltb, le-ltb, ltb-false}
use Rattle.std.proofs.lemmas.Nat.{mod-mul-add, div-add-mod'}
use Rattle.std.proofs.lemmas.List.Sums.{sum_by-cons}
use Rattle.sched_model.specs.declared.config.Frame.{Frame}
use Rattle.sched_model.specs.declared.config.FrameEntry.{FrameEntry}
use Rattle.sched_model.specs.Arinc.{Window, window_among, frame_window}

-- the runs of the entries, added up
abbrev pub runs_of : List FrameEntry → ℕ
runs_of entries = sum_by (λ (e : FrameEntry). e.run.0) entries

-- the runs of the frame fit its major span
abbrev pub FitsMajor : Frame → Type 0
FitsMajor frame = runs_of frame.entries ≤ frame.major.0

runs_cons : (e : FrameEntry) (entries : List FrameEntry) → runs_of (e ∷ entries) ≡ e.run.0 + runs_of entries
runs_cons e entries = sum_by-cons (λ (x : FrameEntry). x.run.0) e entries

pub until_last : (start ahead last : ℕ) (entries : List FrameEntry) → start + runs_of entries ≤ last → (window_among start ahead last entries).until ≤ last
until_last start ahead last [] fits = omega arith
until_last start ahead last (e ∷ entries) fits =
    let all : runs_of (e ∷ entries) ≡ e.run.0 + runs_of entries = runs_cons e entries in
    let low : start + e.run.0 + runs_of entries ≤ last = omega (arith, fits, all) in
    let later = until_last (start + e.run.0) (ahead - e.run.0) last entries low in
    elim (nat_lt ahead e.run.0) as (λ b. (elim b as (λ _. Window) [ true ↦ record { unit = Some (record { dom = e.dom; n = e.unit }); until = start + e.run.0 } | false ↦ window_among (start + e.run.0) (ahead - e.run.0) last entries ]).until ≤ last) [
      | true ↦ omega (arith, low)
      | false ↦ later
    ]

abbrev pub cons_window : FrameEntry → ℕ → ℕ → ℕ → List FrameEntry → Bool → Window
cons_window e start ahead last entries b = elim b as (λ _. Window) [ true ↦ record { unit = Some (record { dom = e.dom; n = e.unit }); until = start + e.run.0 } | false ↦ window_among (start + e.run.0) (ahead - e.run.0) last entries ]

same_window : (start other ahead more last last2 : ℕ) (entries : List FrameEntry) → start + ahead + more < (window_among start ahead last entries).until → (window_among other (ahead + more) last2 entries).unit ≡ (window_among start ahead last entries).unit
same_window start other ahead more last last2 [] low = refl
same_window start other ahead more last last2 (e ∷ entries) low =
    elim (nat_lt ahead e.run.0) as (λ b. nat_lt ahead e.run.0 ≡ b
    → start + ahead + more < (elim b as (λ _. Window) [ true ↦ record { unit = Some (record { dom = e.dom; n = e.unit }); until = start + e.run.0 } | false ↦ window_among (start + e.run.0) (ahead - e.run.0) last entries ]).until
    → (window_among other (ahead + more) last2 (e ∷ entries)).unit ≡ (elim b as (λ _. Window) [ true ↦ record { unit = Some (record { dom = e.dom; n = e.unit }); until = start + e.run.0 } | false ↦ window_among (start + e.run.0) (ahead - e.run.0) last entries ]).unit) [
      | true ↦ λ is below. (let there : nat_lt (ahead + more) e.run.0 ≡ true = lt-ltb (ahead + more) e.run.0 (omega (arith, below)) in subst (λ b. (cons_window e other (ahead + more) last2 entries b).unit ≡ Some (record { dom = e.dom; n = e.unit })) (sym there) refl)
      | false ↦ λ is below. (
          let g = ltb-false ahead e.run.0 is in
          let there : nat_lt (ahead + more) e.run.0 ≡ false = le-ltb (ahead + more) e.run.0 (omega (arith, g)) in
          let shift : ahead + more - e.run.0 ≡ (ahead - e.run.0) + more = omega (arith, g) in
          let at : start + e.run.0 + (ahead - e.run.0) + more ≡ start + ahead + more = omega (arith, g) in
          subst (λ b. (cons_window e other (ahead + more) last2 entries b).unit ≡ (window_among (start + e.run.0) (ahead - e.run.0) last entries).unit) (sym there)
          (subst (λ a. (window_among (other + e.run.0) a last2 entries).unit ≡ (window_among (start + e.run.0) (ahead - e.run.0) last entries).unit) (sym shift)
          (same_window (start + e.run.0) (other + e.run.0) (ahead - e.run.0) more last last2 entries (subst (λ k. k < (window_among (start + e.run.0) (ahead - e.run.0) last entries).until) (sym at) below))))
    ] refl low

pub mod_more : (x more k : ℕ) → x % k + more < k → (x + more) % k ≡ x % k + more
mod_more x more k low =
    let d : x / k * k + x % k ≡ x = div-add-mod' x k in
    let e : x + more ≡ x / k * k + (x % k + more) = omega (arith, d) in
    ap (λ y. y % k) e ∙ mod-mul-add (x / k) k (x % k + more) low

pub mod_self : (x k : ℕ) → x % k ≤ x
mod_self x k = (let d : x / k * k + x % k ≡ x = div-add-mod' x k in omega (arith, d))

pub unit_steady : (installed : ℕ) (frame : Frame) (t later : ℕ) → FitsMajor frame → t ≤ later → later < (frame_window installed frame t).until → (frame_window installed frame later).unit ≡ (frame_window installed frame t).unit
unit_steady installed frame t later fits past low =
    let major : ℕ = frame.major.0 in
    let x : ℕ = t - installed in
    let more : ℕ = (later - installed) - x in
    let ahead : ℕ = x % major in
    let split : later - installed ≡ x + more = omega (arith, past) in
    let few : more ≤ later - t = omega (arith, past) in
    let self : ahead ≤ x = mod_self x major in
    let whole : t - ahead + ahead ≡ t = omega (arith, self) in
    let last = until_last (t - ahead) ahead (t - ahead + major) frame.entries (omega (arith, fits)) in
    let inside : ahead + more < major = omega (arith, few, self, last, low, past, whole) in
    let rest : (later - installed) % major ≡ ahead + more = ap (λ y. y % major) split ∙ mod_more x more major inside in
    let same = same_window (t - ahead) (later - (ahead + more)) ahead more (t - ahead + major) (later - (ahead + more) + major) frame.entries (omega (arith, few, self, low, past, whole)) in
    subst (λ a. (window_among (later - a) a (later - a + major) frame.entries).unit ≡ (window_among (t - ahead) ahead (t - ahead + major) frame.entries).unit) (sym rest) same
