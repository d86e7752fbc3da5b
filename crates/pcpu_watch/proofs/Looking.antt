-- Looks at a history that goes on.
use mathlib.Core.List.{IsPrefix}
use Rattle.std.proofs.Common.{◌≡◌, ◌∙◌, ◌⊎◌, ⊎_elim, inl, inr, ◌++◌, ◌+◌, ◌-◌, ◌<◌, ◌≤◌, ℕ, zero, suc, List, [], ◌∷◌, length, refl, sym, ap, subst, arith, length-append}
use Rattle.std.specs.Prelude.{Option, Some, None, slice_get}
use Rattle.std.proofs.lemmas.Bool.{cases_lt}
use Rattle.std.proofs.lemmas.Option.{slice_get_within}
use Rattle.sched_model.specs.declared.event.Entry.{Entry}
use Rattle.sched_report.specs.Stays.{last_moment}
use Rattle.pcpu_watch.specs.declared.looks.Look.{Look}
use Rattle.pcpu_watch.specs.Moments.{ends, moment_of}
use Rattle.pcpu_watch.specs.Looks.{AreLooks, EachIsLook, IsLook, LooksSoFar, ShowsBeginning}
use Rattle.pcpu_watch.proofs.Counting.{moment-behind, moment-same, part-same}

prefix-length : {A : Type 0} (xs ys : List A) → IsPrefix xs ys → length xs ≤ length ys
prefix-length xs ys p = let len : length xs + length p.0 ≡ length ys = sym (length-append xs p.0) ∙ ap length p.1 in omega (arith, len)

-- an element of a list with one more
pushed : {A : Type 0} (xs : List A) (y x : A) (k : ℕ) → slice_get (xs ++ y ∷ []) k ≡ Some x → (slice_get xs k ≡ Some x) ⊎ ((k ≡ length xs) × (y ≡ x))
pushed {A} [] y x zero at = inr (refl, ap the at)
  where
    the : Option A → A
    the None = y
    the (Some z) = z
pushed [] y x (suc k) at = absurd (omega (arith, slice_get_within (y ∷ []) (suc k) x at))
pushed (z ∷ xs) y x zero at = inl at
pushed (z ∷ xs) y x (suc k) at = ⊎_elim (λ here. inl here) (λ last. inr (ap suc last.0, last.1)) (pushed xs y x k at)

module _ (h more : List Entry) (p : IsPrefix h more) where
  pub shows-still : (look : Look) → ShowsBeginning h look → ShowsBeginning more look
  shows-still look s = record {
    inside = (let long = prefix-length h more p in let inside = s.inside in omega (arith, long, inside));
    last = s.last ∙ ap last_moment (sym (part-same h more look.entries p s.inside));
  }

  look-still : (k : ℕ) (look : Look) → k ≤ suc (ends h) → IsLook h k look → IsLook more k look
  look-still k look few l = record {
    shows = shows-still look l.shows;
    least = λ place low early. ⊎_elim
        (λ (here : place < length h). let same = moment-same h more place p (omega (arith, here)) in l.least place here (omega (arith, early, same)))
        (λ (there : length h ≤ place). absurd (omega (arith, moment-behind h more place p there, early, few)))
        (cases_lt place (length h));
    most = λ place low. (let inside = l.shows.inside in let same = moment-same h more place p (omega (arith, low, inside)) in let was = l.most place low in omega (arith, same, was));
  }

  pub looks-still : (looks : List Look) → length looks ≤ suc (ends h) → EachIsLook h looks → EachIsLook more looks
  looks-still looks few each k look at = look-still k look (omega (arith, slice_get_within looks k look at, few)) (each k look at)

  -- a look that shows no less than what was published before, in the moment k
  pub look-new : (k : ℕ) (look : Look) → ends h ≡ k - 1 → ((place : ℕ) → place < length more → moment_of more place < k) → ShowsBeginning more look → length h ≤ look.entries → IsLook more k look
  look-new k look ended before shows least = record {
    shows = shows;
    least = λ place low early. ⊎_elim
        (λ (here : place < length h). omega (arith, here, least))
        (λ (there : length h ≤ place). absurd (omega (arith, moment-behind h more place p there, early, ended)))
        (cases_lt place (length h));
    most = λ place low. before place (let inside = shows.inside in omega (arith, low, inside));
  }

pub looks-pushed : (h : List Entry) (looks : List Look) (look : Look) → EachIsLook h looks → IsLook h (length looks) look → EachIsLook h (looks ++ look ∷ [])
looks-pushed h looks look each new k x at =
    ⊎_elim (λ (before : slice_get looks k ≡ Some x). each k x before)
    (λ (last : (k ≡ length looks) × (look ≡ x)). subst (λ (y : Look). IsLook h k y) last.1 (subst (λ (j : ℕ). IsLook h j look) (sym last.0) new)) (pushed looks look x k at)

-- no look shows less than the one before it
pub looks-rise : (h : List Entry) (looks : List Look) → EachIsLook h looks → (k : ℕ) (one next : Look) → slice_get looks k ≡ Some one → slice_get looks (suc k) ≡ Some next → one.entries ≤ next.entries
looks-rise h looks each k one next at behind =
    ⊎_elim
    (λ (less : next.entries < one.entries). let a = each k one at in let b = each (suc k) next behind in
    let early = a.most next.entries less in
    let inside = a.shows.inside in
    absurd (omega (arith, b.least next.entries (omega (arith, less, inside)) (omega (arith, early)))))
    (λ (more : one.entries ≤ next.entries). more)
    (cases_lt next.entries one.entries)

pub all-looks : (h : List Entry) (looks : List Look) → LooksSoFar h looks → AreLooks h looks
all-looks h looks so_far = record { all = so_far; rise = looks-rise h looks so_far.each }
