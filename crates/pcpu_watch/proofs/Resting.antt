-- The looks after one entry more.
use mathlib.Core.List.{IsPrefix}
use Rattle.std.proofs.Common.{◌≡◌, ◌∙◌, ◌++◌, ◌+◌, ◌<◌, ℕ, suc, cond, true, false, List, [], ◌∷◌, length, take, sym, ap, arith}
use Rattle.std.specs.Prelude.{Some, slice_get}
use Rattle.std.proofs.lemmas.List.{length-take-le, length_push, take_all}
use Rattle.std.proofs.lemmas.Option.{slice_get_within}
use Rattle.sched_model.specs.declared.event.Entry.{Entry}
use Rattle.sched_report.specs.Stays.{last_moment}
use Rattle.pcpu_watch.specs.declared.looks.Look.{Look}
use Rattle.pcpu_watch.specs.Moments.{ends, has_next_moment, moment_of}
use Rattle.pcpu_watch.specs.Looks.{EachIsLook, IsLook, LooksSoFar, ShowsBeginning}
use Rattle.pcpu_watch.proofs.Counting.{ends-more, last-at, moment-same, moments-rise, one-more}
use Rattle.pcpu_watch.proofs.Looking.{look-new, looks-pushed, looks-still}

module _ (h : List Entry) (n : ℕ) (e : Entry) (at : slice_get h n ≡ Some e) (looks : List Look) (so_far : LooksSoFar (take n h) looks) where
  abbrev before : List Entry
  before = take n h

  abbrev after : List Entry
  after = take (n + 1) h

  next : n + 1 ≡ suc n
  next = omega arith

  one-behind : after ≡ before ++ e ∷ []
  one-behind = ap (λ (m : ℕ). take m h) next ∙ one-more h n e at

  begins : IsPrefix before after
  begins = (e ∷ [], sym one-behind)

  length-before : length before ≡ n
  length-before = length-take-le n h (omega (arith, slice_get_within h n e at))

  length-after : length after ≡ n + 1
  length-after = length-take-le (n + 1) h (omega (arith, slice_get_within h n e at))

  ends-after : ends after ≡ ends before + cond (has_next_moment e.event) 1 0
  ends-after = ap ends one-behind ∙ ends-more before e

  still : EachIsLook after looks
  still = looks-still before after begins looks (let count = so_far.count in omega (arith, count)) so_far.each

  pub looks-within : has_next_moment e.event ≡ false → LooksSoFar after looks
  looks-within goes_on = record {
    count = (let count = so_far.count in let same : ends after ≡ ends before + 0 = ends-after ∙ ap (λ b. ends before + cond b 1 0) goes_on in omega (arith, count, same));
    each = still;
  }

  module _ (look : Look) (entries : look.entries ≡ n + 1) (last : look.moment.0 ≡ e.at.0) where
    shows : ShowsBeginning after look
    shows = record {
      inside = omega (arith, entries, length-after);
      last = last ∙ last-at h n e at ∙ ap (λ (m : ℕ). last_moment (take m h)) (sym next) ∙ ap last_moment (sym (take_all look.entries after (omega (arith, entries, length-after))));
    }

    in-time : (place : ℕ) → place < length after → moment_of after place < length looks
    in-time place low =
        let here : moment_of after n ≡ ends before = moment-same before after n begins (omega (arith, length-before)) ∙ ap ends (take_all n before (omega (arith, length-before))) in
        let count = so_far.count in
        omega (arith, count, here, moments-rise after place n (omega (arith, low, length-after)))

    this : IsLook after (length looks) look
    this = look-new before after begins (length looks) look (let count = so_far.count in omega (arith, count)) in-time shows (omega (arith, entries, length-before))

    pub looks-behind : has_next_moment e.event ≡ true → LooksSoFar after (looks ++ look ∷ [])
    looks-behind is = record {
      count = (let count = so_far.count in let one : ends after ≡ ends before + 1 = ends-after ∙ ap (λ b. ends before + cond b 1 0) is in omega (arith, count, one, length_push looks look));
      each = looks-pushed after looks look still this;
    }
