-- A moment is made of stretches and of the entries between them, which are few.
use Rattle.std.proofs.Common.{◌≡◌, ◌≢◌, ◌≤◌, ◌<◌, ◌+◌, ◌*◌, ℕ, zero, suc, Bool, true, false, not, List, [], ◌∷◌, ◌++◌, refl, arith, ap, cond, subst, sym, ◌∙◌, length}
use Rattle.std.specs.Prelude.{Option, Some, None, count_by, replicate, ◌&&◌, ◌==◌}
use Rattle.std.proofs.lemmas.List.{length-replicate}
use Rattle.std.proofs.lemmas.List.Sums.{sum_by-cons}
use Rattle.std.proofs.Math.Decide.{dec_lt}
use Rattle.std.proofs.Math.Nat.{mul-le-mul_left, mul-le-mul_right}
use Rattle.std.proofs.lemmas.Bool.{eqb-true, and_from}
use Rattle.sched_base.specs.declared.UnitId.{UnitId}
use Rattle.sched_model.specs.declared.event.Event.{Event}
use Rattle.sched_model.specs.declared.event.Event.TheVariants as event
use Rattle.sched_model.specs.declared.event.Entry.{Entry}
use Rattle.sched_model.specs.declared.machine.Machine.{Machine}
use Rattle.sched_model.specs.Places.{put_at, clear_at}
use Rattle.sched_model.specs.Runs.{IsRun, run_start}
use Rattle.sched_base.proofs.Bools.{and_left, and_right, one_if_most}
use Rattle.sched_laws.proofs.EachPlace.{at_place-put_at_other, at_place-clear_at, at_place-clear_at_other, length_set}
use Rattle.sched_laws.proofs.StillWaits.{split_run}
use Rattle.moment_laws.specs.Stretches.{Legs, cores, units, legs_with, legs_after, leg_of, open_legs, has_no_older_leg, is_in_stretch, is_stretch}
use Rattle.moment_laws.specs.Turns.{how_many, most_turns}
use Rattle.sched_base.specs.Numbers.{one_if}
use Rattle.sched_laws.specs.Counts.{total_over}
use Rattle.moment_laws.proofs.Sums.{many_is, many_none, total_at_most, grows, falls}
use Rattle.moment_laws.proofs.StretchFalls.{legs_push, push_assoc}
use Rattle.moment_laws.specs.Moments.{is_cause, is_end, causes, are_at, most_in_moment, most_turns_in_moment}
use Rattle.moment_laws.proofs.TurnsBound.{most_turns_fit}
use Rattle.moment_laws.proofs.LegRuns.{legs_after_count}

-- a decision that ends a leg of another moment; one that resets credits
abbrev pub is_old : ℕ → Legs → Event → Bool
is_old t legs (event.Decide r unit due late reset) = not (has_no_older_leg t legs r.0)
is_old t legs _ = false

abbrev pub is_reset : Event → Bool
is_reset (event.Decide r unit due late reset) = not (reset == 0)
is_reset _ = false

-- how many entries are in no stretch, and how many end a leg of another moment
abbrev pub between : Legs → List Entry → ℕ
between legs [] = 0
between legs (e ∷ entries) = one_if (not (is_in_stretch e.at.0 legs e.event)) + between (legs_with e.at.0 e.event legs) entries

abbrev pub olds : Legs → List Entry → ℕ
olds legs [] = 0
olds legs (e ∷ entries) = one_if (is_old e.at.0 legs e.event) + olds (legs_with e.at.0 e.event legs) entries

abbrev pub resets : List Entry → ℕ
resets entries = how_many (λ (e : Entry). is_reset e.event) entries

abbrev pub ends : List Entry → ℕ
ends entries = how_many (λ (e : Entry). is_end e.event) entries

-- how many of the entries have such an event
pub counted_events : (test : Event → Bool) (entries : List Entry) → count_by (λ (e : Entry). test e.event) entries ≡ how_many (λ (e : Entry). test e.event) entries
counted_events test [] = refl
counted_events test (e ∷ entries) = sum_by-cons (λ (x : Entry). cond (test x.event) 1 0) e entries ∙ ap (λ k. one_if (test e.event) + k) (counted_events test entries)

pub causes_are : (entries : List Entry) → causes entries ≡ how_many (λ (e : Entry). is_cause e.event) entries
causes_are entries = counted_events is_cause entries

-- an entry in no stretch is a cause, ends an old leg, resets, or ends the moment
decide_low : (a b : Bool) → one_if (not (a && b)) ≤ one_if (not b) + one_if (not a)
decide_low true true = omega arith
decide_low true false = omega arith
decide_low false b = (let x = one_if_most (not b) in omega (arith, x))

one_between : (t : ℕ) (legs : Legs) (e : Event) → one_if (not (is_in_stretch t legs e)) ≤ one_if (is_cause e) + one_if (is_old t legs e) + one_if (is_reset e) + one_if (is_end e)
one_between t legs (event.Decide r unit due late reset) = (let a = decide_low (reset == 0) (has_no_older_leg t legs r.0) in omega (arith, a))
one_between t legs e = omega arith

pub between_few : (legs : Legs) (entries : List Entry) → between legs entries ≤ how_many (λ (e : Entry). is_cause e.event) entries + olds legs entries + resets entries + ends entries
between_few legs [] = omega arith
between_few legs (e ∷ entries) = (let a = one_between e.at.0 legs e.event in let r = between_few (legs_with e.at.0 e.event legs) entries in omega (arith, a, r))

-- the cores with a leg of another moment
abbrev older : ℕ → Legs → ℕ → ℕ
older t legs r = one_if (not (has_no_older_leg t legs r))

same_number : (t : ℕ) → (t == t) ≡ true
same_number t = grind arith

-- a decision leaves its core no leg of another moment, and the other cores theirs
left_none : (t r : ℕ) (unit : Option UnitId) (legs : Legs) → older t (leg_of t r unit legs) r ≡ 0
left_none t r None legs = ap (λ (o : Option ℕ). one_if (not (elim o as (λ _. Bool) [ None ↦ true | Some run_start ↦ run_start == t ]))) (at_place-clear_at r legs)
left_none t r (Some u) legs = by_length legs r
  where
    by_length : (legs : Legs) (r : ℕ) → older t (put_at r t legs) r ≡ 0
    by_length [] zero = refl
    by_length [] (suc r) = refl
    by_length (x ∷ legs) zero = ap (λ b. one_if (not b)) (same_number t)
    by_length (x ∷ legs) (suc r) = by_length legs r

others_keep : (t r k : ℕ) (unit : Option UnitId) (legs : Legs) → k ≢ r → older t (leg_of t r unit legs) k ≡ older t legs k
others_keep t r k None legs other = ap (λ (o : Option ℕ). one_if (not (elim o as (λ _. Bool) [ None ↦ true | Some run_start ↦ run_start == t ]))) (at_place-clear_at_other r k legs other)
others_keep t r k (Some u) legs other = ap (λ (o : Option ℕ). one_if (not (elim o as (λ _. Bool) [ None ↦ true | Some run_start ↦ run_start == t ]))) (at_place-put_at_other r k t legs other)

-- a core that has a leg of another moment is one of the machine's
old_inside : (t r n : ℕ) (legs : Legs) → length legs ≤ n → older t legs r ≡ 1 → r < n
old_inside t r n legs low is = (let a = inside legs r is in omega (arith, a, low))
  where
    inside : (legs : Legs) (r : ℕ) → older t legs r ≡ 1 → r < length legs
    inside [] zero is = absurd (omega (arith, is))
    inside [] (suc r) is = absurd (omega (arith, is))
    inside (x ∷ legs) zero is = omega arith
    inside (x ∷ legs) (suc r) is = (let a = inside legs r is in omega (arith, a))

-- at a moment t
module _ (t n : ℕ) where
  abbrev old_total : Legs → ℕ
  old_total legs = total_over n (older t legs)

  decide_lowers : (r : ℕ) (unit : Option UnitId) (legs : Legs) → length legs ≤ n → old_total (leg_of t r unit legs) + older t legs r ≤ old_total legs
  decide_lowers r unit legs low =
      let none = many_none n in
      let here = left_none t r unit legs in
      let others : (k : ℕ) → k ≢ r → older t (leg_of t r unit legs) k ≤ older t legs k + 0 = λ k other. (let e = others_keep t r k unit legs other in omega (arith, e)) in
      elim (dec_lt r n) [
        | yes inside ↦ (let f = falls n 0 (older t legs r) r (older t legs) (older t (leg_of t r unit legs)) inside (omega (arith, here)) others in omega (arith, f, none))
        | no outside ↦ (
            let zero_old : older t legs r ≡ 0 = (let most = one_if_most (not (has_no_older_leg t legs r)) in by_one (older t legs r) most (λ e. (let a = old_inside t r n legs low e in omega (arith, a, outside)))) in
            let f = grows n 0 (older t legs) (older t (leg_of t r unit legs)) (λ k below. others k (λ e. omega (arith, e, below, outside))) in
            omega (arith, f, none, zero_old))
      ]
    where
      by_one : (k : ℕ) → k ≤ 1 → (k ≡ 1 → ⊥) → k ≡ 0
      by_one zero le no_one = refl
      by_one (suc zero) le no_one = absurd (no_one refl)
      by_one (suc (suc k)) le no_one = absurd (omega (arith, le))

  length_kept : (e : Event) (legs : Legs) → length (legs_with t e legs) ≡ length legs
  length_kept (event.Decide r None due late reset) legs = length_clear r.0 legs
    where
      length_clear : (r : ℕ) (legs : Legs) → length (clear_at r legs) ≡ length legs
      length_clear r [] = refl
      length_clear zero (x ∷ legs) = grind arith
      length_clear (suc r) (x ∷ legs) = (let a = length_clear r legs in grind (arith, a))
  length_kept (event.Decide r (Some u) due late reset) legs = length_set r.0 (Some t) legs
  length_kept e legs = refl

  event_lowers : (e : Event) (legs : Legs) → length legs ≤ n → old_total (legs_with t e legs) + one_if (is_old t legs e) ≤ old_total legs
  event_lowers (event.Decide r unit due late reset) legs low = decide_lowers r.0 unit legs low
  event_lowers e legs low = omega arith

  olds_lower : (entries : List Entry) (legs : Legs) → length legs ≤ n → are_at t entries ≡ true → olds legs entries ≤ old_total legs
  olds_lower [] legs low at = omega arith
  olds_lower (e ∷ entries) legs low at =
      let now : e.at.0 ≡ t = eqb-true e.at.0 t (and_left (e.at.0 == t) _ at) in
      let a = event_lowers e.event legs low in
      let count = length_kept e.event legs in
      let rest = olds_lower entries (legs_with t e.event legs) (omega (arith, count, low)) (and_right (e.at.0 == t) _ at) in
      subst (λ k. one_if (is_old k legs e.event) + olds (legs_with k e.event legs) entries ≤ old_total legs) (sym now) (omega (arith, a, rest))

-- in one moment as many decisions end a leg of an earlier one as there are cores, at most
pub olds_few : (t n : ℕ) (entries : List Entry) (legs : Legs) → length legs ≤ n → are_at t entries ≡ true → olds legs entries ≤ n
olds_few t n entries legs low at =
    let a = olds_lower t n entries legs low at in
    let b = total_at_most n 1 (older t legs) (λ r inside. one_if_most (not (has_no_older_leg t legs r))) in
    let e = many_is n 1 in
    omega (arith, a, b, e)

-- a stretch goes on
stretch_push : (legs : Legs) (entries : List Entry) (e : Entry) → is_stretch legs entries ≡ true → is_in_stretch e.at.0 (legs_after legs entries) e.event ≡ true → is_stretch legs (entries ++ e ∷ []) ≡ true
stretch_push legs [] e is on = and_from (is_in_stretch e.at.0 legs e.event) true on refl
stretch_push legs (x ∷ entries) e is on = and_from (is_in_stretch x.at.0 legs x.event) _ (and_left _ _ is) (stretch_push (legs_with x.at.0 x.event legs) entries e (and_right (is_in_stretch x.at.0 legs x.event) _ is) on)

legs_both : (legs : Legs) (a b : List Entry) → legs_after legs (a ++ b) ≡ legs_after (legs_after legs a) b
legs_both legs [] b = refl
legs_both legs (x ∷ a) b = legs_both (legs_with x.at.0 x.event legs) a b

pub append_none : (xs : List Entry) → xs ++ [] ≡ xs
append_none [] = refl
append_none (x ∷ xs) = ap (λ ys. x ∷ ys) (append_none xs)

pub append_all : (a b c : List Entry) → (a ++ b) ++ c ≡ a ++ (b ++ c)
append_all [] b c = refl
append_all (x ∷ a) b c = ap (λ ys. x ∷ ys) (append_all a b c)

length_push : (xs : List Entry) (e : Entry) → length (xs ++ e ∷ []) ≡ length xs + 1
length_push [] e = grind arith
length_push (x ∷ xs) e = (let r = length_push xs e in grind (arith, r))

-- each stretch of the machine's runs has so many entries at most
abbrev pub StretchesEnd : Machine → ℕ → Type 0
StretchesEnd m most = (before stretch : List Entry) → IsRun m (before ++ stretch) → is_stretch (open_legs m before) stretch ≡ true → length stretch ≤ most

module _ (m : Machine) (most : ℕ) (end : StretchesEnd m most) where
  -- a stretch that goes on, and entries that follow
  pieces : (entries stretch before : List Entry) → IsRun m ((before ++ stretch) ++ entries) → is_stretch (open_legs m before) stretch ≡ true
      → length stretch + length entries ≤ most + between (open_legs m (before ++ stretch)) entries * (most + 1)
  pieces [] stretch before run is = (let a = end before stretch (split_run m (run_start m) (before ++ stretch) [] run).0 is in grind (arith, a))
  pieces (e ∷ entries) stretch before run is =
      let legs : Legs = open_legs m (before ++ stretch) in
      let run2 : IsRun m (((before ++ stretch) ++ e ∷ []) ++ entries) = subst (IsRun m) (sym (push_assoc (before ++ stretch) e entries)) run in
      let same : legs_with e.at.0 e.event legs ≡ open_legs m ((before ++ stretch) ++ e ∷ []) = sym (legs_push (replicate (cores m) None) (before ++ stretch) e) in
      by_event (λ s b r i. pieces entries s b r i) (is_in_stretch e.at.0 legs e.event) refl run2 same
    where
      by_event : ((stretch2 before2 : List Entry) → IsRun m ((before2 ++ stretch2) ++ entries) → is_stretch (open_legs m before2) stretch2 ≡ true → length stretch2 + length entries ≤ most + between (open_legs m (before2 ++ stretch2)) entries * (most + 1))
          → (b : Bool) → is_in_stretch e.at.0 (open_legs m (before ++ stretch)) e.event ≡ b → IsRun m (((before ++ stretch) ++ e ∷ []) ++ entries) → legs_with e.at.0 e.event (open_legs m (before ++ stretch)) ≡ open_legs m ((before ++ stretch) ++ e ∷ [])
          → length stretch + length (e ∷ entries) ≤ most + between (open_legs m (before ++ stretch)) (e ∷ entries) * (most + 1)
      by_event again true on run2 same =
          let legs : Legs = open_legs m (before ++ stretch) in
          let joined : (before ++ stretch) ++ e ∷ [] ≡ before ++ (stretch ++ e ∷ []) = append_all before stretch (e ∷ []) in
          let more : is_stretch (open_legs m before) (stretch ++ e ∷ []) ≡ true = stretch_push (open_legs m before) stretch e is (subst (λ l. is_in_stretch e.at.0 l e.event ≡ true) (legs_both (replicate (cores m) None) before stretch) on) in
          let rest = again (stretch ++ e ∷ []) before (subst (λ xs. IsRun m (xs ++ entries)) joined run2) more in
          let rest2 : length (stretch ++ e ∷ []) + length entries ≤ most + between (legs_with e.at.0 e.event legs) entries * (most + 1) = subst (λ l. length (stretch ++ e ∷ []) + length entries ≤ most + between l entries * (most + 1)) (ap (open_legs m) (sym joined) ∙ sym same) rest in
          let none : one_if (not (is_in_stretch e.at.0 legs e.event)) ≡ 0 = ap (λ b. one_if (not b)) on in
          let size = length_push stretch e in
          let count : between legs (e ∷ entries) * (most + 1) ≡ between (legs_with e.at.0 e.event legs) entries * (most + 1) = ap (λ k. (k + between (legs_with e.at.0 e.event legs) entries) * (most + 1)) none ∙ grind arith in
          grind (arith, rest2, size, count)
      by_event again false off run2 same =
          let legs : Legs = open_legs m (before ++ stretch) in
          let here = end before stretch (split_run m (run_start m) (before ++ stretch) (e ∷ []) (split_run m (run_start m) ((before ++ stretch) ++ e ∷ []) entries run2).0).0 is in
          let nil = append_none ((before ++ stretch) ++ e ∷ []) in
          let rest = again [] ((before ++ stretch) ++ e ∷ []) (subst (λ xs. IsRun m (xs ++ entries)) (sym nil) run2) refl in
          let rest2 : length entries ≤ most + between (legs_with e.at.0 e.event legs) entries * (most + 1) =
          (let r = subst (λ l. 0 + length entries ≤ most + between l entries * (most + 1)) (ap (open_legs m) nil ∙ sym same) rest in omega (arith, r)) in
          let some : one_if (not (is_in_stretch e.at.0 legs e.event)) ≡ 1 = ap (λ b. one_if (not b)) off in
          let count : between legs (e ∷ entries) * (most + 1) ≡ (most + 1) + between (legs_with e.at.0 e.event legs) entries * (most + 1) = ap (λ k. (k + between (legs_with e.at.0 e.event legs) entries) * (most + 1)) some ∙ grind arith in
          grind (arith, rest2, here, count)

  pub moment_pieces : (before entries : List Entry) → IsRun m (before ++ entries) → length entries ≤ most + between (open_legs m before) entries * (most + 1)
  moment_pieces before entries run =
      let nil = append_none before in
      let a = pieces entries [] before (subst (λ xs. IsRun m (xs ++ entries)) (sym nil) run) refl in
      let b = subst (λ xs. 0 + length entries ≤ most + between (open_legs m xs) entries * (most + 1)) nil a in
      omega (arith, b)

-- on numbers: b entries of a stretch at most, and k entries between stretches
pieces_fit : (b c n k len : ℕ) → k ≤ 2 * c + 2 * n + 1 → len ≤ b + k * (b + 1) → len + 1 ≤ 2 * (c + n + 1) * (b + 1)
pieces_fit b c n k len few most =
    let a = mul-le-mul_right (b + 1) few in
    let e : b + (2 * c + 2 * n + 1) * (b + 1) + 1 ≡ 2 * (c + n + 1) * (b + 1) = grind arith in
    omega (arith, most, a, e)

-- where a stretch has 2 (g + 1) x entries at most
moment_fits : (g c n x b : ℕ) → b ≤ 2 * (g + 1) * x → 2 * (c + n + 1) * (b + 1) ≤ 4 * (g + 1) * (c + n + 1) * (x + 1)
moment_fits g c n x b low =
    let f : b + 1 ≤ 2 * (g + 1) * (x + 1) = (let h : 2 * (g + 1) * (x + 1) ≡ 2 * (g + 1) * x + 2 * (g + 1) = grind arith in omega (arith, h, low)) in
    let d = mul-le-mul_left (2 * (c + n + 1)) f in
    let i : 2 * (c + n + 1) * (2 * (g + 1) * (x + 1)) ≡ 4 * (g + 1) * (c + n + 1) * (x + 1) = grind arith in
    omega (arith, d, i)

-- a moment has one end at most; and no more resets than causes and cores
abbrev pub EndsOnce : Machine → Type 0
EndsOnce m = (before moment : List Entry) (t : ℕ) → IsRun m (before ++ moment) → are_at t moment ≡ true → ends moment ≤ 1

abbrev pub ResetsFew : Machine → Type 0
ResetsFew m = (before moment : List Entry) (t : ℕ) → IsRun m (before ++ moment) → are_at t moment ≡ true → resets moment ≤ how_many (λ (e : Entry). is_cause e.event) moment + cores m

-- a moment, from the law of stretches and these facts
pub moment_turns : (m : Machine) → EndsOnce m → ResetsFew m → StretchesEnd m (most_turns m) → (before moment : List Entry) (t : ℕ) → IsRun m (before ++ moment) → are_at t moment ≡ true → length moment + 1 ≤ most_turns_in_moment m (causes moment)
moment_turns m one_end resets_few end before moment t run at =
    let legs : Legs = open_legs m before in
    let size : length legs ≡ cores m = legs_after_count before (replicate (cores m) None) ∙ length-replicate (cores m) None in
    let all = moment_pieces m (most_turns m) end before moment run in
    let few = between_few legs moment in
    let old = olds_few t (cores m) moment legs (omega (arith, size)) at in
    let last = one_end before moment t run at in
    let reset = resets_few before moment t run at in
    let count = causes_are moment in
    pieces_fit (most_turns m) (causes moment) (cores m) (between legs moment) (length moment) (omega (arith, few, old, last, reset, count)) all

pub most_turns_in_moment_fit : (m : Machine) (count : ℕ) → most_turns_in_moment m count ≤ most_in_moment m count
most_turns_in_moment_fit m count = moment_fits m.config.granularity count (cores m) (cores m * cores m * (2 * units m + 5)) (most_turns m) (most_turns_fit m)
