-- What the board keeps is that of the entries: at first, and after one entry more. The totals are read from it.
use Rattle.std.proofs.Common.{◌≡◌, ℕ, zero, suc, ◌+◌, ◌-◌, ◌≤◌, ◌<◌, true, cond, List, [], ◌∷◌, ◌++◌, refl, sym, ap, ◌∙◌, subst, arith, length, map, get_or, set, take, inl, inr, length-append, zero-add}
use Rattle.std.specs.Prelude.{Option, Some, None, fold}
use Rattle.arrayvec.specs.ArrayVec.{ArrayVec}
use Rattle.std.proofs.lemmas.Bool.{cases_eq, eq-eqb, ne_eqb}
use Rattle.std.proofs.lemmas.List.{get_or-set_same, get_or-set_other, length-set}
use Rattle.std.proofs.lemmas.List.Sums.{fold-append}
use Rattle.sched_base.specs.Numbers.{moment}
use Rattle.sched_model.specs.declared.event.Entry.{Entry}
use Rattle.sched_model.specs.Places.{numbers_from}
use Rattle.sched_report.specs.declared.choice.CoreChoice.{CoreChoice}
use Rattle.sched_report.specs.declared.tally.CoreTally.{CoreTally}
use Rattle.sched_report.specs.Stays.{entry_choice, choices, last_moment}
use Rattle.sched_report.specs.Tallies.{undecided_core, core_tally, core_tally_after, core_line_by, open_stay_time, ended_span}
use Rattle.sched_report.proofs.Grows.{chosen_at, choices-more, last-more}
use Rattle.sched_report.proofs.Tells.{core-told}
use Rattle.status_board.specs.declared.core_sums.CoreSums.{CoreSums}
use Rattle.status_board.specs.declared.totals.CoreTotals.{CoreTotals}
use Rattle.status_board.specs.declared.totals.Totals.{Totals}
use Rattle.status_board.specs.Counts.{capped_sum}
use Rattle.status_board.specs.Sums.{AreSums, kept_of, sums_after, no_sums, cores_after, totals_in}
use Rattle.status_board.specs.Totals.{of_line, totals_of_core, totals_of}

pub capped-twice : (a b : ℕ) → capped_sum (capped_sum a + b) ≡ capped_sum (a + b)
capped-twice a b = omega arith

after-kept : (k : CoreTally) (c : CoreChoice) → sums_after (kept_of k) c ≡ kept_of (core_tally_after k c)
after-kept k c = λ i. record { cur = (core_tally_after k c).cur; since = (core_tally_after k c).since; run = capped-twice k.run (ended_span k c) i; decides = capped-twice k.decides 1 i }

tally-more : (es : List Entry) (e : Entry) (r : ℕ) → core_tally (es ++ e ∷ []) r ≡ fold core_tally_after (core_tally es r) (chosen_at r (entry_choice e))
tally-more es e r = ap (fold core_tally_after undecided_core) (choices-more r es e) ∙ fold-append core_tally_after undecided_core (choices r es) (chosen_at r (entry_choice e))

-- the cores are kept by an entry that makes this choice, where it makes one
module _ (es : List Entry) (cores : List CoreSums) (all : length cores ≡ 64) (are : (r : ℕ) → r < 64 → get_or cores r no_sums ≡ kept_of (core_tally es r)) where
  kept-by : (o : Option CoreChoice) (r : ℕ) → r < 64 → get_or (cores_after o cores) r no_sums ≡ kept_of (fold core_tally_after (core_tally es r) (chosen_at r o))
  kept-by None r low = are r low
  kept-by (Some c) r low = elim (cases_eq c.core.0 r) [
    | inl same ↦
        subst (λ n. get_or (set cores n (sums_after (get_or cores n no_sums) c)) r no_sums ≡ kept_of (core_tally_after (core_tally es r) c)) (sym same)
        (get_or-set_same cores r (sums_after (get_or cores r no_sums) c) no_sums (omega (arith, low, all)) ∙ ap (λ s. sums_after s c) (are r low) ∙ after-kept (core_tally es r) c)
        ∙ ap (λ b. kept_of (fold core_tally_after (core_tally es r) (cond b (c ∷ []) []))) (sym (eq-eqb c.core.0 r same))
    | inr apart ↦
        get_or-set_other cores c.core.0 r (sums_after (get_or cores c.core.0 no_sums) c) no_sums (λ e. apart (sym e))
        ∙ are r low
        ∙ ap (λ b. kept_of (fold core_tally_after (core_tally es r) (cond b (c ∷ []) []))) (sym (ne_eqb c.core.0 r apart))
  ]

  length-after : (o : Option CoreChoice) → length (cores_after o cores) ≡ 64
  length-after None = all
  length-after (Some c) = length-set cores c.core.0 (sums_after (get_or cores c.core.0 no_sums) c) ∙ all

pub kept-more : (es : List Entry) (e : Entry) (count last : ℕ) (cores : List CoreSums) → AreSums es count last cores
    → AreSums (es ++ e ∷ []) (capped_sum (count + 1)) e.at.0 (cores_after (entry_choice e) cores)
kept-more es e count last cores are = record {
  count_is = ap (λ n. capped_sum (n + 1)) are.count_is ∙ capped-twice (length es) 1 ∙ ap capped_sum (sym (length-append es (e ∷ [])));
  last_is = sym (last-more 0 es e);
  all = length-after es cores are.all are.cores_are (entry_choice e);
  cores_are = λ r low. kept-by es cores are.all are.cores_are (entry_choice e) r low ∙ ap kept_of (sym (tally-more es e r));
}

pub kept-so : (es es' : List Entry) (count count' last : ℕ) (cores cores' : List CoreSums) → AreSums es count last cores → es' ≡ es → count' ≡ count → cores' ≡ cores
    → AreSums es' count' last cores'
kept-so es es' count count' last cores cores' are same_es same_count same_cores =
    subst (λ l. AreSums l count' last cores') (sym same_es)
    (subst (λ n. AreSums es n last cores') (sym same_count) (subst (λ (cs : List CoreSums). AreSums es count last cs) (sym same_cores) are))

pub kept-none : (es : List Entry) (cores : List CoreSums) → es ≡ [] → length cores ≡ 64 → ((r : ℕ) → r < 64 → get_or cores r no_sums ≡ no_sums) → AreSums es 0 0 cores
kept-none es cores none all are = subst (λ l. AreSums l 0 0 cores) (sym none) (record { count_is = refl; last_is = refl; all = all; cores_are = are })

-- what is kept of a core tells its line in a report
line-told : (k : CoreTally) (last r : ℕ) → totals_in last (kept_of k) ≡ of_line last (core_line_by k last r)
line-told k last r =
    let run : capped_sum (capped_sum k.run + open_stay_time (λ u. true) last k) ≡ capped_sum (k.run + open_stay_time (λ u. true) last k) = capped-twice k.run (open_stay_time (λ u. true) last k) in
    λ i. record { run = record { 0 = run i }; idle = record { 0 = last - run i }; decides = capped_sum k.decides }

first-totals : {X Y : Type 0} (f : X → Y) (g : ℕ → Y) (d : X) (a n : ℕ) (xs : List X) → n ≤ length xs → ((i : ℕ) → i < n → f (get_or xs i d) ≡ g (a + i))
    → map f (take n xs) ≡ map g (numbers_from a n)
first-totals f g d a zero xs fits same = refl
first-totals f g d a (suc n) [] fits same = absurd (omega (arith, fits))
first-totals f g d a (suc n) (x ∷ xs) fits same =
    let here : f x ≡ g a = same 0 (omega arith) ∙ ap g (omega arith) in
    let rest = first-totals f g d (suc a) n xs (omega (arith, fits)) (λ i low. same (suc i) (omega (arith, low)) ∙ ap g (omega arith)) in
    λ j. here j ∷ rest j

totals-told : (es : List Entry) (count last n : ℕ) (cores : List CoreSums) → AreSums es count last cores → n ≤ 64
    → map (totals_in last) (take n cores) ≡ map (totals_of_core es) (numbers_from 0 n)
totals-told es count last n cores are few =
    first-totals (totals_in last) (totals_of_core es) no_sums 0 n cores (omega (arith, few, are.all))
    (λ i low. ap (totals_in last) (are.cores_are i (omega (arith, low, few))) ∙ line-told (core_tally es i) last i
    ∙ ap (λ l. of_line l (core_line_by (core_tally es i) l i)) are.last_is ∙ ap (of_line (last_moment es)) (core-told es i) ∙ ap (totals_of_core es) (sym (zero-add i)))

-- what the board shows of the entries, from what it keeps of them
pub shown : (es : List Entry) (count last n : ℕ) (cores : List CoreSums) (all : ArrayVec CoreTotals) → AreSums es count last cores → n ≤ 64
    → all.items ≡ map (totals_in last) (take n cores) → let t : Totals = record { entries = count; moment = moment last; cores = all } in t ≡ totals_of n es
shown es count last n cores all are few is =
    let items : all.items ≡ map (totals_of_core es) (numbers_from 0 n) = is ∙ totals-told es count last n cores are few in
    λ i. record { entries = are.count_is i; moment = record { 0 = are.last_is i }; cores = record { items = items i } }
