-- What a report keeps is the tally of its entries: at first, and after one entry more.
use Rattle.std.proofs.Common.{◌≡◌, ◌≢◌, ℕ, zero, suc, ◌+◌, ◌-◌, ◌*◌, ◌^◌, ◌/◌, ◌≤◌, ◌<◌, Bool, true, false, cond, List, [], ◌∷◌, ◌++◌, refl, sym, ap, subst, ◌∙◌, arith, length, map, get_or, set, replicate, inl, inr, add-zero, zero-add, length-append}
use Rattle.std.specs.Prelude.{Option, Some, None, IfSome, fold, sum_by, filter, filter_map, nat_lt}
use Rattle.std.specs.List.{list_all, cons_option, All}
use Rattle.std.proofs.lemmas.Bool.{cases_lt, and_from, eq-eqb, ne_eqb, lt-ltb, le-ltb}
use Rattle.std.proofs.lemmas.List.{set_past, length-map, length-replicate, get_or-replicate, get_or_past}
use Rattle.std.proofs.lemmas.List.Folds.{list_all-append}
use Rattle.std.proofs.lemmas.List.Sums.{sum_by_push, sum_by-cons, fold-append}
use Rattle.std.proofs.lemmas.List.Elements.{filter_map-append, filter-append}
use Rattle.sched_base.specs.declared.UnitId.{UnitId}
use Rattle.sched_base.specs.Numbers.{domain}
use Rattle.sched_model.specs.declared.config.Config.{Config}
use Rattle.sched_model.specs.declared.config.DomConfig.{DomConfig}
use Rattle.sched_model.specs.declared.event.Entry.{Entry}
use Rattle.sched_model.specs.Places.{same_unit, numbers_from}
use Rattle.sched_model.specs.Actions.{units_from}
use Rattle.sched_model.specs.Opening.{machine_core_count}
use Rattle.sched_model.specs.CheckedMachine.{IsGranularity}
use Rattle.sched_model.proofs.PlaceLemmas.{length-numbers_from}
use Rattle.sched_report.specs.declared.choice.CoreChoice.{CoreChoice}
use Rattle.sched_report.specs.declared.tally.UnitTally.{UnitTally}
use Rattle.sched_report.specs.declared.tally.CoreTally.{CoreTally}
use Rattle.sched_report.specs.Reports.{cores as core_numbers, units as unit_ids, IsSized}
use Rattle.sched_report.specs.Stays.{Decision, entry_choice, choices, decisions_from, replenished_by, renewals}
use Rattle.sched_report.specs.Tallies.{nothing_done, undecided_core, unit_place_number, has_unit_place, tally_at, with_renewal, core_tally_after, units_after, units_renewed, cores_with, units_with, ended_time, begins, lateness_on, core_tally, unit_tally, IsShort, UnitWithin, CoreWithin, IsTally}
use Rattle.sched_report.proofs.Grows.{chosen_at, choices-more, last_unit, decisions-more, cur-is_last, charge, ended_time-more, last-more}
use Rattle.sched_report.proofs.InOrder.{get_or-numbers, map-same, set-numbers}
use Rattle.sched_report.proofs.Steps.{tally_at-changed, tally_at-after, sum-more, length-with, length-renewed}
use Rattle.sched_report.proofs.Bounds.{within-with, within-renewed, cores_within-with}

-- the replenishments of the unit, after one entry more
abbrev renewed_once : UnitId → Option UnitId → ℕ
renewed_once u o = elim o [ None ↦ 0 | Some w ↦ cond (same_unit w u) 1 0 ]

renewals-more : (u : UnitId) (es : List Entry) (e : Entry)
    → length (filter (λ w. same_unit w u) (renewals (es ++ e ∷ []))) ≡ length (filter (λ w. same_unit w u) (renewals es)) + renewed_once u (replenished_by e.event)
renewals-more u es e =
    let q : UnitId → Bool = λ w. same_unit w u in
    let by : Entry → Option UnitId = λ (entry : Entry). replenished_by entry.event in
    ap (λ us. length (filter q us)) (filter_map-append by es (e ∷ []))
    ∙ ap length (filter-append q (filter_map by es) (filter_map by (e ∷ [])))
    ∙ length-append (filter q (filter_map by es)) (filter q (filter_map by (e ∷ [])))
    ∙ ap (λ n. length (filter q (renewals es)) + n) (once (replenished_by e.event))
  where
    once : (o : Option UnitId) → length (filter (λ w. same_unit w u) (cons_option o [])) ≡ renewed_once u o
    once None = refl
    once (Some w) = elim (same_unit w u) as (λ b. length (cond b (w ∷ []) []) ≡ cond b 1 0) [ true ↦ refl | false ↦ refl ]

module _ (config : Config) (es : List Entry) (e : Entry) where
  abbrev n : ℕ
  n = machine_core_count config

  -- what the choice gives, where its core is there
  abbrev gain : (CoreTally → CoreChoice → ℕ) → Option CoreChoice → ℕ
  gain of o = elim o [ None ↦ 0 | Some c ↦ cond (nat_lt c.core.0 n) (of (core_tally es c.core.0) c) 0 ]

  abbrev of_run : UnitId → CoreTally → CoreChoice → ℕ
  of_run u k c = charge (λ w. same_unit w u) k c

  abbrev of_picks : UnitId → CoreTally → CoreChoice → ℕ
  of_picks u k c = begins u (record { before = k.cur; choice = c })

  abbrev of_late : UnitId → CoreTally → CoreChoice → ℕ
  of_late u k c = lateness_on u (record { before = k.cur; choice = c })

  decisions-grow : (h : Decision → ℕ) (cs : List CoreChoice) (c : CoreChoice)
      → sum_by h (decisions_from None (cs ++ c ∷ [])) ≡ sum_by h (decisions_from None cs) + h (record { before = (fold core_tally_after undecided_core cs).cur; choice = c })
  decisions-grow h cs c =
      ap (sum_by h) (decisions-more None cs c) ∙ sum_by_push h (decisions_from None cs) (record { before = last_unit None cs; choice = c })
      ∙ ap (λ o. sum_by h (decisions_from None cs) + h (record { before = o; choice = c })) (sym (cur-is_last undecided_core cs))

  -- the tally of a unit with what an entry gives
  abbrev with_gain : UnitId → Option CoreChoice → Option UnitId → UnitTally → UnitTally
  with_gain u o r t = record { run = t.run + gain (of_run u) o; picks = t.picks + gain (of_picks u) o; repl = t.repl + renewed_once u r; late = t.late + gain (of_late u) o }

  unit_tally-more : (u : UnitId) → unit_tally config (es ++ e ∷ []) u ≡ with_gain u (entry_choice e) (replenished_by e.event) (unit_tally config es u)
  unit_tally-more u =
      let run = sum-more (ended_time (λ w. same_unit w u) undecided_core) (λ cs c. of_run u (fold core_tally_after undecided_core cs) c) (ended_time-more (λ w. same_unit w u) undecided_core) es e n (entry_choice e) refl in
      let picks = sum-more (λ cs. sum_by (begins u) (decisions_from None cs)) (λ cs c. of_picks u (fold core_tally_after undecided_core cs) c) (decisions-grow (begins u)) es e n (entry_choice e) refl in
      let late = sum-more (λ cs. sum_by (lateness_on u) (decisions_from None cs)) (λ cs c. of_late u (fold core_tally_after undecided_core cs) c) (decisions-grow (lateness_on u)) es e n (entry_choice e) refl in
      λ i. record { run = run i; picks = picks i; repl = renewals-more u es e i; late = late i }

  core_tally-more : (r : ℕ) (o : Option CoreChoice) → entry_choice e ≡ o → core_tally (es ++ e ∷ []) r ≡ fold core_tally_after (core_tally es r) (chosen_at r o)
  core_tally-more r o is =
      ap (fold core_tally_after undecided_core) (choices-more r es e ∙ ap (λ x. choices r es ++ chosen_at r x) is) ∙ fold-append core_tally_after undecided_core (choices r es) (chosen_at r o)

  module _ (cores : List CoreTally) (are : cores ≡ map (core_tally es) (numbers_from 0 n)) where
    many : length cores ≡ n
    many = ap length are ∙ length-map (numbers_from 0 n) (core_tally es) ∙ length-numbers_from 0 n

    core-at : (r : ℕ) → r < n → get_or cores r undecided_core ≡ core_tally es r
    core-at r below = ap (λ ks. get_or ks r undecided_core) are ∙ get_or-numbers (core_tally es) 0 n r undecided_core below ∙ ap (core_tally es) (zero-add r)

    cores-more : (o : Option CoreChoice) → entry_choice e ≡ o → cores_with o cores ≡ map (core_tally (es ++ e ∷ [])) (numbers_from 0 n)
    cores-more None is = are ∙ map-same (core_tally es) (core_tally (es ++ e ∷ [])) 0 n (λ k low high. core_tally-more k None is)
    cores-more (Some c) is =
        let r = c.core.0 in
        let f : ℕ → CoreTally = core_tally es in
        let g : ℕ → CoreTally = core_tally (es ++ e ∷ []) in
        let y : CoreTally = core_tally_after (get_or cores r undecided_core) c in
        let same : (k : ℕ) → k ≢ r → g k ≡ f k = λ k apart. core_tally-more k (Some c) is ∙ ap (λ b. fold core_tally_after (f k) (cond b (c ∷ []) [])) (ne_eqb r k (λ i. apart (sym i))) in
        elim (cases_lt r n) [
          | inl low ↦
              let here : y ≡ g r = ap (λ k. core_tally_after k c) (core-at r low) ∙ sym (core_tally-more r (Some c) is ∙ ap (λ b. fold core_tally_after (f r) (cond b (c ∷ []) [])) (eq-eqb r r refl)) in
              ap (λ ks. set ks r y) are ∙ set-numbers f g 0 n r y (λ k apart. same k (λ i. apart (i ∙ sym (zero-add r)))) low (here ∙ ap g (sym (zero-add r)))
          | inr high ↦
              set_past cores r y (omega (arith, high, many)) ∙ are ∙ map-same f g 0 n (λ k low below. same k (λ i. omega (arith, i, below, high)))
        ]

    gain-same : (of : CoreTally → CoreChoice → ℕ) (c : CoreChoice) → let there : ℕ = cond (nat_lt c.core.0 (length cores)) (of (get_or cores c.core.0 undecided_core) c) 0 in there ≡ gain of (Some c)
    gain-same of c = elim (cases_lt c.core.0 n) [
      | inl low ↦
          ap (λ b. cond b (of (get_or cores c.core.0 undecided_core) c) 0) (lt-ltb c.core.0 (length cores) (omega (arith, low, many)))
          ∙ ap (λ k. of k c) (core-at c.core.0 low) ∙ ap (λ b. cond b (of (core_tally es c.core.0) c) 0) (sym (lt-ltb c.core.0 n low))
      | inr high ↦
          ap (λ b. cond b (of (get_or cores c.core.0 undecided_core) c) 0) (le-ltb c.core.0 (length cores) (omega (arith, high, many)))
          ∙ ap (λ b. cond b (of (core_tally es c.core.0) c) 0) (sym (le-ltb c.core.0 n high))
    ]

    module _ (u : UnitId) (has : has_unit_place u ≡ true) (units : List UnitTally) (all : length units ≡ 2048) where
      abbrev at : List UnitTally → UnitTally
      at us = tally_at us (unit_place_number u)

      with-at : (o : Option CoreChoice)
          → at (units_with o cores units) ≡ record (at units) { run = (at units).run + gain (of_run u) o; picks = (at units).picks + gain (of_picks u) o; late = (at units).late + gain (of_late u) o }
      with-at None = λ i. record (at units) { run = sym (add-zero (at units).run) i; picks = sym (add-zero (at units).picks) i; late = sym (add-zero (at units).late) i }
      with-at (Some c) =
          let t : UnitTally = at units in
          let k : CoreTally = get_or cores c.core.0 undecided_core in
          elim (nat_lt c.core.0 (length cores)) as (λ b. at (cond b (units_after k c units) units) ≡ record t { run = t.run + cond b (of_run u k c) 0; picks = t.picks + cond b (of_picks u k c) 0; late = t.late + cond b (of_late u k c) 0 }) [
            | true ↦ tally_at-after k c u units has all
            | false ↦ λ i. record t { run = sym (add-zero t.run) i; picks = sym (add-zero t.picks) i; late = sym (add-zero t.late) i }
          ]
          ∙ (λ i. record t { run = t.run + gain-same (of_run u) c i; picks = t.picks + gain-same (of_picks u) c i; late = t.late + gain-same (of_late u) c i })

    renewed-at : (u : UnitId) → has_unit_place u ≡ true → (units : List UnitTally) → length units ≡ 2048 → (o : Option UnitId)
        → tally_at (units_renewed o units) (unit_place_number u) ≡ record (tally_at units (unit_place_number u)) { repl = (tally_at units (unit_place_number u)).repl + renewed_once u o }
    renewed-at u has units all None = λ i. record (tally_at units (unit_place_number u)) { repl = sym (add-zero (tally_at units (unit_place_number u)).repl) i }
    renewed-at u has units all (Some w) =
        let t : UnitTally = tally_at units (unit_place_number u) in
        tally_at-changed w u with_renewal units has all
        ∙ elim (same_unit w u) as (λ b. cond b (with_renewal t) t ≡ record t { repl = t.repl + cond b 1 0 }) [ true ↦ refl | false ↦ λ i. record t { repl = sym (add-zero t.repl) i } ]

    units-more : (units : List UnitTally) → length units ≡ 2048
        → ((u : UnitId) → has_unit_place u ≡ true → tally_at units (unit_place_number u) ≡ unit_tally config es u)
        → (u : UnitId) → has_unit_place u ≡ true
        → tally_at (units_renewed (replenished_by e.event) (units_with (entry_choice e) cores units)) (unit_place_number u) ≡ unit_tally config (es ++ e ∷ []) u
    units-more units all were u has =
        renewed-at u has (units_with (entry_choice e) cores units) (length-with cores units (entry_choice e) ∙ all) (replenished_by e.event)
        ∙ ap (λ (t : UnitTally). let more : UnitTally = record t { repl = t.repl + renewed_once u (replenished_by e.event) } in more) (with-at u has units all (entry_choice e))
        ∙ ap (with_gain u (entry_choice e) (replenished_by e.event)) (were u has)
        ∙ sym (unit_tally-more u)

pub kept_more : (config : Config) (es : List Entry) (e : Entry) (names : List UnitId) (units : List UnitTally) (cores : List CoreTally) (count last : ℕ)
    → IsTally config es names units cores count last → IfSome (entry_choice e) IsShort → length es + 1 < 2 ^ 32
    → IsTally config (es ++ e ∷ []) names (units_renewed (replenished_by e.event) (units_with (entry_choice e) cores units)) (cores_with (entry_choice e) cores) (count + 1) e.at.0
kept_more config es e names units cores count last kept short few = record {
  names_are = kept.names_are;
  have_places = kept.have_places;
  few_names = kept.few_names;
  few_cores = kept.few_cores;
  all_places = length-renewed (units_with (entry_choice e) cores units) (replenished_by e.event) ∙ length-with cores units (entry_choice e) ∙ kept.all_places;
  units_are = units-more config es e cores kept.cores_are units kept.all_places kept.units_are;
  cores_are = cores-more config es e cores kept.cores_are (entry_choice e) refl;
  units_within = within-renewed (count + 1) (count + 1) count (replenished_by e.event) (units_with (entry_choice e) cores units) (within-with count (entry_choice e) cores units short kept.units_within);
  cores_within = cores_within-with count (entry_choice e) cores short kept.cores_within;
  count_is = omega (arith, kept.count_is, length-append es (e ∷ []));
  few_entries = omega (arith, kept.count_is, few);
  last_is = sym (last-more 0 es e);
}

-- the units of a checked machine have places
numbers-placed : (d a k : ℕ) → d < 64 → a + k ≤ 32 → list_all has_unit_place (map (λ i. let u : UnitId = record { dom = domain d; n = i } in u) (numbers_from a k)) ≡ true
numbers-placed d a zero low few = refl
numbers-placed d a (suc k) low few =
    and_from _ _ (and_from _ _ (lt-ltb d 64 low) (lt-ltb a 32 (omega (arith, few)))) (numbers-placed d (suc a) k low (omega (arith, few)))

few_units : (g guests : ℕ) → IsGranularity g → guests ≤ 32 → (guests + g - 1) / g ≤ 32
few_units g guests (inl e) few = subst (λ k. (guests + k - 1) / k ≤ 32) (sym e) (omega arith)
few_units g guests (inr (inl e)) few = subst (λ k. (guests + k - 1) / k ≤ 32) (sym e) (omega arith)
few_units g guests (inr (inr e)) few = subst (λ k. (guests + k - 1) / k ≤ 32) (sym e) (omega arith)

units-placed : (g d : ℕ) (domains : List DomConfig) → IsGranularity g → d + length domains ≤ 64 → All (λ (x : DomConfig). length x.guests ≤ 32) domains
    → list_all has_unit_place (units_from g d domains) ≡ true
units-placed g d [] size few guests = refl
units-placed g d (x ∷ domains) size few guests =
    let count : ℕ = (length x.guests + g - 1) / g in
    list_all-append has_unit_place (map (λ i. let u : UnitId = record { dom = domain d; n = i } in u) (numbers_from 0 count)) (units_from g (suc d) domains)
    ∙ and_from _ _ (numbers-placed d 0 count (omega (arith, few)) (omega (arith, few_units g (length x.guests) size (guests 0 x (omega arith)))))
    (units-placed g (suc d) domains size (omega (arith, few)) (λ k y below. guests (suc k) y (omega (arith, below))))

-- a domain has at most 32 units
units-few : (g d : ℕ) (domains : List DomConfig) → IsGranularity g → All (λ (x : DomConfig). length x.guests ≤ 32) domains → length (units_from g d domains) ≤ 32 * length domains
units-few g d [] size guests = omega arith
units-few g d (x ∷ domains) size guests =
    let count : ℕ = (length x.guests + g - 1) / g in
    let unit : ℕ → UnitId = λ i. record { dom = domain d; n = i } in
    omega (
      arith,
      length-append (map unit (numbers_from 0 count)) (units_from g (suc d) domains),
      length-map (numbers_from 0 count) unit,
      length-numbers_from 0 count,
      few_units g (length x.guests) size (guests 0 x (omega arith)),
      units-few g (suc d) domains size (λ k y below. guests (suc k) y (omega (arith, below))),
    )

few_cores : (processors g : ℕ) → IsGranularity g → processors ≤ 64 → processors / g ≤ 64
few_cores processors g (inl e) few = subst (λ k. processors / k ≤ 64) (sym e) (omega arith)
few_cores processors g (inr (inl e)) few = subst (λ k. processors / k ≤ 64) (sym e) (omega arith)
few_cores processors g (inr (inr e)) few = subst (λ k. processors / k ≤ 64) (sym e) (omega arith)

no_sum : (ns : List ℕ) → sum_by (λ (r : ℕ). let none : ℕ = 0 in none) ns ≡ 0
no_sum [] = refl
no_sum (r ∷ ns) = omega (arith, no_sum ns, sum_by-cons (λ (r : ℕ). let none : ℕ = 0 in none) r ns)

same-all : {X : Type 0} (n i : ℕ) (x : X) → get_or (replicate n x) i x ≡ x
same-all n i x = elim (cases_lt i n) [
  | inl low ↦ get_or-replicate n i x x low
  | inr high ↦ get_or_past (replicate n x) i x (omega (arith, length-replicate n x, high))
]

undecided_core-all : (a n : ℕ) → replicate n undecided_core ≡ map (core_tally []) (numbers_from a n)
undecided_core-all a zero = refl
undecided_core-all a (suc n) = ap (λ ks. undecided_core ∷ ks) (undecided_core-all (suc a) n)

no_tally : (config : Config) (u : UnitId) → nothing_done ≡ unit_tally config [] u
no_tally config u =
    λ i. record { run = sym (no_sum (core_numbers config)) i; picks = sym (no_sum (core_numbers config)) i; repl = 0; late = sym (no_sum (core_numbers config)) i }

nothing-at : (config : Config) (places : ℕ) (u : UnitId) (o : Option ℕ) → tally_at (replicate places nothing_done) o ≡ unit_tally config [] u
nothing-at config places u None = no_tally config u
nothing-at config places u (Some place) = same-all places place nothing_done ∙ no_tally config u

pub kept_new : (config : Config) (names : List UnitId) → IsSized config → names ≡ unit_ids config
    → IsTally config [] names (replicate 2048 nothing_done) (replicate (machine_core_count config) undecided_core) 0 0
kept_new config names sized are = record {
  names_are = are;
  have_places = ap (list_all has_unit_place) are ∙ units-placed config.granularity 0 config.domains sized.granularity (omega (arith, sized.few_domains)) sized.few_guests;
  few_names = omega (arith, units-few config.granularity 0 config.domains sized.granularity sized.few_guests, sized.few_domains, ap length are);
  few_cores = few_cores config.processors config.granularity sized.granularity sized.few_processors;
  all_places = length-replicate 2048 nothing_done;
  units_are = λ u has. nothing-at config 2048 u (unit_place_number u);
  cores_are = undecided_core-all 0 (machine_core_count config);
  units_within = λ i. subst (UnitWithin 0 0 0) (sym (same-all 2048 i nothing_done)) (record { run = omega arith; picks = omega arith; repl = omega arith; late = omega arith });
  cores_within = λ i. subst (CoreWithin 0) (sym (same-all (machine_core_count config) i undecided_core)) (record { run = omega arith; decides = omega arith });
  count_is = refl;
  few_entries = omega arith;
  last_is = refl;
}
