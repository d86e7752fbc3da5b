-- A decision of a null core: the chosen unit takes a place that no other had.
use Rattle.std.proofs.Common.{◌≡◌, ◌≢◌, ◌+◌, ℕ, zero, suc, Bool, true, false, not, List, [], ◌∷◌, refl, sym, ap, subst, ◌∙◌, cond, inl, inr, arith}
use Rattle.std.specs.Prelude.{Option, Some, None, ◌&&◌, ◌||◌}
use Rattle.std.specs.List.{list_any, AllByRecursion}
use Rattle.std.proofs.Math.Decide.{ℕ_discrete}
use Rattle.std.proofs.lemmas.Bool.{or_cases}
use Rattle.sched_base.proofs.Bools.{and_left, and_right, and_false, or_more, clash}
use Rattle.sched_base.specs.declared.Cores.{Cores}
use Rattle.sched_base.specs.declared.UnitId.{UnitId}
use Rattle.sched_model.specs.declared.state.Records.{Records}
use Rattle.sched_model.specs.declared.state.Records.TheVariants.{NullPool}
use Rattle.sched_model.specs.declared.state.Scheduler.{Scheduler}
use Rattle.sched_model.specs.declared.ask.Ask.{Ask}
use Rattle.sched_model.specs.State.{has_core_bit}
use Rattle.sched_model.specs.Places.{at_place, clear_at, numbered_items, has_listed_unit, is_unit, same_unit}
use Rattle.sched_model.specs.EligibleUnits.{Decision, is_unit_allowed, is_unit_eligible, is_unit_placed, is_core_given, has_given_core, eligible_units, may_have_core}
use Rattle.sched_model.specs.NullScheduler as null
use Rattle.sched_model.specs.Policy.{after_decision, decision_of, is_unit_better}
use Rattle.sched_laws.proofs.Choices.{same_unit_same, is_unit_same}
use Rattle.sched_laws.proofs.Counts.{is_that_unit}
use Rattle.sched_laws.proofs.EachPlace.{by_option, by_cond, at_place-put_at_other, at_place-clear_at_other}
use Rattle.sched_laws.proofs.NullKept.{read_released, at_released}
use Rattle.sched_laws.specs.PoolFacts.{IfUnit}
use Rattle.settle_laws.specs.Wanted.{waits_for}
use Rattle.settle_laws.proofs.Waiting.{has_filter, all_filter}
use Rattle.settle_laws.proofs.Spares.{Spares, others_from, own_from}
use Rattle.settle_laws.proofs.Tests.{false_if, or_last, not_true}

abbrev pub Kept : Type 0
Kept = List (Option UnitId)

-- what is found among what is numbered, and what is there is found
record Found (test : ℕ → Bool) (n : ℕ) (kept : Kept) : Type 0 where
  place : ℕ
  unit : UnitId
  at : at_place kept place ≡ Some unit
  passes : test (n + place) ≡ true

found : (test : ℕ → Bool) (n : ℕ) (kept : Kept) → list_any (λ (e : ℕ × UnitId). test e.0) (numbered_items n kept) ≡ true → Found test n kept
found test n [] any = absurd (cc)
found test n (None ∷ kept) any =
    let f = found test (suc n) kept any in
    let e : suc n + f.place ≡ n + suc f.place = omega arith in
    record { place = suc f.place; unit = f.unit; at = f.at; passes = subst (λ (k : ℕ). test k ≡ true) e f.passes }
found test n (Some u ∷ kept) any = elim (or_cases (test n) (list_any (λ (e : ℕ × UnitId). test e.0) (numbered_items (suc n) kept)) any) [
  | inl here ↦ (let e : n ≡ n + 0 = omega arith in record { place = 0; unit = u; at = refl; passes = subst (λ (k : ℕ). test k ≡ true) e here })
  | inr later ↦ (
      let f = found test (suc n) kept later in
      let e : suc n + f.place ≡ n + suc f.place = omega arith in
      record { place = suc f.place; unit = f.unit; at = f.at; passes = subst (λ (k : ℕ). test k ≡ true) e f.passes })
]

pub finds : (test : ℕ → Bool) (n i : ℕ) (u : UnitId) (kept : Kept) → at_place kept i ≡ Some u → test (n + i) ≡ true → list_any (λ (e : ℕ × UnitId). test e.0) (numbered_items n kept) ≡ true
finds test n i u [] at is = absurd (cc)
finds test n zero u (None ∷ kept) at is = absurd (cc)
finds test n zero u (Some x ∷ kept) at is = (let e : n + 0 ≡ n = omega arith in or_more (test n) _ (subst (λ (k : ℕ). test k ≡ true) e is))
finds test n (suc i) u (None ∷ kept) at is = (let e : n + suc i ≡ suc n + i = omega arith in finds test (suc n) i u kept at (subst (λ (k : ℕ). test k ≡ true) e is))
finds test n (suc i) u (Some x ∷ kept) at is = (let e : n + suc i ≡ suc n + i = omega arith in or_last (test n) _ (finds test (suc n) i u kept at (subst (λ (k : ℕ). test k ≡ true) e is)))

module _ (s : Scheduler) (home : ℕ) where
  pub placed_at : (kept : Kept) (k : ℕ) (u : UnitId) → is_unit_placed s kept home k u ≡ true → at_place kept k ≡ Some u
  placed_at kept k u is = is_unit_same (at_place kept k) u (and_left (is_unit (at_place kept k) u) (has_core_bit home k) (and_left (is_unit (at_place kept k) u && has_core_bit home k) (is_unit_allowed s home k u) is))

  placed_same : (kept next : Kept) (k : ℕ) (u : UnitId) → at_place kept k ≡ at_place next k → is_unit_placed s kept home k u ≡ is_unit_placed s next home k u
  placed_same kept next k u same = ap (λ (o : Option UnitId). (is_unit o u && has_core_bit home k) && is_unit_allowed s home k u) same

  taken_same : (kept next : Kept) (k : ℕ) → at_place kept k ≡ at_place next k → is_core_given s kept home k ≡ is_core_given s next home k
  taken_same kept next k same = ap (λ (o : Option UnitId). elim o as (λ _. Bool) [ None ↦ false | Some u ↦ (is_unit o u && has_core_bit home k) && is_unit_allowed s home k u ]) same

  pub taken_by : (kept : Kept) (k : ℕ) (u : UnitId) → is_unit_placed s kept home k u ≡ true → is_core_given s kept home k ≡ true
  taken_by kept k u is = ap (λ (o : Option UnitId). elim o as (λ _. Bool) [ None ↦ false | Some w ↦ is_unit_placed s kept home k w ]) (placed_at kept k u is) ∙ is

  record Taker (kept : Kept) (k : ℕ) : Type 0 where
    unit : UnitId
    is : is_unit_placed s kept home k unit ≡ true

  taker : (kept : Kept) (k : ℕ) → is_core_given s kept home k ≡ true → Taker kept k
  taker kept k is = by_unit (at_place kept k) is
    where
      by_unit : (o : Option UnitId) → elim o as (λ _. Bool) [ None ↦ false | Some w ↦ is_unit_placed s kept home k w ] ≡ true → Taker kept k
      by_unit None none = absurd (cc)
      by_unit (Some w) some = record { unit = w; is = some }

  pub has_by : (kept : Kept) (k : ℕ) (u : UnitId) → is_unit_placed s kept home k u ≡ true → has_given_core s kept home u ≡ true
  has_by kept k u is = finds (λ j. is_unit_placed s kept home j u) 0 k u kept (placed_at kept k u is) (let e : k ≡ 0 + k = omega arith in subst (λ (j : ℕ). is_unit_placed s kept home j u ≡ true) e is)

  pub record Placed (kept : Kept) (u : UnitId) : Type 0 where
    pub place : ℕ
    pub is : is_unit_placed s kept home place u ≡ true

  pub has_at : (kept : Kept) (u : UnitId) → has_given_core s kept home u ≡ true → Placed kept u
  has_at kept u has =
      let f = found (λ j. is_unit_placed s kept home j u) 0 kept has in
      let e : 0 + f.place ≡ f.place = omega arith in
      record { place = f.place; is = subst (λ (j : ℕ). is_unit_placed s kept home j u ≡ true) e f.passes }

  abbrev may : Kept → ℕ → UnitId → Bool
  may kept k u = is_unit_placed s kept home k u || (not (has_given_core s kept home u) && not (is_core_given s kept home k))

  -- a unit that may have a core after a change of what is kept may have it before
  may_before : (kept next : Kept) (k : ℕ) (u : UnitId)
      → (is_unit_placed s next home k u ≡ true → is_unit_placed s kept home k u ≡ true)
      → (has_given_core s kept home u ≡ true → has_given_core s next home u ≡ true)
      → (is_core_given s kept home k ≡ true → is_core_given s next home k ≡ true)
      → may next k u ≡ true → may kept k u ≡ true
  may_before kept next k u placed has taken is =
      elim (or_cases (is_unit_placed s next home k u) (not (has_given_core s next home u) && not (is_core_given s next home k)) is) [
        | inl here ↦ or_more (is_unit_placed s kept home k u) _ (placed here)
        | inr free ↦ (
            let no_place : has_given_core s kept home u ≡ false = false_if _ (λ h. clash (has_given_core s next home u) (has h) (not_true _ (and_left _ _ free))) in
            let no_taker : is_core_given s kept home k ≡ false = false_if _ (λ h. clash (is_core_given s next home k) (taken h) (not_true _ (and_right (not (has_given_core s next home u)) _ free))) in
            or_last (is_unit_placed s kept home k u) _ (ap (λ (b : Bool). not b && not (is_core_given s kept home k)) no_place ∙ ap not no_taker))
      ]

  -- a core that keeps nothing any more, and was given to none
  may_cleared : (kept : Kept) (r k : ℕ) (u : UnitId) → k ≢ r → is_core_given s kept home r ≡ false → may (clear_at r kept) k u ≡ true → may kept k u ≡ true
  may_cleared kept r k u other free =
      may_before kept (clear_at r kept) k u
      (λ is. placed_same kept (clear_at r kept) k u (sym (same k other)) ∙ is)
      (λ has. let p = has_at kept u has in
      elim (ℕ_discrete p.place r) [
        | yes here ↦ absurd (clash (is_core_given s kept home r) (taken_by kept r u (subst (λ (j : ℕ). is_unit_placed s kept home j u ≡ true) here p.is)) free)
        | no there ↦ has_by (clear_at r kept) p.place u (sym (placed_same kept (clear_at r kept) p.place u (sym (same p.place there))) ∙ p.is)
      ])
      (λ taken. sym (taken_same kept (clear_at r kept) k (sym (same k other))) ∙ taken)
    where
      same : (j : ℕ) → j ≢ r → at_place (clear_at r kept) j ≡ at_place kept j
      same j other = at_place-clear_at_other r j kept other

  -- a core that is kept for a unit which may have it
  may_given : (kept : Kept) (r k : ℕ) (u w : UnitId) → k ≢ r → same_unit u w ≡ false → ((a b : ℕ) (x : UnitId) → at_place kept a ≡ Some x → at_place kept b ≡ Some x → a ≡ b) → may kept r u ≡ true
      → may (null.kept_for r u kept) k w ≡ true → may kept k w ≡ true
  may_given kept r k u w other apart once given =
      may_before kept next k w
      (λ is.
      let at : at_place kept k ≡ Some w = (read_released (same_unit u) kept k w (sym (at_place-put_at_other r k u less other) ∙ placed_at next k w is)).0 in
      placed_same kept next k w (at ∙ sym (placed_at next k w is)) ∙ is)
      (λ has. let p = has_at kept w has in
      elim (ℕ_discrete p.place r) [
        | yes here ↦ absurd (not_there w apart (subst (λ (j : ℕ). is_unit_placed s kept home j w ≡ true) here p.is))
        | no there ↦ has_by next p.place w (sym (placed_same kept next p.place w (placed_at kept p.place w p.is ∙ sym (stays p.place w there apart (placed_at kept p.place w p.is)))) ∙ p.is)
      ])
      (λ taken. let p = taker kept k taken in
      elim (same_unit u p.unit) as (λ b. same_unit u p.unit ≡ b → is_core_given s next home k ≡ true) [
        | true ↦ λ is. absurd (not_elsewhere (subst (λ (x : UnitId). is_unit_placed s kept home k x ≡ true) (sym (same_unit_same u p.unit is)) p.is))
        | false ↦ λ is. taken_by next k p.unit (sym (placed_same kept next k p.unit (placed_at kept k p.unit p.is ∙ sym (stays k p.unit other is (placed_at kept k p.unit p.is)))) ∙ p.is)
      ] refl)
    where
      less : Kept
      less = null.kept_without (same_unit u) kept

      next : Kept
      next = null.kept_for r u kept

      stays : (j : ℕ) (x : UnitId) → j ≢ r → same_unit u x ≡ false → at_place kept j ≡ Some x → at_place next j ≡ Some x
      stays j x there apart at = at_place-put_at_other r j u less there ∙ at_released (same_unit u) kept j x at apart

      -- the core was given to no other unit
      not_there : (x : UnitId) → same_unit u x ≡ false → is_unit_placed s kept home r x ≡ true → ⊥
      not_there x apart is = elim (or_cases (is_unit_placed s kept home r u) (not (has_given_core s kept home u) && not (is_core_given s kept home r)) given) [
        | inl placed ↦ clash (same_unit u x) (is_that_unit (Some u) x (sym (placed_at kept r u placed) ∙ placed_at kept r x is)) apart
        | inr free ↦ clash (is_core_given s kept home r) (taken_by kept r x is) (not_true _ (and_right (not (has_given_core s kept home u)) _ free))
      ]

      -- nor the unit to another core
      not_elsewhere : is_unit_placed s kept home k u ≡ true → ⊥
      not_elsewhere is = elim (or_cases (is_unit_placed s kept home r u) (not (has_given_core s kept home u) && not (is_core_given s kept home r)) given) [
        | inl placed ↦ other (once k r u (placed_at kept k u is) (placed_at kept r u placed))
        | inr free ↦ clash (has_given_core s kept home u) (has_by kept k u is) (not_true _ (and_left _ _ free))
      ]

-- what a waiting unit asks for
abbrev asks_for : Option UnitId → Bool → Bool
asks_for None b = b
asks_for (Some x) b = b && false

waits_is : (s : Scheduler) (kept : Kept) (cur : Option UnitId) (since t k home : ℕ) (w : UnitId) → s.records ≡ NullPool kept
    → waits_for cur since t k home s w ≡ asks_for cur (is_unit_allowed s home k w && may s home kept k w)
waits_is s kept None since t k home w is = ap (λ (r : Records). is_unit_allowed s home k w && may_have_core r s home k t w) is
waits_is s kept (Some x) since t k home w is = ap (λ (r : Records). (is_unit_allowed s home k w && may_have_core r s home k t w) && is_unit_better r x since t w) is

asks_more : (cur : Option UnitId) (a b c : Bool) → (b ≡ true → c ≡ true) → asks_for cur (a && b) ≡ true → asks_for cur (a && c) ≡ true
asks_more None true b c to is = to is
asks_more None false b c to is = is
asks_more (Some x) a b c to is = absurd (clash ((a && b) && false) is (and_false (a && b)))

module _ (ask : Ask) (queue : List UnitId) (affinity : List (Option (List Cores))) (kept : Kept) (once : (a b : ℕ) (x : UnitId) → at_place kept a ≡ Some x → at_place kept b ≡ Some x → a ≡ b) where
  abbrev s : Scheduler
  s = record { queue = queue; affinity = affinity; records = NullPool kept }

  abbrev home : ℕ
  home = ask.home.0

  abbrev core : ℕ
  core = ask.core.0

  -- a unit that may have the core
  abbrev Given : UnitId → Type 0
  Given u = (is_unit_allowed s home core u && may s home kept core u) ≡ true

  abbrev asked : List UnitId
  asked = eligible_units s home core ask.at.0

  earliest_has : (units : List UnitId) → AllByRecursion Given units → IfUnit Given (null.earliest_unit units)
  earliest_has [] each = tt
  earliest_has (u ∷ units) each = each.0

  placed_given : (u : UnitId) → is_unit_placed s kept home core u ≡ true → Given u
  placed_given u is =
      ap (λ (b : Bool). b && may s home kept core u) (and_right (is_unit (at_place kept core) u && has_core_bit home core) (is_unit_allowed s home core u) is)
      ∙ or_more (is_unit_placed s kept home core u) _ is

  choice_given : IfUnit Given (null.null_choice ask s kept)
  choice_given =
      let all = all_filter Given (is_unit_eligible s home core ask.at.0) queue (λ u is. is) in
      by_option (IfUnit Given) ask.cur _ _ (λ is. earliest_has asked all)
      (λ u is. by_cond (IfUnit Given) (ask.runnable && is_unit_placed s kept home core u) _ _ (λ may. placed_given u (and_right ask.runnable _ may)) (λ may. earliest_has asked all))

  earliest_none : (units : List UnitId) (w : UnitId) → null.earliest_unit units ≡ None → has_listed_unit units w ≡ false
  earliest_none [] w is = refl
  earliest_none (u ∷ units) w is = absurd (cc)

  -- where none is chosen, none may have the core
  choice_none : (w : UnitId) → null.null_choice ask s kept ≡ None → has_listed_unit queue w ≡ true → is_unit_eligible s home core ask.at.0 w ≡ false
  choice_none w none waits =
      let no : has_listed_unit asked w ≡ false = earliest_none asked w (by_cur ask.cur none) in
      false_if _ (λ may. clash (has_listed_unit asked w) (has_filter _ queue w waits may) no)
    where
      by_runs : (b : Bool) (u : UnitId) → cond b (Some u) (null.earliest_unit asked) ≡ None → null.earliest_unit asked ≡ None
      by_runs true u is = absurd (cc)
      by_runs false u is = is

      by_cur : (o : Option UnitId) → elim o as (λ _. Option UnitId) [ None ↦ null.placed_or_earliest ask s kept | Some u ↦ cond (ask.runnable && is_unit_placed s kept home core u) (Some u) (null.placed_or_earliest ask s kept) ] ≡ None → null.earliest_unit asked ≡ None
      by_cur None is = is
      by_cur (Some u) is = by_runs (ask.runnable && is_unit_placed s kept home core u) u is

  -- what a decision leaves, of which the records and the unit are known
  record Fits (d : Decision) : Type 0 where
    next : Kept
    records : d.records ≡ NullPool next
    others : (k : ℕ) (w : UnitId) → k ≢ core → is_unit d.unit w ≡ false → may s home next k w ≡ true → may s home kept k w ≡ true
    own : ask.leaving ≡ false → (u : UnitId) → d.unit ≡ Some u → is_unit_allowed s home core u ≡ true
    none : ask.leaving ≡ false → d.unit ≡ None → (w : UnitId) → has_listed_unit queue w ≡ true → (is_unit_allowed s home core w && may s home next core w) ≡ false

  fits_choice : (o : Option UnitId) → null.null_choice ask s kept ≡ o → IfUnit Given o → Fits (null.null_decision_for core kept o)
  fits_choice None is given = record {
    next = kept;
    records = refl;
    others = λ k w other apart may_it. may_it;
    own = λ stays u some. absurd (cc);
    none = λ stays is2 w waits. choice_none w is waits;
  }
  fits_choice (Some u) is given = record {
    next = null.kept_for core u kept;
    records = refl;
    others = λ k w other apart may_it. may_given s home kept core k u w other apart once (and_right (is_unit_allowed s home core u) _ given) may_it;
    own = λ stays w some. (let e : u ≡ w = cc in subst (λ (x : UnitId). is_unit_allowed s home core x ≡ true) e (and_left (is_unit_allowed s home core u) _ given));
    none = λ stays none. absurd (cc);
  }

  abbrev decision : Decision
  decision = decision_of ask s

  fits : (ask.leaving && is_core_given s kept home core) ≡ false → Fits decision
  fits calm = by_cond Fits ask.leaving _ _
      (λ leaves.
      let free : is_core_given s kept home core ≡ false = ap (λ (b : Bool). b && is_core_given s kept home core) (sym leaves) ∙ calm in
      record {
        next = clear_at core kept;
        records = refl;
        others = λ k w other apart. may_cleared s home kept core k w other free;
        own = λ stays. absurd (clash ask.leaving leaves stays);
        none = λ stays. absurd (clash ask.leaving leaves stays);
      })
      (λ stays. fits_choice (null.null_choice ask s kept) refl choice_given)

  pub null_spares : (ask.leaving && is_core_given s kept home core) ≡ false → Spares ask s
  null_spares calm =
      let f = fits calm in
      let next : Scheduler = after_decision decision s in
      record {
        others = λ k cur since other apart is. others_from decision s k ask.at.0 home cur since (λ w left waits.
            waits_is s kept cur since ask.at.0 k home w refl
            ∙ asks_more cur (is_unit_allowed s home k w) (may s home f.next k w) (may s home kept k w) (f.others k w other left.other) (sym (waits_is next f.next cur since ask.at.0 k home w f.records) ∙ waits)) is;
        own = λ since stays same. own_from decision s core ask.at.0 home since (f.own stays) (λ w left.
            waits_is next f.next decision.unit since ask.at.0 core home w f.records ∙ by_unit f stays w left.waits decision.unit refl);
      }
    where
      by_unit : (f : Fits decision) → ask.leaving ≡ false → (w : UnitId) → has_listed_unit queue w ≡ true → (o : Option UnitId) → decision.unit ≡ o → asks_for o (is_unit_allowed s home core w && may s home f.next core w) ≡ false
      by_unit f stays w waits None is = f.none stays is w waits
      by_unit f stays w waits (Some u) is = and_false (is_unit_allowed s home core w && may s home f.next core w)
