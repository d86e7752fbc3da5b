-- A decision, and what becomes of the record of one domain.
use Rattle.std.proofs.Common.{◌≡◌, ◌<◌, ◌≤◌, ◌+◌, ◌-◌, ℕ, true, refl, arith, ap, subst, sym, ◌∙◌}
use Rattle.std.specs.Prelude.{Option, Some, None, slice_get, length, ℤ, pos, ◌+ℤ◌, ◌-ℤ◌, ◌≤ℤ◌}
use Rattle.std.proofs.lemmas.Int.{ints}
use Rattle.state_ranges.proofs.Budgets.{taken_low}
use Rattle.sched_base.specs.Credit2Numbers.{positive_part, budget_quota, cap_budget}
use Rattle.sched_model.specs.declared.state.Credit2Unit.{Credit2Unit}
use Rattle.sched_model.specs.declared.state.Credit2Domain.{Credit2Domain}
use Rattle.sched_model.specs.EligibleUnits.{has_cap_budget}
use Rattle.term_laws.proofs.CapTracks.{Stops, HasLeft}
use Rattle.term_laws.proofs.StepsDomain.{ArePast, Kept, kept_same, kept_trans}
use Rattle.term_laws.proofs.StepsChosen.{own_charged, was_reset, has_taken, now_from, chosen_domain, part_of, given_by, own_cap, own_is, own_other, own_past, reset_cap, reset_budget, reset_kept, taken_cap, taken_is, taken_other, holds_taken, from_cap, from_budget, from_other, from_holds, from_burned, split_budget, budget_above}

-- a core decides at t: it had this unit of the domain, and now has that; the domain's record x becomes y, and the unit takes so much
pub record DomainDecides (t : ℕ) (had has : Option ℕ) (taken : ℤ) (x y : Credit2Domain) : Type 0 where
  pub cap : y.cap ≡ x.cap
  pub others : (n : ℕ) → (had ≡ Some n → ⊥) → (has ≡ Some n → ⊥) → Kept x y n
  pub given : ℤ
  pub gives_back : 0 < x.cap → HasLeft t x given had
  pub budget : 0 < x.cap → positive_part y.budget + positive_part taken ≤ positive_part (x.budget +ℤ given)
  pub nothing : has ≡ None → taken ≡ pos 0
  pub takes : (j : ℕ) → has ≡ Some j → (z : Credit2Unit) → slice_get y.units j ≡ Some z → (z.burned ≡ Some t) × (0 < x.cap → z.held ≡ taken)
  pub low : 0 < x.cap → pos 0 ≤ℤ taken

-- what the chosen unit takes
abbrev pub taken_by : Option ℕ → Credit2Domain → ℤ
taken_by None x = pos 0
taken_by (Some j) x = part_of x

module _ (most most2 t k : ℕ) (x : Credit2Domain) (past : ArePast t x.units) where
  abbrev pub own : Option ℕ → Credit2Domain
  own had = own_charged most t had x

  abbrev pub again : Option ℕ → Credit2Domain
  again had = was_reset most2 t k (own had)

  caps : (had : Option ℕ) → (again had).cap ≡ x.cap
  caps had = reset_cap most2 t k (own had) ∙ own_cap most t had x

  all_caps : (had has : Option ℕ) → (chosen_domain most most2 t k had has x).cap ≡ x.cap
  all_caps had has = from_cap (Some t) has (now_from None had (has_taken has (again had))) ∙ from_cap None had (has_taken has (again had)) ∙ taken_cap has (again had) ∙ caps had

  budgets : (had has : Option ℕ) → (chosen_domain most most2 t k had has x).budget ≡ (has_taken has (again had)).budget
  budgets had has = from_budget (Some t) has (now_from None had (has_taken has (again had))) ∙ from_budget None had (has_taken has (again had))

  -- the other units of the domain
  others : (had has : Option ℕ) (n : ℕ) → (had ≡ Some n → ⊥) → (has ≡ Some n → ⊥) → Kept x (chosen_domain most most2 t k had has x) n
  others had has n no_had no_has =
      let first : Kept x (own had) n = kept_same x (own had) n (own_other most t had x n no_had) in
      let second : Kept (own had) (again had) n = reset_kept most2 t k (own had) n (own_past most t had x past) in
      let rest : slice_get (chosen_domain most most2 t k had has x).units n ≡ slice_get (again had).units n =
      from_other (Some t) has (now_from None had (has_taken has (again had))) n no_has ∙ from_other None had (has_taken has (again had)) n no_had ∙ taken_other has (again had) n no_has in
      kept_trans x (own had) (chosen_domain most most2 t k had has x) n (own_cap most t had x) first
      (kept_trans (own had) (again had) (chosen_domain most most2 t k had has x) n (reset_cap most2 t k (own had)) second (kept_same (again had) (chosen_domain most most2 t k had has x) n rest))

  abbrev Fits : ℤ → Option ℕ → Option ℕ → Type 0
  Fits given had has = positive_part (chosen_domain most most2 t k had has x).budget + positive_part (taken_by has (again had)) ≤ positive_part (x.budget +ℤ given)

  budget_none : (given : ℤ) (had : Option ℕ) → (own had).budget ≡ x.budget +ℤ given → Fits given had None
  budget_none given had is =
      let e : (chosen_domain most most2 t k had None x).budget ≡ x.budget +ℤ given = budgets had None ∙ reset_budget most2 t k (own had) ∙ is in
      let e2 = ap positive_part e in
      omega (arith, e2)

  budget_some : (given : ℤ) (had : Option ℕ) (j : ℕ) → 0 < x.cap → (own had).budget ≡ x.budget +ℤ given → has_cap_budget (own had) ≡ true → Fits given had (Some j)
  budget_some given had j some is pays =
      let again_is : (again had).budget ≡ x.budget +ℤ given = reset_budget most2 t k (own had) ∙ is in
      let some2 : 0 < (again had).cap = subst (λ n. 0 < n) (sym (caps had)) some in
      let b : (chosen_domain most most2 t k had (Some j) x).budget ≡ (again had).budget -ℤ part_of (again had) = budgets had (Some j) ∙ ap (λ (y : Credit2Domain). y.budget) (taken_is j (again had) some2) in
      let low = pays_low had some pays in
      let s = split_budget (again had).budget (budget_quota (cap_budget (again had).cap) (length (again had).units)) low in
      let e = ap positive_part b in
      let e2 = ap positive_part again_is in
      omega (arith, s, e, e2)
    where
      pays_low : (had : Option ℕ) → 0 < x.cap → has_cap_budget (own had) ≡ true → pos 0 ≤ℤ (again had).budget
      pays_low had some pays = subst (λ (b : ℤ). pos 0 ≤ℤ b) (sym (reset_budget most2 t k (own had))) (budget_above (own had) (subst (λ n. 0 < n) (sym (own_cap most t had x)) some) pays)

  paid_low : (had has : Option ℕ) → 0 < x.cap → ((j : ℕ) → has ≡ Some j → has_cap_budget (own had) ≡ true) → pos 0 ≤ℤ taken_by has (again had)
  paid_low had None some pays = omega (arith, ints)
  paid_low had (Some j) some pays =
      taken_low (again had).budget (budget_quota (cap_budget (again had).cap) (length (again had).units))
      (subst (λ (b : ℤ). pos 0 ≤ℤ b) (sym (reset_budget most2 t k (own had))) (budget_above (own had) (subst (λ n. 0 < n) (sym (own_cap most t had x)) some) (pays j refl)))

  fits : (given : ℤ) (had has : Option ℕ) → 0 < x.cap → ((j : ℕ) → has ≡ Some j → has_cap_budget (own had) ≡ true) → (own had).budget ≡ x.budget +ℤ given → Fits given had has
  fits given had None some pays is = budget_none given had is
  fits given had (Some j) some pays is = budget_some given had j some is (pays j refl)

  nothing : (had has : Option ℕ) → has ≡ None → taken_by has (again had) ≡ pos 0
  nothing had None is = refl
  nothing had (Some j) is = absurd (cc)

  takes : (had has : Option ℕ) (j : ℕ) → has ≡ Some j → (z : Credit2Unit) → slice_get (chosen_domain most most2 t k had has x).units j ≡ Some z → (z.burned ≡ Some t) × (0 < x.cap → z.held ≡ taken_by has (again had))
  takes had None j is z at = absurd (cc)
  takes had (Some i) j is z at =
      let e : i ≡ j = cc in
      let at2 : slice_get (chosen_domain most most2 t k had (Some i) x).units i ≡ Some z = subst (λ n. slice_get (chosen_domain most most2 t k had (Some i) x).units n ≡ Some z) (sym e) at in (
        from_burned t i (now_from None had (has_taken (Some i) (again had))) z at2,
        λ some. from_holds (Some t) (Some i) (now_from None had (has_taken (Some i) (again had))) i (part_of (again had))
            (from_holds None had (has_taken (Some i) (again had)) i (part_of (again had)) (holds_taken i (again had) (subst (λ n. 0 < n) (sym (caps had)) some))) z at2,
      )

  pub domain_decides : (had has : Option ℕ) → ((i : ℕ) → had ≡ Some i → (stop : ℤ) × Stops x i stop) → ((j : ℕ) → has ≡ Some j → has_cap_budget (own had) ≡ true)
      → DomainDecides t had has (taken_by has (again had)) x (chosen_domain most most2 t k had has x)
  domain_decides None has runs pays = record {
    cap = all_caps None has;
    others = others None has;
    given = pos 0;
    gives_back = λ some. refl;
    budget = λ some. fits (pos 0) None has some pays (omega (arith, ints));
    nothing = nothing None has;
    takes = takes None has;
    low = λ some. paid_low None has some pays;
  }
  domain_decides (Some i) has runs pays =
      let s = (runs i refl).1 in
      let past_i = past i s.from s.unit s.at s.burned in
      record {
        cap = all_caps (Some i) has;
        others = others (Some i) has;
        given = given_by most t s.from s.unit;
        gives_back = λ some. record { unit = s.unit; at = s.at; from = s.from; burned = s.burned; sum = back s.from s.unit.held past_i };
        budget = λ some. fits (given_by most t s.from s.unit) (Some i) has some pays (ap (λ (y : Credit2Domain). y.budget) (own_is most t i s.from x s.unit some s.at s.burned));
        nothing = nothing (Some i) has;
        takes = takes (Some i) has;
        low = λ some. paid_low (Some i) has some pays;
      }
    where
      back : (b : ℕ) (h : ℤ) → b ≤ t → pos b +ℤ h ≡ pos t +ℤ (h -ℤ pos (t - b))
      back b h low = omega (arith, ints, low)
