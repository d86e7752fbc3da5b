-- What is read of each unit, once one is written and no other changes.
use Rattle.std.proofs.Common.{◌≡◌, ◌≢◌, ◌+◌, ℕ, Bool, true, false, refl, sym, ◌∙◌, ap, inl, inr, arith}
use Rattle.std.specs.Prelude.{◌&&◌, ◌==◌, nat_lt, if◌then◌else◌}
use Rattle.std.proofs.lemmas.Bool.{cases_eq, cases_lt, eq-eqb, ne_eqb, lt-ltb, le-ltb}
use Rattle.sched_base.specs.declared.UnitId.{UnitId}
use Rattle.sched_base.specs.Units.{same_unit}
use Rattle.sched_base.specs.Numbers.{domain}

one_more : (n k : ℕ) → n ≢ k → nat_lt n k ≡ nat_lt n (k + 1)
one_more n k ne = elim (cases_lt n k) [
  | inl low ↦ lt-ltb n k low ∙ sym (lt-ltb n (k + 1) (omega (arith, low)))
  | inr high ↦ le-ltb n k high ∙ sym (le-ltb n (k + 1) (omega (arith, high, ne)))
]

module _ {X : Type 0} (before after : UnitId → X) (d k : ℕ) (u : UnitId) (others : (w : UnitId) → same_unit w (record { dom = domain d; n = k }) ≡ false → after w ≡ before w) where
  -- the unit itself, another one of its domain, and one of another domain
  here : u.dom.0 ≡ d → u.n ≡ k → after u ≡ after (record { dom = domain d; n = k })
  here dom n = ap (λ (i : ℕ). after (record { dom = domain i; n = u.n })) dom ∙ ap (λ (i : ℕ). after (record { dom = domain d; n = i })) n

  beside : u.n ≢ k → after u ≡ before u
  beside n = others u (ap (λ (b : Bool). (u.dom.0 == d) && b) (ne_eqb u.n k n) ∙ none (u.dom.0 == d))
    where
      none : (b : Bool) → (b && false) ≡ false
      none true = refl
      none false = refl

  elsewhere : u.dom.0 ≢ d → after u ≡ before u
  elsewhere dom = others u (ap (λ (b : Bool). b && (u.n == k)) (ne_eqb u.dom.0 d dom))

  -- one unit is written
  pub written_one : (x : X) → after (record { dom = domain d; n = k }) ≡ x → after u ≡ (if u.dom.0 == d && u.n == k then x else before u)
  written_one x mine =
      elim (cases_eq u.dom.0 d) [
        | inl dom ↦ elim (cases_eq u.n k) [
          | inl n ↦ (let a = eq-eqb u.dom.0 d dom in let b = eq-eqb u.n k n in here dom n ∙ mine ∙ sym (rw (a, b) refl))
          | inr n ↦ (let a = eq-eqb u.dom.0 d dom in let b = ne_eqb u.n k n in beside n ∙ sym (rw (a, b) refl))
        ]
        | inr dom ↦ (let a = ne_eqb u.dom.0 d dom in elsewhere dom ∙ sym (rw a refl))
      ]

  -- the first k of a domain are written, and then one more
  pub written_more : (f : ℕ → X) (first : UnitId → X) → after (record { dom = domain d; n = k }) ≡ f k → before u ≡ (if u.dom.0 == d && nat_lt u.n k then f u.n else first u)
      → after u ≡ (if u.dom.0 == d && nat_lt u.n (k + 1) then f u.n else first u)
  written_more f first mine was =
      elim (cases_eq u.dom.0 d) [
        | inl dom ↦ elim (cases_eq u.n k) [
          | inl n ↦ (let a = eq-eqb u.dom.0 d dom in let b = lt-ltb u.n (k + 1) (omega (arith, n)) in here dom n ∙ mine ∙ ap f (sym n) ∙ sym (rw (a, b) refl))
          | inr n ↦ beside n ∙ was ∙ ap (λ (b : Bool). if u.dom.0 == d && b then f u.n else first u) (one_more u.n k n)
        ]
        | inr dom ↦ (
            let a = ne_eqb u.dom.0 d dom in
            let left : (if u.dom.0 == d && nat_lt u.n k then f u.n else first u) ≡ first u = rw a refl in
            let right : (if u.dom.0 == d && nat_lt u.n (k + 1) then f u.n else first u) ≡ first u = rw a refl in
            elsewhere dom ∙ was ∙ left ∙ sym right)
      ]
