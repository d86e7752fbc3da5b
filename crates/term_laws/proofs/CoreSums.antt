-- Sums over the cores, and numbers above and below 0.
use Rattle.std.proofs.Common.{◌≡◌, ◌≢◌, ◌≤◌, ◌<◌, ◌+◌, ◌-◌, ℕ, zero, suc, refl, arith, ap, ◌⊎◌, inl, inr, Bool, true, cond, nat_lt}
use Rattle.std.specs.Prelude.{ℤ, pos, negsuc, ◌+ℤ◌, ◌-ℤ◌, ◌≤ℤ◌}
use Rattle.std.proofs.Math.Decide.{ℕ_discrete}
use Rattle.std.proofs.lemmas.Int.{ints}
use Rattle.sched_base.specs.Credit2Numbers.{positive_part}
use Rattle.sched_laws.specs.Counts.{total_over}

pub total_same : (n : ℕ) (f g : ℕ → ℕ) → ((r : ℕ) → r < n → f r ≡ g r) → total_over n f ≡ total_over n g
total_same zero f g same = refl
total_same (suc n) f g same =
    let a = total_same n f g (λ r low. same r (omega (arith, low))) in
    let b = same n (omega arith) in
    omega (arith, a, b)

-- each is at most two others together
pub total_two : (n : ℕ) (f g h : ℕ → ℕ) → ((r : ℕ) → r < n → f r ≤ g r + h r) → total_over n f ≤ total_over n g + total_over n h
total_two zero f g h below = omega arith
total_two (suc n) f g h below =
    let a = total_two n f g h (λ r low. below r (omega (arith, low))) in
    let b = below n (omega arith) in
    omega (arith, a, b)

pub total_none : (n : ℕ) (f : ℕ → ℕ) → ((r : ℕ) → r < n → f r ≡ 0) → total_over n f ≡ 0
total_none zero f none = refl
total_none (suc n) f none =
    let a = total_none n f (λ r low. none r (omega (arith, low))) in
    let b = none n (omega arith) in
    omega (arith, a, b)

pub total_one : (n r : ℕ) (f : ℕ → ℕ) → r < n → f r ≤ total_over n f
total_one zero r f low = absurd (omega (arith, low))
total_one (suc n) r f low =
    elim (ℕ_discrete r n) [
      | yes e ↦ (let same : f r ≡ f n = ap f e in omega (arith, same))
      | no ne ↦ (let a = total_one n r f (omega (arith, low, ne)) in omega (arith, a))
    ]

-- one of them is changed
pub total_changed : (n i : ℕ) (f g : ℕ → ℕ) → ((r : ℕ) → r ≢ i → f r ≡ g r) → (n ≤ i → f i ≡ g i) → total_over n f + g i ≡ total_over n g + f i
total_changed zero i f g same high = (let h = high (omega arith) in omega (arith, h))
total_changed (suc n) i f g same high =
    elim (ℕ_discrete n i) [
      | yes e ↦ (
          let a = total_same n f g (λ r low. same r (λ e2. omega (arith, e, e2, low))) in
          let b : f n ≡ f i = ap f e in
          let c : g n ≡ g i = ap g e in
          omega (arith, a, b, c))
      | no ne ↦ (
          let a = total_changed n i f g same (λ le. high (omega (arith, le, ne))) in
          let b = same n ne in
          omega (arith, a, b))
    ]

-- a span is 0, or what was late of it counts
pub counts_or_not : (span late : ℕ) → (span ≡ 0) ⊎ ((0 < span) × (cond (nat_lt 0 span) late 0 ≡ late))
counts_or_not zero late = inl refl
counts_or_not (suc n) late = inr (omega arith, (let e : nat_lt 0 (suc n) ≡ true = grind arith in ap (λ (b : Bool). cond b late 0) e))

-- a number is not above 0, or it is what is above 0 of it
pub above : (z : ℤ) → ((positive_part z ≡ 0) × (z ≤ℤ pos 0)) ⊎ (z ≡ pos (positive_part z))
above (pos n) = inr refl
above (negsuc n) = inl (refl, omega (arith, ints))

pub above_most : (z : ℤ) → z ≤ℤ pos (positive_part z)
above_most z = elim (above z) [ inl low ↦ (let e = low.0 in let l = low.1 in omega (arith, ints, e, l)) | inr is ↦ (let e = is in omega (arith, ints, e)) ]

-- it is at most each number that is at least it and 0
pub above_least : (z : ℤ) (n : ℕ) → z ≤ℤ pos n → positive_part z ≤ n
above_least z n le = elim (above z) [ inl low ↦ (let e = low.0 in omega (arith, e)) | inr is ↦ omega (arith, ints, is, le) ]

pub above_rises : (a b : ℤ) → a ≤ℤ b → positive_part a ≤ positive_part b
above_rises a b le = above_least a (positive_part b) (let h = above_most b in omega (arith, ints, le, h))

-- a core that had a unit decides at t: what the unit held is used up at stop, and given back; it was on the core from a, and so late
pub given_back : (budget given stop : ℤ) (t a late : ℕ) → stop ≡ pos t +ℤ given → a ≤ t → pos t ≤ℤ (stop +ℤ pos late)
    → positive_part (budget +ℤ given) + (t - a) ≤ positive_part budget + positive_part (stop -ℤ pos a) + late
given_back budget given stop t a late is begun enough =
    let b = above_most budget in
    let s = above_most (stop -ℤ pos a) in
    elim (above (budget +ℤ given)) [
      | inl low ↦ (let e = low.0 in omega (arith, ints, e, is, begun, enough, s))
      | inr high ↦ omega (arith, ints, high, is, begun, enough, s, b)
    ]

pub given_now : (budget given stop : ℤ) (t a : ℕ) → stop ≡ pos t +ℤ given → a ≡ t → positive_part (budget +ℤ given) ≤ positive_part budget + positive_part (stop -ℤ pos a)
given_now budget given stop t a is e =
    let b = above_most budget in
    let s = above_most (stop -ℤ pos a) in
    above_least (budget +ℤ given) (positive_part budget + positive_part (stop -ℤ pos a)) (omega (arith, ints, is, e, b, s))
