-- That one goes before another is a strict order, and how it meets a change of ranks.
use Rattle.std.proofs.Common.{◌≡◌, ℕ, ◌-◌, ◌<◌, ◌≤◌, Bool, true, false, refl, sym, ◌∙◌, ap, inl, inr, arith}
use Rattle.std.specs.Prelude.{◌||◌, ◌&&◌, not, if◌then◌else◌, nat_lt, int_lt}
use Rattle.std.proofs.lemmas.Int.{ints}
use Rattle.std.specs.Cmp.{IsStrictWeakOrder}
use Rattle.std.proofs.lemmas.List.Sorted.{IsStrictWeakOrder-by_number}
use Rattle.std.proofs.lemmas.Bool.{cases_lt, cases_Bool, false_from_ne_true, lt-ltb, le-ltb}
use Rattle.sched_base.proofs.Bools.{clash}
use Rattle.arrival_queue.specs.declared.key.Key.{Key}
use Rattle.arrival_queue.specs.Queues.{Queued, is_lesser_key, goes_before, closed_up}

int_order : IsStrictWeakOrder int_lt
int_order = record {
  one_way = λ x y h. false_from_ne_true (int_lt y x) (λ e. omega (arith, ints, h, e));
  chain = λ x y z a b. false_from_ne_true (int_lt x z) (λ e. omega (arith, ints, a, b, e));
}

-- by one order, then by another
module _ {X : Type 0} (lt lt2 : X → X → Bool) (o : IsStrictWeakOrder lt) (o2 : IsStrictWeakOrder lt2) where
  abbrev then_by : X → X → Bool
  then_by x y = lt x y || not (lt y x) && lt2 x y

  left : (a b c : Bool) → (a || not b && c) ≡ false → a ≡ false
  left true b c e = e
  left false b c e = refl

  right : (a b c : Bool) → (a || not b && c) ≡ false → b ≡ false → c ≡ false
  right true b c e none = absurd (clash true refl e)
  right false true c e none = absurd (clash true refl none)
  right false false c e none = e

  back : (a b c d : Bool) → (a ≡ true → b ≡ false) → (c ≡ true → d ≡ false) → (a || not b && c) ≡ true → (b || not a && d) ≡ false
  back true b c d one two e = ap (λ (t : Bool). t || not true && d) (one refl)
  back false true c d one two e = absurd (clash false e refl)
  back false false c d one two e = two e

  whole : (a b c : Bool) → a ≡ false → (b ≡ false → c ≡ false) → (a || not b && c) ≡ false
  whole true b c one two = one
  whole false true c one two = refl
  whole false false c one two = two refl

  pub then_order : IsStrictWeakOrder then_by
  then_order = record {
    one_way = λ x y h. back (lt x y) (lt y x) (lt2 x y) (lt2 y x) (o.one_way x y) (o2.one_way x y) h;
    chain = λ x y z a b.
        let xy = left (lt x y) (lt y x) (lt2 x y) a in
        let yz = left (lt y z) (lt z y) (lt2 y z) b in
        whole (lt x z) (lt z x) (lt2 x z) (o.chain x y z xy yz) (λ zx.
        o2.chain x y z (right (lt x y) (lt y x) (lt2 x y) a (o.chain y z x yz zx)) (right (lt y z) (lt z y) (lt2 y z) b (o.chain z x y zx xy)));
  }

  -- where neither goes before, neither does by the second order
  pub then_ties : (x y : X) → then_by x y ≡ false → then_by y x ≡ false → lt2 x y ≡ false
  then_ties x y a b = right (lt x y) (lt y x) (lt2 x y) a (left (lt y x) (lt x y) (lt2 y x) b)

key_order : IsStrictWeakOrder is_lesser_key
key_order =
    then_order (λ (a b : Key). int_lt a.first b.first) (λ (a b : Key). nat_lt a.second b.second)
    (record { one_way = λ a b. int_order.one_way a.first b.first; chain = λ a b c. int_order.chain a.first b.first c.first })
    (IsStrictWeakOrder-by_number (λ (a : Key). a.second))

by_key : IsStrictWeakOrder (λ (a b : Queued). is_lesser_key a.key b.key)
by_key = record { one_way = λ a b. key_order.one_way a.key b.key; chain = λ a b c. key_order.chain a.key b.key c.key }

by_rank : IsStrictWeakOrder (λ (a b : Queued). nat_lt a.rank b.rank)
by_rank = IsStrictWeakOrder-by_number (λ (a : Queued). a.rank)

before_order : IsStrictWeakOrder goes_before
before_order = then_order (λ (a b : Queued). is_lesser_key a.key b.key) (λ (a b : Queued). nat_lt a.rank b.rank) by_key by_rank

pub before_trans : (a b c : Queued) → goes_before a b ≡ true → goes_before b c ≡ true → goes_before a c ≡ true
before_trans a b c ab bc =
    elim (cases_Bool (goes_before a c)) [
      | inl is ↦ is
      | inr none ↦ absurd (clash (goes_before a b) ab (before_order.chain a c b none (before_order.one_way b c bc)))
    ]

-- of two with different ranks one goes before the other
pub before_other : (a b : Queued) → goes_before a b ≡ false → (a.rank ≡ b.rank → ⊥) → goes_before b a ≡ true
before_other a b neither other =
    elim (cases_Bool (goes_before b a)) [
      | inl is ↦ is
      | inr none ↦
          let ties : (x y : Queued) → goes_before x y ≡ false → goes_before y x ≡ false → nat_lt x.rank y.rank ≡ false =
          then_ties (λ (x y : Queued). is_lesser_key x.key y.key) (λ (x y : Queued). nat_lt x.rank y.rank) by_key by_rank
          in
          let ab = ties a b neither none in
          let ba = ties b a none neither in
          absurd
          (elim (cases_lt a.rank b.rank) [
            | inl less ↦ clash (nat_lt a.rank b.rank) (lt-ltb a.rank b.rank less) ab
            | inr more ↦
                elim (cases_lt b.rank a.rank) [
                  | inl less ↦ clash (nat_lt b.rank a.rank) (lt-ltb b.rank a.rank less) ba
                  | inr most ↦ other (omega (arith, more, most))
                ]
          ])
    ]

-- ranks that close up keep their order
pub closed-test : (r a b : ℕ) → (a ≡ r → ⊥) → (b ≡ r → ⊥) → nat_lt (if nat_lt r a then a - 1 else a) (if nat_lt r b then b - 1 else b) ≡ nat_lt a b
closed-test r a b other_a other_b =
    elim (cases_lt r a) [
      | inl over_a ↦
          ap (λ (t : Bool). nat_lt (if t then a - 1 else a) (if nat_lt r b then b - 1 else b)) (lt-ltb r a over_a)
          ∙ elim (cases_lt r b) [
            | inl over_b ↦ ap (λ (t : Bool). nat_lt (a - 1) (if t then b - 1 else b)) (lt-ltb r b over_b) ∙ both over_a over_b
            | inr under_b ↦ ap (λ (t : Bool). nat_lt (a - 1) (if t then b - 1 else b)) (le-ltb r b under_b) ∙ over over_a under_b
          ]
      | inr under_a ↦
          ap (λ (t : Bool). nat_lt (if t then a - 1 else a) (if nat_lt r b then b - 1 else b)) (le-ltb r a under_a)
          ∙ elim (cases_lt r b) [
            | inl over_b ↦ ap (λ (t : Bool). nat_lt a (if t then b - 1 else b)) (lt-ltb r b over_b) ∙ under under_a over_b
            | inr under_b ↦ ap (λ (t : Bool). nat_lt a (if t then b - 1 else b)) (le-ltb r b under_b)
          ]
    ]
  where
    both : r < a → r < b → nat_lt (a - 1) (b - 1) ≡ nat_lt a b
    both over_a over_b =
        elim (cases_lt a b) [
          | inl less ↦ lt-ltb (a - 1) (b - 1) (omega (arith, less, over_a)) ∙ sym (lt-ltb a b less)
          | inr more ↦ le-ltb (a - 1) (b - 1) (omega (arith, more)) ∙ sym (le-ltb a b more)
        ]

    over : r < a → b ≤ r → nat_lt (a - 1) b ≡ nat_lt a b
    over over_a under_b = le-ltb (a - 1) b (omega (arith, over_a, under_b)) ∙ sym (le-ltb a b (omega (arith, over_a, under_b)))

    under : a ≤ r → r < b → nat_lt a (b - 1) ≡ nat_lt a b
    under under_a over_b =
        let less : a < r = strict a r under_a other_a in
        lt-ltb a (b - 1) (omega (arith, less, over_b)) ∙ sym (lt-ltb a b (omega (arith, less, over_b)))
      where
        strict : (m n : ℕ) → m ≤ n → (m ≡ n → ⊥) → m < n
        strict m n low other = elim (cases_lt m n) [ inl less ↦ less | inr more ↦ absurd (other (omega (arith, low, more))) ]

pub closed_before : (r : ℕ) (a b : Queued) → (a.rank ≡ r → ⊥) → (b.rank ≡ r → ⊥) → goes_before (closed_up r a) (closed_up r b) ≡ goes_before a b
closed_before r a b other_a other_b =
    ap (λ (t : Bool). is_lesser_key a.key b.key || not (is_lesser_key b.key a.key) && t) (closed-test r a.rank b.rank other_a other_b)
