-- Links that lead along a list lead along it without a number, and with a number before another.
use Rattle.std.proofs.Common.{◌≡◌, ◌⊎◌, ℕ, zero, suc, ◌+◌, ◌-◌, ◌<◌, List, [], ◌∷◌, length, set, Bool, refl, sym, ◌∙◌, ap, subst, inl, inr, arith, length-set}
use Rattle.std.specs.Prelude.{if◌then◌else◌}
use Rattle.std.proofs.lemmas.Bool.{cases_eq, eq-eqb, ne_eqb}
use Rattle.std.proofs.lemmas.List.{get_or-set_same, get_or-set_other}
use Rattle.unit_ring.specs.Chains.{link, Path, Lacks, Distinct, Below, EndsIn, IsChain, follow, chain, numbers_without, put_before, after_without, before_without, after_with, before_with}
use Rattle.sched_base.specs.Lists.{Has}

pub without-same : (n y : ℕ) (ys : List ℕ) → y ≡ n → numbers_without n (y ∷ ys) ≡ numbers_without n ys
without-same n y ys e = ap (λ (t : Bool). if t then numbers_without n ys else y ∷ numbers_without n ys) (eq-eqb y n e)

pub without-other : (n y : ℕ) (ys : List ℕ) → (y ≡ n → ⊥) → numbers_without n (y ∷ ys) ≡ y ∷ numbers_without n ys
without-other n y ys ne = ap (λ (t : Bool). if t then numbers_without n ys else y ∷ numbers_without n ys) (ne_eqb y n ne)

pub put_before-same : (at n y : ℕ) (ys : List ℕ) → y ≡ at → put_before at n (y ∷ ys) ≡ n ∷ y ∷ put_before at n ys
put_before-same at n y ys e =
    ap (λ (t : Bool). if t then n ∷ y ∷ put_before at n ys else y ∷ put_before at n ys) (eq-eqb y at e)

pub put_before-other : (at n y : ℕ) (ys : List ℕ) → (y ≡ at → ⊥) → put_before at n (y ∷ ys) ≡ y ∷ put_before at n ys
put_before-other at n y ys ne =
    ap (λ (t : Bool). if t then n ∷ y ∷ put_before at n ys else y ∷ put_before at n ys) (ne_eqb y at ne)

pub Lacks-Has : (m n : ℕ) (ys : List ℕ) → Lacks m ys → Has n ys → m ≡ n → ⊥
Lacks-Has m n [] lacks has e = has
Lacks-Has m n (y ∷ ys) lacks has e =
    elim has [ inl is ↦ lacks.0 (e ∙ is) | inr later ↦ Lacks-Has m n ys lacks.1 later e ]

pub Below-Has : (m n : ℕ) (ys : List ℕ) → Below m ys → Has n ys → n < m
Below-Has m n [] below has = absurd has
Below-Has m n (y ∷ ys) below has =
    elim has [ inl is ↦ omega (arith, is, below.0) | inr later ↦ Below-Has m n ys below.1 later ]

pub without-lacks : (n : ℕ) (ys : List ℕ) → Lacks n ys → numbers_without n ys ≡ ys
without-lacks n [] lacks = refl
without-lacks n (y ∷ ys) lacks =
    without-other n y ys (λ e. lacks.0 (sym e)) ∙ ap (λ (zs : List ℕ). y ∷ zs) (without-lacks n ys lacks.1)

pub put_before-lacks : (at n : ℕ) (ys : List ℕ) → Lacks at ys → put_before at n ys ≡ ys
put_before-lacks at n [] lacks = refl
put_before-lacks at n (y ∷ ys) lacks =
    put_before-other at n y ys (λ e. lacks.0 (sym e)) ∙ ap (λ (zs : List ℕ). y ∷ zs) (put_before-lacks at n ys lacks.1)

-- a forward link is changed where the path does not start from
Path-set_after : (f g : List ℕ) (b v x : ℕ) (ys : List ℕ) → Path f g x ys → Lacks b (x ∷ ys) → Path (set f b v) g x ys
Path-set_after f g b v x [] path lacks = tt
Path-set_after f g b v x (y ∷ ys) path lacks = (
  get_or-set_other f b x v 0 (λ e. lacks.0 (sym e)) ∙ path.0,
  path.1,
  Path-set_after f g b v y ys path.2 lacks.1,
)

-- a backward link is changed where the path does not come to
Path-set_before : (f g : List ℕ) (a v x : ℕ) (ys : List ℕ) → Path f g x ys → Lacks a ys → Path f (set g a v) x ys
Path-set_before f g a v x [] path lacks = tt
Path-set_before f g a v x (y ∷ ys) path lacks = (
  path.0,
  get_or-set_other g a y v 0 (λ e. lacks.0 (sym e)) ∙ path.1,
  Path-set_before f g a v y ys path.2 lacks.1,
)

-- the number before one of the path, and the number after one that is not its end, are in it
pub before-Has : (f g : List ℕ) (x n : ℕ) (ys : List ℕ) → Path f g x ys → Has n ys → Has (link g n) (x ∷ ys)
before-Has f g x n [] path has = absurd has
before-Has f g x n (y ∷ ys) path has =
    elim has [
      | inl is ↦ inl (ap (link g) is ∙ path.1)
      | inr later ↦ inr (before-Has f g y n ys path.2 later)
    ]

pub after-Has : (f g : List ℕ) (x n : ℕ) (ys : List ℕ) → Path f g x ys → EndsIn 3 ys → (n ≡ 3 → ⊥) → Has n ys → Has (link f n) ys
after-Has f g x n [] path ends inner has = has
after-Has f g x n (y ∷ []) path ends inner has =
    elim has [ inl is ↦ absurd (inner (is ∙ ends)) | inr later ↦ absurd later ]
after-Has f g x n (y ∷ z ∷ zs) path ends inner has =
    elim has [
      | inl is ↦ inr (inl (ap (link f) is ∙ path.2.0))
      | inr later ↦ inr (after-Has f g y n (z ∷ zs) path.2 ends inner later)
    ]

-- the links without n lead along the list without n
pub Path-without : (f g : List ℕ) (x n : ℕ) (ys : List ℕ)
    → Path f g x ys → Distinct (x ∷ ys) → Below (length f) (x ∷ ys) → length g ≡ length f
    → EndsIn 3 ys → (n ≡ 3 → ⊥) → Has n ys
    → Path (after_without f g n) (before_without f g n) x (numbers_without n ys)
Path-without f g x n [] path distinct below lengths ends inner has = absurd has
Path-without f g x n (y ∷ []) path distinct below lengths ends inner has =
    elim has [ inl is ↦ absurd (inner (is ∙ ends)) | inr later ↦ absurd later ]
Path-without f g x n (y ∷ z ∷ zs) path distinct below lengths ends inner has =
    elim has [
      | inl is ↦
          let b : link g n ≡ x = ap (link g) is ∙ path.1 in
          let a : link f n ≡ z = ap (link f) is ∙ path.2.0 in
          let list : numbers_without n (y ∷ z ∷ zs) ≡ z ∷ zs =
          without-same n y (z ∷ zs) (sym is) ∙ without-lacks n (z ∷ zs) (subst (λ (k : ℕ). Lacks k (z ∷ zs)) (sym is) distinct.1.0)
          in
          let rest : Path (set f x z) (set g z x) z zs =
          Path-set_before (set f x z) g z x z zs (Path-set_after f g x z z zs path.2.2 distinct.0.1) distinct.1.1.0
          in
          let whole : Path (set f x z) (set g z x) x (z ∷ zs) = (
            get_or-set_same f x z 0 below.0,
            get_or-set_same g z x 0 (omega (arith, below.1.1.0, lengths)),
            rest,
          )
          in
          subst (λ (ws : List ℕ). Path (after_without f g n) (before_without f g n) x ws) (sym list)
          (subst (λ (k : ℕ). Path (set f k (link f n)) (set g (link f n) k) x (z ∷ zs)) (sym b)
          (subst (λ (k : ℕ). Path (set f x k) (set g k x) x (z ∷ zs)) (sym a) whole))
      | inr later ↦
          let other : y ≡ n → ⊥ = λ e. Lacks-Has y n (z ∷ zs) distinct.1.0 later e in
          let b_in : Has (link g n) (y ∷ z ∷ zs) = before-Has f g y n (z ∷ zs) path.2 later in
          let a_in : Has (link f n) (z ∷ zs) = after-Has f g y n (z ∷ zs) path.2 ends inner later in
          let rest : Path (after_without f g n) (before_without f g n) y (numbers_without n (z ∷ zs)) =
          Path-without f g y n (z ∷ zs) path.2 distinct.1 below.1 lengths ends inner later
          in
          subst (λ (ws : List ℕ). Path (after_without f g n) (before_without f g n) x ws) (sym (without-other n y (z ∷ zs) other)) (
            get_or-set_other f (link g n) x (link f n) 0 (λ e. Lacks-Has x (link g n) (y ∷ z ∷ zs) distinct.0 b_in e) ∙ path.0,
            get_or-set_other g (link f n) y (link g n) 0 (λ e. Lacks-Has y (link f n) (z ∷ zs) distinct.1.0 a_in e) ∙ path.1,
            rest,
          )
    ]

-- the links with n before another lead along the list with n there
pub Path-put_before : (f g : List ℕ) (x at n : ℕ) (ys : List ℕ)
    → Path f g x ys → Distinct (x ∷ ys) → Below (length f) (x ∷ ys) → length g ≡ length f → n < length f
    → Lacks n (x ∷ ys) → Has at ys
    → Path (after_with f g at n) (before_with f g at n) x (put_before at n ys)
Path-put_before f g x at n [] path distinct below lengths low lacks has = absurd has
Path-put_before f g x at n (y ∷ ys) path distinct below lengths low lacks has =
    elim has [
      | inl is ↦
          let p : link g at ≡ x = ap (link g) is ∙ path.1 in
          let list : put_before at n (y ∷ ys) ≡ n ∷ y ∷ ys =
          put_before-same at n y ys (sym is)
          ∙ ap (λ (zs : List ℕ). n ∷ y ∷ zs) (put_before-lacks at n ys (subst (λ (k : ℕ). Lacks k ys) (sym is) distinct.1.0))
          in
          let rest : Path (set (set f x n) n y) (set (set g n x) y n) y ys =
          Path-set_before (set (set f x n) n y) (set g n x) y n y ys
          (Path-set_before (set (set f x n) n y) g n x y ys
          (Path-set_after (set f x n) g n y y ys (Path-set_after f g x n y ys path.2 distinct.0) lacks.1)
          lacks.1.1)
          distinct.1.0
          in
          let whole : Path (set (set f x n) n y) (set (set g n x) y n) x (n ∷ y ∷ ys) = (
            get_or-set_other (set f x n) n x y 0 (λ e. lacks.0 (sym e)) ∙ get_or-set_same f x n 0 below.0,
            get_or-set_other (set g n x) y n n 0 lacks.1.0 ∙ get_or-set_same g n x 0 (omega (arith, low, lengths)),
            (
              get_or-set_same (set f x n) n y 0 (omega (arith, low, length-set f x n)),
              get_or-set_same (set g n x) y n 0 (omega (arith, below.1.0, lengths, length-set g n x)),
              rest,
            ),
          )
          in
          subst (λ (ws : List ℕ). Path (after_with f g at n) (before_with f g at n) x ws) (sym list)
          (subst (λ (k : ℕ). Path (set (set f k n) n at) (set (set g n k) at n) x (n ∷ y ∷ ys)) (sym p)
          (subst (λ (k : ℕ). Path (set (set f x n) n k) (set (set g n x) k n) x (n ∷ y ∷ ys)) (sym is) whole))
      | inr later ↦
          let other : y ≡ at → ⊥ = λ e. Lacks-Has y at ys distinct.1.0 later e in
          let p_in : Has (link g at) (y ∷ ys) = before-Has f g y at ys path.2 later in
          let rest : Path (after_with f g at n) (before_with f g at n) y (put_before at n ys) =
          Path-put_before f g y at n ys path.2 distinct.1 below.1 lengths low lacks.1 later
          in
          subst (λ (ws : List ℕ). Path (after_with f g at n) (before_with f g at n) x ws) (sym (put_before-other at n y ys other)) (
            get_or-set_other (set f (link g at) n) n x at 0 (λ e. lacks.0 (sym e))
                ∙ get_or-set_other f (link g at) x n 0 (λ e. Lacks-Has x (link g at) (y ∷ ys) distinct.0 p_in e)
                ∙ path.0,
            get_or-set_other (set g n (link g at)) at y n 0 other
                ∙ get_or-set_other g n y (link g at) 0 (λ e. lacks.1.0 (sym e))
                ∙ path.1,
            rest,
          )
    ]

-- what a list without n, or with n before another, still lacks, has and ends in
pub Lacks-without : (m n : ℕ) (ys : List ℕ) → Lacks m ys → Lacks m (numbers_without n ys)
Lacks-without m n [] lacks = tt
Lacks-without m n (y ∷ ys) lacks =
    elim (cases_eq y n) [
      | inl is ↦ subst (Lacks m) (sym (without-same n y ys is)) (Lacks-without m n ys lacks.1)
      | inr other ↦ subst (Lacks m) (sym (without-other n y ys other)) (lacks.0, Lacks-without m n ys lacks.1)
    ]

pub Lacks-without_self : (n : ℕ) (ys : List ℕ) → Lacks n (numbers_without n ys)
Lacks-without_self n [] = tt
Lacks-without_self n (y ∷ ys) =
    elim (cases_eq y n) [
      | inl is ↦ subst (Lacks n) (sym (without-same n y ys is)) (Lacks-without_self n ys)
      | inr other ↦ subst (Lacks n) (sym (without-other n y ys other)) ((λ e. other (sym e)), Lacks-without_self n ys)
    ]

pub Has-without : (m n : ℕ) (ys : List ℕ) → Has m ys → (m ≡ n → ⊥) → Has m (numbers_without n ys)
Has-without m n [] has apart = has
Has-without m n (y ∷ ys) has apart =
    elim (cases_eq y n) [
      | inl is ↦
          subst (Has m) (sym (without-same n y ys is))
          (elim has [ inl same ↦ absurd (apart (same ∙ is)) | inr later ↦ Has-without m n ys later apart ])
      | inr other ↦
          subst (Has m) (sym (without-other n y ys other))
          (elim has as (λ h. (m ≡ y) ⊎ Has m (numbers_without n ys)) [ inl same ↦ inl same | inr later ↦ inr (Has-without m n ys later apart) ])
    ]

pub Distinct-without : (n : ℕ) (ys : List ℕ) → Distinct ys → Distinct (numbers_without n ys)
Distinct-without n [] distinct = tt
Distinct-without n (y ∷ ys) distinct =
    elim (cases_eq y n) [
      | inl is ↦ subst Distinct (sym (without-same n y ys is)) (Distinct-without n ys distinct.1)
      | inr other ↦
          subst Distinct (sym (without-other n y ys other)) (Lacks-without y n ys distinct.0, Distinct-without n ys distinct.1)
    ]

pub Below-without : (m n : ℕ) (ys : List ℕ) → Below m ys → Below m (numbers_without n ys)
Below-without m n [] below = tt
Below-without m n (y ∷ ys) below =
    elim (cases_eq y n) [
      | inl is ↦ subst (Below m) (sym (without-same n y ys is)) (Below-without m n ys below.1)
      | inr other ↦ subst (Below m) (sym (without-other n y ys other)) (below.0, Below-without m n ys below.1)
    ]

-- an end comes after each number
EndsIn-more : (e y : ℕ) (ys : List ℕ) → EndsIn e ys → EndsIn e (y ∷ ys)
EndsIn-more e y [] ends = absurd ends
EndsIn-more e y (z ∷ zs) ends = ends

pub EndsIn-without : (e n : ℕ) (ys : List ℕ) → EndsIn e ys → (n ≡ e → ⊥) → EndsIn e (numbers_without n ys)
EndsIn-without e n [] ends inner = ends
EndsIn-without e n (y ∷ []) ends inner =
    let other : y ≡ n → ⊥ = λ is. inner (sym is ∙ ends) in
    subst (EndsIn e) (sym (without-other n y [] other)) ends
EndsIn-without e n (y ∷ z ∷ zs) ends inner =
    let rest = EndsIn-without e n (z ∷ zs) ends inner in
    elim (cases_eq y n) [
      | inl is ↦ subst (EndsIn e) (sym (without-same n y (z ∷ zs) is)) rest
      | inr other ↦ subst (EndsIn e) (sym (without-other n y (z ∷ zs) other)) (EndsIn-more e y (numbers_without n (z ∷ zs)) rest)
    ]

pub length-without : (n : ℕ) (ys : List ℕ) → Distinct ys → Has n ys → length (numbers_without n ys) + 1 ≡ length ys
length-without n [] distinct has = absurd has
length-without n (y ∷ ys) distinct has =
    elim has [
      | inl is ↦
          let list = without-same n y ys (sym is) ∙ without-lacks n ys (subst (λ (k : ℕ). Lacks k ys) (sym is) distinct.0) in
          let count : length (numbers_without n (y ∷ ys)) ≡ length ys = ap length list in omega (arith, count)
      | inr later ↦
          let other : y ≡ n → ⊥ = λ e. Lacks-Has y n ys distinct.0 later e in
          let count : length (numbers_without n (y ∷ ys)) ≡ length (y ∷ numbers_without n ys) = ap length (without-other n y ys other) in
          omega (arith, count, length-without n ys distinct.1 later)
    ]

pub Lacks-put_before : (m at n : ℕ) (ys : List ℕ) → Lacks m ys → (m ≡ n → ⊥) → Lacks m (put_before at n ys)
Lacks-put_before m at n [] lacks apart = tt
Lacks-put_before m at n (y ∷ ys) lacks apart =
    let rest = Lacks-put_before m at n ys lacks.1 apart in
    elim (cases_eq y at) [
      | inl is ↦ subst (Lacks m) (sym (put_before-same at n y ys is)) (apart, (lacks.0, rest))
      | inr other ↦ subst (Lacks m) (sym (put_before-other at n y ys other)) (lacks.0, rest)
    ]

pub Distinct-put_before : (at n : ℕ) (ys : List ℕ) → Distinct ys → Lacks n ys → Distinct (put_before at n ys)
Distinct-put_before at n [] distinct lacks = tt
Distinct-put_before at n (y ∷ ys) distinct lacks =
    elim (cases_eq y at) [
      | inl is ↦
          let rest = put_before-lacks at n ys (subst (λ (k : ℕ). Lacks k ys) is distinct.0) in
          subst Distinct (sym (put_before-same at n y ys is ∙ ap (λ (zs : List ℕ). n ∷ y ∷ zs) rest)) (lacks, distinct)
      | inr other ↦
          subst Distinct (sym (put_before-other at n y ys other))
          (Lacks-put_before y at n ys distinct.0 (λ e. lacks.0 (sym e)), Distinct-put_before at n ys distinct.1 lacks.1)
    ]

pub Below-put_before : (m at n : ℕ) (ys : List ℕ) → Below m ys → n < m → Below m (put_before at n ys)
Below-put_before m at n [] below low = tt
Below-put_before m at n (y ∷ ys) below low =
    let rest = Below-put_before m at n ys below.1 low in
    elim (cases_eq y at) [
      | inl is ↦ subst (Below m) (sym (put_before-same at n y ys is)) (low, (below.0, rest))
      | inr other ↦ subst (Below m) (sym (put_before-other at n y ys other)) (below.0, rest)
    ]

pub EndsIn-put_before : (e at n : ℕ) (ys : List ℕ) → EndsIn e ys → EndsIn e (put_before at n ys)
EndsIn-put_before e at n [] ends = ends
EndsIn-put_before e at n (y ∷ []) ends =
    elim (cases_eq y at) [
      | inl is ↦ subst (EndsIn e) (sym (put_before-same at n y [] is)) ends
      | inr other ↦ subst (EndsIn e) (sym (put_before-other at n y [] other)) ends
    ]
EndsIn-put_before e at n (y ∷ z ∷ zs) ends =
    let rest = EndsIn-more e y (put_before at n (z ∷ zs)) (EndsIn-put_before e at n (z ∷ zs) ends) in
    elim (cases_eq y at) [
      | inl is ↦
          subst (EndsIn e) (sym (put_before-same at n y (z ∷ zs) is)) (EndsIn-more e n (y ∷ put_before at n (z ∷ zs)) rest)
      | inr other ↦ subst (EndsIn e) (sym (put_before-other at n y (z ∷ zs) other)) rest
    ]

pub length-put_before : (at n : ℕ) (ys : List ℕ) → Distinct ys → Has at ys → length (put_before at n ys) ≡ length ys + 1
length-put_before at n [] distinct has = absurd has
length-put_before at n (y ∷ ys) distinct has =
    elim has [
      | inl is ↦
          let rest = put_before-lacks at n ys (subst (λ (k : ℕ). Lacks k ys) (sym is) distinct.0) in
          let count : length (put_before at n (y ∷ ys)) ≡ length (n ∷ y ∷ ys) =
          ap length (put_before-same at n y ys (sym is) ∙ ap (λ (zs : List ℕ). n ∷ y ∷ zs) rest)
          in
          omega (arith, count)
      | inr later ↦
          let other : y ≡ at → ⊥ = λ e. Lacks-Has y at ys distinct.0 later e in
          let count : length (put_before at n (y ∷ ys)) ≡ length (y ∷ put_before at n ys) =
          ap length (put_before-other at n y ys other)
          in
          omega (arith, count, length-put_before at n ys distinct.1 later)
    ]

-- a chain without one of its numbers, and with one more
pub IsChain-without : (f g ys : List ℕ) (n : ℕ) → IsChain f g ys → Has n ys → (n ≡ 3 → ⊥)
    → IsChain (after_without f g n) (before_without f g n) (numbers_without n ys)
IsChain-without f g ys n c has inner =
    let length_f : length (after_without f g n) ≡ length f = length-set f (link g n) (link f n) in
    let length_g : length (before_without f g n) ≡ length g = length-set g (link f n) (link g n) in
    record {
      path = Path-without f g 0 n ys c.path c.distinct c.below c.lengths c.ends inner has;
      distinct = (Lacks-without 0 n ys c.distinct.0, Distinct-without n ys c.distinct.1);
      below = subst (λ (m : ℕ). Below m (0 ∷ numbers_without n ys)) (sym length_f) (c.below.0, Below-without (length f) n ys c.below.1);
      ends = EndsIn-without 3 n ys c.ends inner;
      lengths = length_g ∙ c.lengths ∙ sym length_f;
    }

pub IsChain-put_before : (f g ys : List ℕ) (at n : ℕ) → IsChain f g ys → Has at ys → Lacks n (0 ∷ ys) → n < length f
    → IsChain (after_with f g at n) (before_with f g at n) (put_before at n ys)
IsChain-put_before f g ys at n c has lacks low =
    let length_f : length (after_with f g at n) ≡ length f =
    length-set (set f (link g at) n) n at ∙ length-set f (link g at) n
    in
    let length_g : length (before_with f g at n) ≡ length g =
    length-set (set g n (link g at)) at n ∙ length-set g n (link g at)
    in
    record {
      path = Path-put_before f g 0 at n ys c.path c.distinct c.below c.lengths low lacks has;
      distinct = (Lacks-put_before 0 at n ys c.distinct.0 (λ e. lacks.0 (sym e)), Distinct-put_before at n ys c.distinct.1 lacks.1);
      below = subst (λ (m : ℕ). Below m (0 ∷ put_before at n ys)) (sym length_f) (c.below.0, Below-put_before (length f) at n ys c.below.1 low);
      ends = EndsIn-put_before 3 at n ys c.ends;
      lengths = length_g ∙ c.lengths ∙ sym length_f;
    }

-- the links of a chain, followed, are the chain
follow-path : (f g : List ℕ) (x : ℕ) (ys : List ℕ) (n : ℕ) → Path f g x ys → n ≡ length ys → follow n f x ≡ ys
follow-path f g x [] zero path same = refl
follow-path f g x [] (suc n) path same = absurd (omega (arith, same))
follow-path f g x (y ∷ ys) zero path same = absurd (omega (arith, same))
follow-path f g x (y ∷ ys) (suc n) path same =
    ap (λ (k : ℕ). k ∷ follow n f k) path.0 ∙ ap (λ (zs : List ℕ). y ∷ zs) (follow-path f g y ys n path.2 (omega (arith, same)))

pub chain-is : (f g ys : List ℕ) → IsChain f g ys → length ys + 1 ≡ length f → chain f ≡ ys
chain-is f g ys c size = follow-path f g 0 ys (length f - 1) c.path (omega (arith, size))

length-follow : (n : ℕ) (f : List ℕ) (x : ℕ) → length (follow n f x) ≡ n
length-follow zero f x = refl
length-follow (suc n) f x =
    let count : length (link f x ∷ follow n f (link f x)) ≡ length (follow n f (link f x)) + 1 = omega arith in
    omega (arith, count, length-follow n f (link f x))

pub length-chain : (f : List ℕ) → 0 < length f → length (chain f) + 1 ≡ length f
length-chain f some = omega (arith, length-follow (length f - 1) f 0, some)
