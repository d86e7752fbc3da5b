-- The nodes of a list with their units.
use Rattle.std.proofs.Common.{◌≡◌, ℕ, ◌<◌, ◌≤◌, List, [], ◌∷◌, ◌++◌, length, set, Bool, true, false, refl, sym, ◌∙◌, ap, inl, inr, arith}
use Rattle.std.specs.Prelude.{◌==◌, ◌||◌, if◌then◌else◌, Option, Some, None, nat_lt}
use Rattle.std.proofs.lemmas.Bool.{cases_eq, eq-eqb, ne_eqb}
use Rattle.std.proofs.lemmas.Bool.Decides.{nat_tests}
use Rattle.std.proofs.lemmas.List.{get_or-set_same, get_or-set_other}
use Rattle.sched_base.specs.declared.UnitId.{UnitId}
use Rattle.unit_ring.specs.declared.Node.{Node}
use Rattle.unit_ring.specs.Lists.{Item, item, node, no_unit, has_node, unit_in, first_in, next_in, last_from, prev_from, without_in, put_before_in}
use Rattle.unit_ring.specs.Chains.{link, Path, Lacks, Distinct, unit_at, items, as_node, numbers_without, put_before}
use Rattle.sched_base.specs.Lists.{Has}

pub items-append : (us : List UnitId) (xs ys : List ℕ) → items us (xs ++ ys) ≡ items us xs ++ items us ys
items-append us [] ys = refl
items-append us (x ∷ xs) ys = ap (λ (zs : List Item). item x (unit_at us x) ∷ zs) (items-append us xs ys)

pub items-set : (us : List UnitId) (n : ℕ) (u : UnitId) (xs : List ℕ) → Lacks n xs → items (set us n u) xs ≡ items us xs
items-set us n u [] lacks = refl
items-set us n u (x ∷ xs) lacks =
    ap (λ (w : UnitId). item x w ∷ items (set us n u) xs) (get_or-set_other us n x u no_unit (λ e. lacks.0 (sym e)))
    ∙ ap (λ (zs : List Item). item x (unit_at us x) ∷ zs) (items-set us n u xs lacks.1)

pub items-without : (us : List UnitId) (n : ℕ) (xs : List ℕ) → items us (numbers_without n xs) ≡ without_in n (items us xs)
items-without us n [] = refl
items-without us n (x ∷ xs) =
    elim (x == n) as (λ t. items us (if t then numbers_without n xs else x ∷ numbers_without n xs) ≡ (if t then without_in n (items us xs) else item x (unit_at us x) ∷ without_in n (items us xs))) [
      | true ↦ items-without us n xs
      | false ↦ ap (λ (zs : List Item). item x (unit_at us x) ∷ zs) (items-without us n xs)
    ]

pub items-put_before : (us : List UnitId) (at n : ℕ) (u : UnitId) (xs : List ℕ) → Lacks n xs → n < length us
    → items (set us n u) (put_before at n xs) ≡ put_before_in at (item n u) (items us xs)
items-put_before us at n u [] lacks low = refl
items-put_before us at n u (x ∷ xs) lacks low =
    let rest = items-put_before us at n u xs lacks.1 low in
    let mine : unit_at (set us n u) n ≡ u = get_or-set_same us n u no_unit low in
    let its : unit_at (set us n u) x ≡ unit_at us x = get_or-set_other us n x u no_unit (λ e. lacks.0 (sym e)) in
    let kept : item x (unit_at (set us n u) x) ∷ items (set us n u) (put_before at n xs) ≡ item x (unit_at us x) ∷ put_before_in at (item n u) (items us xs) =
    ap (λ (w : UnitId). item x w ∷ items (set us n u) (put_before at n xs)) its
    ∙ ap (λ (zs : List Item). item x (unit_at us x) ∷ zs) rest
    in
    elim (x == at) as (λ t. items (set us n u) (if t then n ∷ x ∷ put_before at n xs else x ∷ put_before at n xs) ≡ (if t then item n u ∷ item x (unit_at us x) ∷ put_before_in at (item n u) (items us xs) else item x (unit_at us x) ∷ put_before_in at (item n u) (items us xs))) [
      | true ↦
          ap (λ (w : UnitId). item n w ∷ item x (unit_at (set us n u) x) ∷ items (set us n u) (put_before at n xs)) mine
          ∙ ap (λ (zs : List Item). item n u ∷ zs) kept
      | false ↦ kept
    ]

pub has_node-Has : (us : List UnitId) (n : ℕ) (xs : List ℕ) → has_node n (items us xs) ≡ true → Has n xs
has_node-Has us n [] e = absurd (cc)
has_node-Has us n (x ∷ xs) e =
    elim (cases_eq x n) [
      | inl is ↦ inl (sym is)
      | inr other ↦
          let rest : has_node n (items us xs) ≡ true =
          sym (ap (λ (t : Bool). t || has_node n (items us xs)) (ne_eqb x n other)) ∙ e
          in
          inr (has_node-Has us n xs rest)
    ]

pub has_node-lacks : (us : List UnitId) (n : ℕ) (xs : List ℕ) → Lacks n xs → has_node n (items us xs) ≡ false
has_node-lacks us n [] lacks = refl
has_node-lacks us n (x ∷ xs) lacks =
    ap (λ (t : Bool). t || has_node n (items us xs)) (ne_eqb x n (λ e. lacks.0 (sym e))) ∙ has_node-lacks us n xs lacks.1

pub Has-has_node : (us : List UnitId) (n : ℕ) (xs : List ℕ) → Has n xs → has_node n (items us xs) ≡ true
Has-has_node us n [] has = absurd has
Has-has_node us n (x ∷ xs) has =
    elim (cases_eq x n) [
      | inl is ↦ ap (λ (t : Bool). t || has_node n (items us xs)) (eq-eqb x n is)
      | inr other ↦
          ap (λ (t : Bool). t || has_node n (items us xs)) (ne_eqb x n other)
          ∙ Has-has_node us n xs (elim has [ inl is ↦ absurd (other (sym is)) | inr later ↦ later ])
    ]

pub unit_in-items : (us : List UnitId) (n : ℕ) (xs : List ℕ) → Has n xs → unit_in n (items us xs) ≡ unit_at us n
unit_in-items us n [] has = absurd has
unit_in-items us n (x ∷ xs) has =
    elim (cases_eq x n) [
      | inl is ↦
          ap (λ (t : Bool). if t then unit_at us x else unit_in n (items us xs)) (eq-eqb x n is) ∙ ap (unit_at us) is
      | inr other ↦
          ap (λ (t : Bool). if t then unit_at us x else unit_in n (items us xs)) (ne_eqb x n other)
          ∙ unit_in-items us n xs (elim has [ inl is ↦ absurd (other (sym is)) | inr later ↦ later ])
    ]

pub as_node-fence : (n : ℕ) → n < 4 → as_node n ≡ None
as_node-fence n low =
    let test : nat_lt n 4 ≡ true = grind (arith, nat_tests, low) in
    ap (λ (t : Bool). if t then None else Some (node n)) test

as_node-node : (n : ℕ) → 4 ≤ n → as_node n ≡ Some (node n)
as_node-node n high =
    let test : nat_lt n 4 ≡ false = grind (arith, nat_tests, high) in
    ap (λ (t : Bool). if t then None else Some (node n)) test

-- the links lead from a fence to the first node, and from a node to the next, of a list that ends at a fence
pub first_in-items : (f g : List ℕ) (us : List UnitId) (x e : ℕ) (xs rest : List ℕ)
    → Path f g x (xs ++ e ∷ rest) → ((m : ℕ) → Has m xs → 4 ≤ m) → e < 4
    → as_node (link f x) ≡ first_in (items us xs)
first_in-items f g us x e [] rest path high low = ap as_node path.0 ∙ as_node-fence e low
first_in-items f g us x e (y ∷ ys) rest path high low = ap as_node path.0 ∙ as_node-node y (high y (inl refl))

pub next_in-items : (f g : List ℕ) (us : List UnitId) (x n e : ℕ) (xs rest : List ℕ)
    → Path f g x (xs ++ e ∷ rest) → Distinct xs → ((m : ℕ) → Has m xs → 4 ≤ m) → e < 4 → Has n xs
    → as_node (link f n) ≡ next_in n (items us xs)
next_in-items f g us x n e [] rest path distinct high low has = absurd has
next_in-items f g us x n e (y ∷ ys) rest path distinct high low has =
    elim (cases_eq y n) [
      | inl is ↦
          ap (λ (k : ℕ). as_node (link f k)) (sym is)
          ∙ first_in-items f g us y e ys rest path.2 (λ m later. high m (inr later)) low
          ∙ sym (ap (λ (t : Bool). if t then first_in (items us ys) else next_in n (items us ys)) (eq-eqb y n is))
      | inr other ↦
          let later : Has n ys = elim has [ inl is ↦ absurd (other (sym is)) | inr later ↦ later ] in
          next_in-items f g us y n e ys rest path.2 distinct.1 (λ m has_m. high m (inr has_m)) low later
          ∙ sym (ap (λ (t : Bool). if t then first_in (items us ys) else next_in n (items us ys)) (ne_eqb y n other))
    ]

-- the links back lead from the fence after a list to its last node, and from a node to the one before it
pub last_from-items : (f g : List ℕ) (us : List UnitId) (x e : ℕ) (before : Option Node) (xs rest : List ℕ)
    → Path f g x (xs ++ e ∷ rest) → ((m : ℕ) → Has m xs → 4 ≤ m) → as_node x ≡ before
    → as_node (link g e) ≡ last_from before (items us xs)
last_from-items f g us x e before [] rest path high starts = ap as_node path.1 ∙ starts
last_from-items f g us x e before (y ∷ ys) rest path high starts =
    last_from-items f g us y e (Some (node y)) ys rest path.2 (λ m later. high m (inr later)) (as_node-node y (high y (inl refl)))

pub prev_from-items : (f g : List ℕ) (us : List UnitId) (x n e : ℕ) (before : Option Node) (xs rest : List ℕ)
    → Path f g x (xs ++ e ∷ rest) → ((m : ℕ) → Has m xs → 4 ≤ m) → as_node x ≡ before → Has n xs
    → as_node (link g n) ≡ prev_from before n (items us xs)
prev_from-items f g us x n e before [] rest path high starts has = absurd has
prev_from-items f g us x n e before (y ∷ ys) rest path high starts has =
    elim (cases_eq y n) [
      | inl is ↦
          ap (λ (k : ℕ). as_node (link g k)) (sym is)
          ∙ ap as_node path.1
          ∙ starts
          ∙ sym (ap (λ (t : Bool). if t then before else prev_from (Some (node y)) n (items us ys)) (eq-eqb y n is))
      | inr other ↦
          prev_from-items f g us y n e (Some (node y)) ys rest path.2 (λ m has_m. high m (inr has_m)) (as_node-node y (high y (inl refl)))
          (elim has [ inl is ↦ absurd (other (sym is)) | inr later ↦ later ])
          ∙ sym (ap (λ (t : Bool). if t then before else prev_from (Some (node y)) n (items us ys)) (ne_eqb y n other))
    ]
