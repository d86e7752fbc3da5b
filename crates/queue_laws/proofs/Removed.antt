-- The order of arrival without a unit, and with one at another place.
use Rattle.std.proofs.Common.{◌≡◌, ◌≢◌, ℕ, ◌-◌, ◌<◌, ◌≤◌, List, [], ◌∷◌, ◌++◌, map, Bool, true, false, refl, sym, ◌∙◌, ap, subst, inl, inr, arith, append_assoc}
use Rattle.std.specs.Prelude.{◌==◌, ◌||◌, ◌&&◌, if◌then◌else◌, nat_lt, not}
use Rattle.std.specs.List.{AllByRecursion}
use Rattle.std.proofs.lemmas.Bool.{cases_eq, cases_lt, cases_Bool, eq-eqb, ne_eqb, lt-ltb, le-ltb}
use Rattle.sched_base.specs.declared.UnitId.{UnitId}
use Rattle.unit_places.specs.Places.{number_of}
use Rattle.sched_model.specs.Places.{same_unit, without_unit, has_listed_unit}
use Rattle.arrival_queue.specs.declared.key.Key.{Key}
use Rattle.arrival_queue.specs.Queues.{Queued, queued_unit, goes_before, is_of, put_first, list_with, list_without, rank_in, closed_up, has_unit}
use Rattle.queue_laws.specs.Arrivals.{arrival_order, arrivals, LacksRank, HasRanks, LacksUnit, HasUnits, HasIndices}
use Rattle.queue_laws.proofs.Arrivals.{ins, each_put, each_arrived, arrived_split, put_split}

-- each item has a lower rank than those that follow it
abbrev Rising : List Queued → Type 0
Rising [] = Unit {0}
Rising (x ∷ xs) = AllByRecursion (λ (y : Queued). x.rank < y.rank) xs × Rising xs

later : (a b : ℕ) (xs : List Queued) → a ≤ b → AllByRecursion (λ (y : Queued). b < y.rank) xs → AllByRecursion (λ (y : Queued). a < y.rank) xs
later a b [] low each = tt
later a b (x ∷ xs) low each = (omega (arith, low, each.0), later a b xs low each.1)

rising_put : (e : Queued) (xs : List Queued) → AllByRecursion (λ (y : Queued). y.rank ≢ e.rank) xs → Rising xs → Rising (ins e xs)
rising_put e [] apart rising = (tt, tt)
rising_put e (x ∷ xs) apart rising =
    elim (cases_lt e.rank x.rank) [
      | inl less ↦
          let e1 = lt-ltb e.rank x.rank less in
          let first : e.rank < x.rank = less in
          simp e1 ((first, later e.rank x.rank xs (omega (arith, less)) rising.0), rising)
      | inr more ↦
          let e1 = le-ltb e.rank x.rank more in
          let above : x.rank < e.rank = omega (arith, more, apart.0) in
          simp e1 (each_put (λ (y : Queued). x.rank < y.rank) (λ y. nat_lt e.rank y.rank) e xs above rising.0, rising_put e xs apart.1 rising.1)
    ]

-- the other way round
apart_of : (e : Queued) (es : List Queued) → LacksRank e.rank es → AllByRecursion (λ (y : Queued). y.rank ≢ e.rank) (arrival_order es)
apart_of e es lacks = each_arrived (λ (y : Queued). y.rank ≢ e.rank) es lacks

rising_arrived : (es : List Queued) → HasRanks es → Rising (arrival_order es)
rising_arrived [] ranks = tt
rising_arrived (e ∷ es) ranks = rising_put e (arrival_order es) (apart_of e es ranks.0) (rising_arrived es ranks.1)

-- an item of the lowest rank is put in front
ins_first : (e : Queued) (xs : List Queued) → AllByRecursion (λ (y : Queued). e.rank < y.rank) xs → ins e xs ≡ e ∷ xs
ins_first e [] below = refl
ins_first e (x ∷ xs) below = let e1 = lt-ltb e.rank x.rank below.0 in simp e1 refl

-- a fact of each item stays where a unit goes
pub each_without : (P : Queued → Type 0) (u : UnitId) (xs : List Queued) → AllByRecursion P xs → AllByRecursion P (list_without u xs)
each_without P u [] each = tt
each_without P u (x ∷ xs) each =
    elim (is_of u x) as (λ t. AllByRecursion P (if t then list_without u xs else x ∷ list_without u xs)) [
      | true ↦ each_without P u xs each.1
      | false ↦ (each.0, each_without P u xs each.1)
    ]

-- another unit's item is put among the rest
without_other : (u : UnitId) (e : Queued) (xs : List Queued) → is_of u e ≡ false → Rising xs → list_without u (ins e xs) ≡ ins e (list_without u xs)
without_other u e [] other rising = simp other refl
without_other u e (x ∷ xs) other rising =
    elim (cases_lt e.rank x.rank) [
      | inl less ↦
          let e1 = lt-ltb e.rank x.rank less in
          let above : AllByRecursion (λ (y : Queued). e.rank < y.rank) (list_without u (x ∷ xs)) =
          each_without (λ (y : Queued). e.rank < y.rank) u (x ∷ xs) (less, later e.rank x.rank xs (omega (arith, less)) rising.0) in
          let put : ins e (x ∷ xs) ≡ e ∷ x ∷ xs = simp e1 refl in
          ap (list_without u) put ∙ ap (λ (t : Bool). if t then list_without u (x ∷ xs) else e ∷ list_without u (x ∷ xs)) other ∙ sym (ins_first e (list_without u (x ∷ xs)) above)
      | inr more ↦
          let e1 = le-ltb e.rank x.rank more in
          let put : ins e (x ∷ xs) ≡ x ∷ ins e xs = simp e1 refl in
          let rest = without_other u e xs other rising.1 in
          ap (list_without u) put ∙ elim (is_of u x) as (λ t. (if t then list_without u (ins e xs) else x ∷ list_without u (ins e xs)) ≡ ins e (if t then list_without u xs else x ∷ list_without u xs)) [
            | true ↦ rest
            | false ↦ simp e1 (ap (λ (ys : List Queued). x ∷ ys) rest)
          ]
    ]

-- the unit's own item goes
without_own : (u : UnitId) (p : Queued → Bool) (e : Queued) (xs : List Queued) → is_of u e ≡ true → list_without u (put_first p e xs) ≡ list_without u xs
without_own u p e [] mine = simp mine refl
without_own u p e (x ∷ xs) mine =
    elim (p x) as (λ t. list_without u (if t then e ∷ x ∷ xs else x ∷ put_first p e xs) ≡ list_without u (x ∷ xs)) [
      | true ↦ ap (λ (t : Bool). if t then list_without u (x ∷ xs) else e ∷ list_without u (x ∷ xs)) mine
      | false ↦ elim (is_of u x) as (λ t. (if t then list_without u (put_first p e xs) else x ∷ list_without u (put_first p e xs)) ≡ (if t then list_without u xs else x ∷ list_without u xs)) [
        | true ↦ without_own u p e xs mine
        | false ↦ ap (λ (ys : List Queued). x ∷ ys) (without_own u p e xs mine)
      ]
    ]

arrived_without : (u : UnitId) (es : List Queued) → HasRanks es → arrival_order (list_without u es) ≡ list_without u (arrival_order es)
arrived_without u [] ranks = refl
arrived_without u (e ∷ es) ranks =
    let rest = arrived_without u es ranks.1 in
    elim (cases_Bool (is_of u e)) [
      | inl mine ↦
          ap arrival_order (ap (λ (t : Bool). if t then list_without u es else e ∷ list_without u es) mine)
          ∙ rest ∙ sym (without_own u (λ y. nat_lt e.rank y.rank) e (arrival_order es) mine)
      | inr other ↦
          ap arrival_order (ap (λ (t : Bool). if t then list_without u es else e ∷ list_without u es) other)
          ∙ ap (ins e) rest ∙ sym (without_other u e (arrival_order es) other (rising_arrived es ranks.1))
    ]

-- closing up keeps the order of the ranks that are left
closed_test : (r : ℕ) (x y : Queued) → x.rank ≢ r → y.rank ≢ r → nat_lt (closed_up r x).rank (closed_up r y).rank ≡ nat_lt x.rank y.rank
closed_test r x y no_x no_y =
    elim (cases_lt r x.rank) [
      | inl a ↦ let e1 = lt-ltb r x.rank a in elim (cases_lt r y.rank) [
        | inl b ↦ let e2 = lt-ltb r y.rank b in simp (e1, e2) (minus (x.rank) (y.rank) (omega (arith, a)) (omega (arith, b)))
        | inr b ↦
            let e2 = le-ltb r y.rank b in
            let e3 = le-ltb (x.rank - 1) y.rank (omega (arith, a, b)) in
            let e4 = le-ltb x.rank y.rank (omega (arith, a, b)) in
            simp (e1, e2) (e3 ∙ sym e4)
      ]
      | inr a ↦ let e1 = le-ltb r x.rank a in elim (cases_lt r y.rank) [
        | inl b ↦
            let e2 = lt-ltb r y.rank b in
            let e3 = lt-ltb x.rank (y.rank - 1) (omega (arith, a, b, no_x)) in
            let e4 = lt-ltb x.rank y.rank (omega (arith, a, b)) in
            simp (e1, e2) (e3 ∙ sym e4)
        | inr b ↦ let e2 = le-ltb r y.rank b in simp (e1, e2) refl
      ]
    ]
  where
    minus : (a b : ℕ) → 0 < a → 0 < b → nat_lt (a - 1) (b - 1) ≡ nat_lt a b
    minus a b some_a some_b =
        elim (cases_lt a b) [
          | inl less ↦ lt-ltb (a - 1) (b - 1) (omega (arith, less, some_a)) ∙ sym (lt-ltb a b less)
          | inr more ↦ le-ltb (a - 1) (b - 1) (omega (arith, more, some_b)) ∙ sym (le-ltb a b more)
        ]

ins_closed : (r : ℕ) (e : Queued) (xs : List Queued) → e.rank ≢ r → LacksRank r xs → ins (closed_up r e) (map (closed_up r) xs) ≡ map (closed_up r) (ins e xs)
ins_closed r e [] no_e lacks = refl
ins_closed r e (x ∷ xs) no_e lacks =
    let rest = ins_closed r e xs no_e lacks.1 in
    let test = closed_test r e x no_e lacks.0 in
    ap (λ (t : Bool). if t then closed_up r e ∷ closed_up r x ∷ map (closed_up r) xs else closed_up r x ∷ ins (closed_up r e) (map (closed_up r) xs)) test
    ∙ elim (nat_lt e.rank x.rank) as (λ t. (if t then closed_up r e ∷ closed_up r x ∷ map (closed_up r) xs else closed_up r x ∷ ins (closed_up r e) (map (closed_up r) xs)) ≡ map (closed_up r) (if t then e ∷ x ∷ xs else x ∷ ins e xs)) [
      | true ↦ refl
      | false ↦ ap (λ (ys : List Queued). closed_up r x ∷ ys) rest
    ]

arrived_closed : (r : ℕ) (es : List Queued) → LacksRank r es → arrival_order (map (closed_up r) es) ≡ map (closed_up r) (arrival_order es)
arrived_closed r [] lacks = refl
arrived_closed r (e ∷ es) lacks =
    ap (ins (closed_up r e)) (arrived_closed r es lacks.1)
    ∙ ins_closed r e (arrival_order es) lacks.0 (each_arrived (λ (y : Queued). y.rank ≢ r) es lacks.1)

units_closed : (r : ℕ) (xs : List Queued) → map (λ (e : Queued). e.unit) (map (closed_up r) xs) ≡ map (λ (e : Queued). e.unit) xs
units_closed r [] = refl
units_closed r (x ∷ xs) = ap (λ (us : List UnitId). x.unit ∷ us) (units_closed r xs)

-- units of one number are the same
same_number : (u w : UnitId) → u.n < 256 → w.n < 256 → (number_of w == number_of u) ≡ same_unit u w
same_number u w low_u low_w =
    elim (cases_eq u.dom.0 w.dom.0) [
      | inl d ↦ elim (cases_eq u.n w.n) [
        | inl n ↦
            let e1 = eq-eqb u.dom.0 w.dom.0 d in
            let e2 = eq-eqb u.n w.n n in
            eq-eqb (number_of w) (number_of u) (omega (arith, d, n)) ∙ sym (ap (λ (t : Bool). t && (u.n == w.n)) e1 ∙ e2)
        | inr n ↦
            let e1 = eq-eqb u.dom.0 w.dom.0 d in
            let e2 = ne_eqb u.n w.n n in
            ne_eqb (number_of w) (number_of u) (λ same. n (omega (arith, d, same))) ∙ sym (ap (λ (t : Bool). t && (u.n == w.n)) e1 ∙ e2)
      ]
      | inr d ↦
          let e1 = ne_eqb u.dom.0 w.dom.0 d in
          ne_eqb (number_of w) (number_of u) (λ same. d (omega (arith, same, low_u, low_w))) ∙ sym (ap (λ (t : Bool). t && (u.n == w.n)) e1)
    ]

pub is_of_same : (u : UnitId) (e : Queued) → u.n < 256 → e.unit.n < 256 → is_of u e ≡ same_unit u e.unit
is_of_same u e low_u low_e = same_number u e.unit low_u low_e

units_without : (u : UnitId) (xs : List Queued) → u.n < 256 → HasIndices xs → map (λ (e : Queued). e.unit) (list_without u xs) ≡ without_unit u (map (λ (e : Queued). e.unit) xs)
units_without u [] low lows = refl
units_without u (x ∷ xs) low lows =
    let rest = units_without u xs low lows.1 in
    let same = is_of_same u x low lows.0 in
    ap (λ (t : Bool). map (λ (e : Queued). e.unit) (if t then list_without u xs else x ∷ list_without u xs)) same
    ∙ elim (same_unit u x.unit) as (λ t. map (λ (e : Queued). e.unit) (if t then list_without u xs else x ∷ list_without u xs) ≡ (if not t then x.unit ∷ without_unit u (map (λ (e : Queued). e.unit) xs) else without_unit u (map (λ (e : Queued). e.unit) xs))) [
      | true ↦ rest
      | false ↦ ap (λ (us : List UnitId). x.unit ∷ us) rest
    ]

-- the order of arrival without a unit; r is a rank that no other item has
pub arrivals_removed : (u : UnitId) (r : ℕ) (es : List Queued) → HasRanks es → u.n < 256 → HasIndices es → LacksRank r (list_without u es)
    → arrivals (map (closed_up r) (list_without u es)) ≡ without_unit u (arrivals es)
arrivals_removed u r es ranks low lows lacks =
    ap (map (λ (e : Queued). e.unit)) (arrived_closed r (list_without u es) lacks)
    ∙ units_closed r (arrival_order (list_without u es))
    ∙ ap (map (λ (e : Queued). e.unit)) (arrived_without u es ranks)
    ∙ units_without u (arrival_order es) low (each_arrived (λ (e : Queued). e.unit.n < 256) es lows)

without-none : (u : UnitId) (es : List Queued) → LacksUnit u es → list_without u es ≡ es
without-none u [] lacks = refl
without-none u (e ∷ es) lacks = let e1 = lacks.0 in simp e1 (ap (λ (xs : List Queued). e ∷ xs) (without-none u es lacks.1))

-- where a unit stands: what is before it, and what is after it
pub record Stands (u : UnitId) (es : List Queued) : Type 0 where
  pub lft : List Queued
  pub rgt : List Queued
  pub x : Queued
  pub is : es ≡ lft ++ x ∷ rgt
  pub mine : is_of u x ≡ true
  pub rest : list_without u es ≡ lft ++ rgt
  pub rank : rank_in u es ≡ x.rank

lacks_number : (u w : UnitId) (es : List Queued) → number_of w ≡ number_of u → LacksUnit w es → LacksUnit u es
lacks_number u w [] same lacks = tt
lacks_number u w (e ∷ es) same lacks = (ap (λ (k : ℕ). number_of e.unit == k) (sym same) ∙ lacks.0, lacks_number u w es same lacks.1)

pub stands : (u : UnitId) (es : List Queued) → HasUnits es → has_unit u es ≡ true → Stands u es
stands u [] units has = absurd (cc)
stands u (e ∷ es) units has =
    elim (cases_eq (number_of e.unit) (number_of u)) [
      | inl same ↦
          let e1 : is_of u e ≡ true = eq-eqb (number_of e.unit) (number_of u) same in
          record {
            lft = [];
            rgt = es;
            x = e;
            is = refl;
            mine = e1;
            rest = ap (λ (t : Bool). if t then list_without u es else e ∷ list_without u es) e1 ∙ without-none u es (lacks_number u e.unit es same units.0);
            rank = ap (λ (t : Bool). if t then e.rank else rank_in u es) e1;
          }
      | inr other ↦
          let e1 : is_of u e ≡ false = ne_eqb (number_of e.unit) (number_of u) other in
          let s = stands u es units.1 (sym (ap (λ (t : Bool). t || has_unit u es) e1) ∙ has) in
          record {
            lft = e ∷ s.lft;
            rgt = s.rgt;
            x = s.x;
            is = ap (λ (xs : List Queued). e ∷ xs) s.is;
            mine = s.mine;
            rest = ap (λ (t : Bool). if t then list_without u es else e ∷ list_without u es) e1 ∙ ap (λ (xs : List Queued). e ∷ xs) s.rest;
            rank = ap (λ (t : Bool). if t then e.rank else rank_in u es) e1 ∙ s.rank;
          }
    ]

lacks_lft : (l r : List Queued) (x : Queued) → HasRanks (l ++ x ∷ r) → LacksRank x.rank l
lacks_lft [] r x ranks = tt
lacks_lft (e ∷ l) r x ranks = (λ (same : e.rank ≡ x.rank). last_of l r x ranks.0 (sym same), lacks_lft l r x ranks.1)
  where
    last_of : (l r : List Queued) (x : Queued) → LacksRank e.rank (l ++ x ∷ r) → x.rank ≢ e.rank
    last_of [] r x lacks = lacks.0
    last_of (y ∷ l) r x lacks = last_of l r x lacks.1

lacks_rgt : (l r : List Queued) (x : Queued) → HasRanks (l ++ x ∷ r) → LacksRank x.rank r
lacks_rgt [] r x ranks = apart r ranks.0
  where
    apart : (r : List Queued) → LacksRank x.rank r → LacksRank x.rank r
    apart r lacks = lacks
lacks_rgt (e ∷ l) r x ranks = lacks_rgt l r x ranks.1

pub each-append : (P : Queued → Type 0) (l r : List Queued) → AllByRecursion P l → AllByRecursion P r → AllByRecursion P (l ++ r)
each-append P [] r left right = right
each-append P (x ∷ l) r left right = (left.0, each-append P l r left.1 right)

-- no other item has the rank of a unit of the list
pub lacks_own : (u : UnitId) (es : List Queued) → HasRanks es → HasUnits es → has_unit u es ≡ true → LacksRank (rank_in u es) (list_without u es)
lacks_own u es ranks units has =
    let s = stands u es units has in
    let there : HasRanks (s.lft ++ s.x ∷ s.rgt) = subst HasRanks s.is ranks in
    subst (λ (r : ℕ). LacksRank r (list_without u es)) (sym s.rank)
    (subst (LacksRank s.x.rank) (sym s.rest) (each-append (λ (e : Queued). e.rank ≢ s.x.rank) s.lft s.rgt (lacks_lft s.lft s.rgt s.x there) (lacks_rgt s.lft s.rgt s.x there)))

-- what an item shows of itself when it is put: its rank and its unit
units_put : (a b : Queued) (xs : List Queued) → a.rank ≡ b.rank → a.unit ≡ b.unit → map (λ (e : Queued). e.unit) (ins a xs) ≡ map (λ (e : Queued). e.unit) (ins b xs)
units_put a b [] rank unit = ap (λ (w : UnitId). w ∷ []) unit
units_put a b (x ∷ xs) rank unit =
    let rest = units_put a b xs rank unit in
    ap (λ (r : ℕ). map (λ (e : Queued). e.unit) (if nat_lt r x.rank then a ∷ x ∷ xs else x ∷ ins a xs)) rank
    ∙ elim (nat_lt b.rank x.rank) as (λ t. map (λ (e : Queued). e.unit) (if t then a ∷ x ∷ xs else x ∷ ins a xs) ≡ map (λ (e : Queued). e.unit) (if t then b ∷ x ∷ xs else x ∷ ins b xs)) [
      | true ↦ ap (λ (w : UnitId). w ∷ x.unit ∷ map (λ (e : Queued). e.unit) xs) unit
      | false ↦ ap (λ (us : List UnitId). x.unit ∷ us) rest
    ]

unit_of_number : (u w : UnitId) → u.n < 256 → w.n < 256 → (number_of w == number_of u) ≡ true → w ≡ u
unit_of_number u w low_u low_w same =
    elim (cases_eq (number_of w) (number_of u)) [
      | inl e ↦
          let n : w.n ≡ u.n = omega (arith, e, low_u, low_w) in
          let d : w.dom.0 ≡ u.dom.0 = omega (arith, e, n) in
          let by_index : w ≡ record { dom = w.dom; n = u.n } = ap (λ (k : ℕ). record { dom = w.dom; n = k }) n in
          by_index ∙ ap (λ (k : ℕ). record { dom = record { 0 = k }; n = u.n }) d
      | inr other ↦ let f : true ≡ false = sym same ∙ ne_eqb (number_of w) (number_of u) other in absurd (cc)
    ]

-- a unit of a list, put at another place among the first of them: its arrival stays
pub arrivals_moved : (u : UnitId) (key : Key) (es others : List Queued) → HasRanks (es ++ others) → HasUnits (es ++ others) → u.n < 256 → HasIndices (es ++ others)
    → has_unit u (es ++ others) ≡ true → (r : ℕ) → r ≡ rank_in u (es ++ others)
    → arrivals (list_with (queued_unit u key r) (list_without u es) ++ list_without u others) ≡ arrivals (es ++ others)
arrivals_moved u key es others ranks units low lows has r is_rank =
    let new : Queued = queued_unit u key r in
    let both = without-append u es others in
    let split = put_split (goes_before new) new (list_without u es) in
    let s = stands u (es ++ others) units has in
    let put : list_with new (list_without u es) ++ list_without u others ≡ split.lft ++ new ∷ (split.rgt ++ list_without u others) =
    ap (λ (xs : List Queued). xs ++ list_without u others) split.is ∙ append_assoc split.lft (new ∷ split.rgt) (list_without u others) in
    let whole : split.lft ++ (split.rgt ++ list_without u others) ≡ list_without u (es ++ others) =
    sym (append_assoc split.lft split.rgt (list_without u others)) ∙ ap (λ (xs : List Queued). xs ++ list_without u others) (sym split.was) ∙ sym both in
    let lacks : LacksRank r (split.lft ++ (split.rgt ++ list_without u others)) =
    subst (λ (k : ℕ). LacksRank k (split.lft ++ (split.rgt ++ list_without u others))) (sym is_rank) (subst (LacksRank (rank_in u (es ++ others))) (sym whole) (lacks_own u (es ++ others) ranks units has)) in
    let low_x : s.x.unit.n < 256 = item_low (es ++ others) s.lft s.rgt s.x s.is lows in
    let same : s.x.unit ≡ u = unit_of_number u s.x.unit low low_x s.mine in
    let there : HasRanks (s.lft ++ s.x ∷ s.rgt) = subst HasRanks s.is ranks in
    let left : arrival_order (list_with new (list_without u es) ++ list_without u others) ≡ ins new (arrival_order (s.lft ++ s.rgt)) =
    ap arrival_order put ∙ arrived_split split.lft (split.rgt ++ list_without u others) new (left_part (λ (x : Queued). x.rank ≢ r) split.lft (split.rgt ++ list_without u others) lacks)
    ∙ ap (λ (xs : List Queued). ins new (arrival_order xs)) (whole ∙ s.rest) in
    let right : arrival_order (es ++ others) ≡ ins s.x (arrival_order (s.lft ++ s.rgt)) = ap arrival_order s.is ∙ arrived_split s.lft s.rgt s.x (lacks_lft s.lft s.rgt s.x there) in
    ap (map (λ (e : Queued). e.unit)) left
    ∙ units_put new s.x (arrival_order (s.lft ++ s.rgt)) (is_rank ∙ s.rank) (sym same)
    ∙ ap (map (λ (e : Queued). e.unit)) (sym right)
  where
    left_part : (P : Queued → Type 0) (l r : List Queued) → AllByRecursion P (l ++ r) → AllByRecursion P l
    left_part P [] r each = tt
    left_part P (x ∷ l) r each = (each.0, left_part P l r each.1)

    without-append : (u : UnitId) (xs ys : List Queued) → list_without u (xs ++ ys) ≡ list_without u xs ++ list_without u ys
    without-append u [] ys = refl
    without-append u (x ∷ xs) ys =
        let rest = without-append u xs ys in
        elim (is_of u x) as (λ t. (if t then list_without u (xs ++ ys) else x ∷ list_without u (xs ++ ys)) ≡ (if t then list_without u xs else x ∷ list_without u xs) ++ list_without u ys) [
          | true ↦ rest
          | false ↦ ap (λ (zs : List Queued). x ∷ zs) rest
        ]

    item_low : (es l r : List Queued) (x : Queued) → es ≡ l ++ x ∷ r → HasIndices es → x.unit.n < 256
    item_low es l r x is lows = among l (subst HasIndices is lows)
      where
        among : (l : List Queued) → HasIndices (l ++ x ∷ r) → x.unit.n < 256
        among [] each = each.0
        among (y ∷ l) each = among l each.1

-- a unit waits where it is in the queue
pub has_arrived : (u : UnitId) (es : List Queued) → u.n < 256 → HasIndices es → has_listed_unit (arrivals es) u ≡ has_unit u es
has_arrived u [] low lows = refl
has_arrived u (e ∷ es) low lows =
    has_put (arrival_order es) ∙ ap (λ (t : Bool). same_unit u e.unit || t) (has_arrived u es low lows.1) ∙ ap (λ (t : Bool). t || has_unit u es) (sym (is_of_same u e low lows.0))
  where
    swap : (a b c : Bool) → (a || (b || c)) ≡ (b || (a || c))
    swap true true c = refl
    swap true false c = refl
    swap false b c = refl

    has_put : (xs : List Queued) → has_listed_unit (map (λ (x : Queued). x.unit) (ins e xs)) u ≡ (same_unit u e.unit || has_listed_unit (map (λ (x : Queued). x.unit) xs) u)
    has_put [] = refl
    has_put (x ∷ xs) =
        elim (nat_lt e.rank x.rank) as (λ t. has_listed_unit (map (λ (y : Queued). y.unit) (if t then e ∷ x ∷ xs else x ∷ ins e xs)) u ≡ (same_unit u e.unit || (same_unit u x.unit || has_listed_unit (map (λ (y : Queued). y.unit) xs) u))) [
          | true ↦ refl
          | false ↦ ap (λ (t : Bool). same_unit u x.unit || t) (has_put xs) ∙ swap (same_unit u x.unit) (same_unit u e.unit) (has_listed_unit (map (λ (y : Queued). y.unit) xs) u)
        ]
