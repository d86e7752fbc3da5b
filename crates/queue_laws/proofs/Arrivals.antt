-- The order of arrival of a sorted queue.
use Rattle.std.proofs.Common.{◌≡◌, ◌≢◌, ℕ, ◌<◌, List, [], ◌∷◌, ◌++◌, map, Bool, true, false, refl, sym, ◌∙◌, ap, subst, inl, inr, arith, append_assoc, suc, length}
use Rattle.std.specs.Prelude.{if◌then◌else◌, nat_lt}
use Rattle.std.specs.List.{AllByRecursion}
use Rattle.std.proofs.lemmas.Bool.{cases_lt, cases_Bool, lt-ltb, le-ltb}
use Rattle.sched_base.specs.declared.UnitId.{UnitId}
use Rattle.arrival_queue.specs.declared.key.Key.{Key}
use Rattle.arrival_queue.specs.Queues.{Queued, queued_unit, goes_before, put_first, list_with}
use Rattle.queue_laws.specs.Arrivals.{arrival_order, arrivals, LacksRank, RanksBelow}

-- an item put by its rank
abbrev pub ins : Queued → List Queued → List Queued
ins e xs = put_first (λ x. nat_lt e.rank x.rank) e xs

-- two items of different ranks may be put in either order
ins_less : (a b : Queued) → a.rank < b.rank → (xs : List Queued) → ins a (ins b xs) ≡ ins b (ins a xs)
ins_less a b low [] =
    let e1 = lt-ltb a.rank b.rank low in
    let e2 = le-ltb b.rank a.rank (omega (arith, low)) in
    simp (e1, e2) refl
ins_less a b low (x ∷ xs) =
    let e1 = lt-ltb a.rank b.rank low in
    let e2 = le-ltb b.rank a.rank (omega (arith, low)) in
    let rest = ins_less a b low xs in
    elim (cases_lt a.rank x.rank) [
      | inl a_less ↦ let e3 = lt-ltb a.rank x.rank a_less in elim (cases_lt b.rank x.rank) [
        | inl b_less ↦ let e4 = lt-ltb b.rank x.rank b_less in simp (e1, e2, e3, e4) refl
        | inr b_more ↦ let e4 = le-ltb b.rank x.rank b_more in simp (e2, e3, e4) refl
      ]
      | inr a_more ↦
          let e3 = le-ltb a.rank x.rank a_more in
          let e4 = le-ltb b.rank x.rank (omega (arith, low, a_more)) in
          simp (e3, e4) (ap (λ (ys : List Queued). x ∷ ys) rest)
    ]

pub ins_swap : (a b : Queued) → a.rank ≢ b.rank → (xs : List Queued) → ins a (ins b xs) ≡ ins b (ins a xs)
ins_swap a b apart xs =
    elim (cases_lt a.rank b.rank) [
      | inl low ↦ ins_less a b low xs
      | inr high ↦ sym (ins_less b a (omega (arith, high, apart)) xs)
    ]

-- an item anywhere in a list is put by its rank
pub arrived_split : (l r : List Queued) (e : Queued) → LacksRank e.rank l → arrival_order (l ++ e ∷ r) ≡ ins e (arrival_order (l ++ r))
arrived_split [] r e lacks = refl
arrived_split (x ∷ l) r e lacks =
    ap (λ (xs : List Queued). ins x xs) (arrived_split l r e lacks.1) ∙ ins_swap x e lacks.0 (arrival_order (l ++ r))

-- a fact of an item and of each of a list, after the item is put
pub each_put : (P : Queued → Type 0) (p : Queued → Bool) (e : Queued) (xs : List Queued) → P e → AllByRecursion P xs → AllByRecursion P (put_first p e xs)
each_put P p e [] mine each = (mine, tt)
each_put P p e (x ∷ xs) mine each =
    elim (p x) as (λ t. AllByRecursion P (if t then e ∷ x ∷ xs else x ∷ put_first p e xs)) [
      | true ↦ (mine, each)
      | false ↦ (each.0, each_put P p e xs mine each.1)
    ]

pub each_arrived : (P : Queued → Type 0) (es : List Queued) → AllByRecursion P es → AllByRecursion P (arrival_order es)
each_arrived P [] each = tt
each_arrived P (e ∷ es) each = each_put P (λ x. nat_lt e.rank x.rank) e (arrival_order es) each.0 (each_arrived P es each.1)

-- an item of the highest rank is put at the end
ins_last : (e : Queued) (xs : List Queued) → RanksBelow e.rank xs → ins e xs ≡ xs ++ e ∷ []
ins_last e [] below = refl
ins_last e (x ∷ xs) below =
    let e1 = le-ltb e.rank x.rank (omega (arith, below.0)) in
    simp e1 (ap (λ (ys : List Queued). x ∷ ys) (ins_last e xs below.1))

-- where an item is put, the list falls into what is before it and what is after it
pub record PutSplit (p : Queued → Bool) (new : Queued) (xs : List Queued) : Type 0 where
  pub lft : List Queued
  pub rgt : List Queued
  pub was : xs ≡ lft ++ rgt
  pub is : put_first p new xs ≡ lft ++ new ∷ rgt

pub put_split : (p : Queued → Bool) (new : Queued) (xs : List Queued) → PutSplit p new xs
put_split p new [] = record { lft = []; rgt = []; was = refl; is = refl }
put_split p new (x ∷ xs) =
    let rest = put_split p new xs in
    elim (cases_Bool (p x)) [
      | inl passes ↦
          record { lft = []; rgt = x ∷ xs; was = refl; is = ap (λ (t : Bool). if t then new ∷ x ∷ xs else x ∷ put_first p new xs) passes }
      | inr fails ↦
          record {
            lft = x ∷ rest.lft;
            rgt = rest.rgt;
            was = ap (λ (ys : List Queued). x ∷ ys) rest.was;
            is = ap (λ (t : Bool). if t then new ∷ x ∷ xs else x ∷ put_first p new xs) fails ∙ ap (λ (ys : List Queued). x ∷ ys) rest.is;
          }
    ]

left_of : (P : Queued → Type 0) (l r : List Queued) → AllByRecursion P (l ++ r) → AllByRecursion P l
left_of P [] r each = tt
left_of P (x ∷ l) r each = (each.0, left_of P l r each.1)

map-append : (xs ys : List Queued) → map (λ (e : Queued). e.unit) (xs ++ ys) ≡ map (λ (e : Queued). e.unit) xs ++ map (λ (e : Queued). e.unit) ys
map-append [] ys = refl
map-append (x ∷ xs) ys = ap (λ (us : List UnitId). x.unit ∷ us) (map-append xs ys)

lacks_of_below : (r : ℕ) (es : List Queued) → RanksBelow r es → LacksRank r es
lacks_of_below r [] below = tt
lacks_of_below r (e ∷ es) below = (λ (same : e.rank ≡ r). omega (arith, below.0, same), lacks_of_below r es below.1)

-- an item of the highest rank, wherever it stands, arrived last
pub arrivals_split : (l r : List Queued) (e : Queued) → RanksBelow e.rank (l ++ r) → arrivals (l ++ e ∷ r) ≡ arrivals (l ++ r) ++ e.unit ∷ []
arrivals_split l r e below =
    ap (map (λ (x : Queued). x.unit)) (arrived_split l r e (left_of (λ (x : Queued). x.rank ≢ e.rank) l r (lacks_of_below e.rank (l ++ r) below)))
    ∙ ap (map (λ (x : Queued). x.unit)) (ins_last e (arrival_order (l ++ r)) (each_arrived (λ (x : Queued). x.rank < e.rank) (l ++ r) below))
    ∙ map-append (arrival_order (l ++ r)) (e ∷ [])

-- a unit that arrives and is put at its place among the sorted, beside others
pub arrivals_placed : (u : UnitId) (key : Key) (r : ℕ) (es others : List Queued) → RanksBelow r (es ++ others)
    → arrivals (list_with (queued_unit u key r) es ++ others) ≡ arrivals (es ++ others) ++ u ∷ []
arrivals_placed u key r es others below =
    let new : Queued = queued_unit u key r in
    let s = put_split (goes_before new) new es in
    let whole : es ++ others ≡ s.lft ++ (s.rgt ++ others) = ap (λ (xs : List Queued). xs ++ others) s.was ∙ append_assoc s.lft s.rgt others in
    let put : list_with new es ++ others ≡ s.lft ++ new ∷ (s.rgt ++ others) = ap (λ (xs : List Queued). xs ++ others) s.is ∙ append_assoc s.lft (new ∷ s.rgt) others in
    ap arrivals put
    ∙ arrivals_split s.lft (s.rgt ++ others) new (subst (λ (xs : List Queued). RanksBelow r xs) whole below)
    ∙ ap (λ (xs : List Queued). arrivals xs ++ u ∷ []) (sym whole)

append-nil : (es : List Queued) → es ++ [] ≡ es
append-nil [] = refl
append-nil (e ∷ es) = ap (λ (xs : List Queued). e ∷ xs) (append-nil es)

-- a unit that arrives at the end of a list
pub arrivals_appended : (u : UnitId) (key : Key) (r : ℕ) (es : List Queued) → RanksBelow r es → arrivals (es ++ queued_unit u key r ∷ []) ≡ arrivals es ++ u ∷ []
arrivals_appended u key r es below =
    let same = append-nil es in
    arrivals_split es [] (queued_unit u key r) (subst (λ (xs : List Queued). RanksBelow r xs) (sym same) below)
    ∙ ap (λ (xs : List Queued). arrivals xs ++ u ∷ []) same

-- each unit comes once into the order of arrival
pub length-arrivals : (es : List Queued) → length (arrivals es) ≡ length es
length-arrivals [] = refl
length-arrivals (e ∷ es) = put (arrival_order es) ∙ ap suc (length-arrivals es)
  where
    put : (xs : List Queued) → length (map (λ (x : Queued). x.unit) (ins e xs)) ≡ suc (length (map (λ (x : Queued). x.unit) xs))
    put [] = refl
    put (x ∷ xs) =
        elim (nat_lt e.rank x.rank) as (λ t. length (map (λ (y : Queued). y.unit) (if t then e ∷ x ∷ xs else x ∷ ins e xs)) ≡ suc (suc (length (map (λ (y : Queued). y.unit) xs)))) [
          | true ↦ refl
          | false ↦ ap suc (put xs)
        ]
