-- The first of a sorted queue is what a scan in order of arrival would choose.
use Rattle.std.proofs.Common.{◌≡◌, ◌≤◌, List, [], ◌∷◌, map, Bool, true, false, refl, sym, ◌∙◌, ap, inl, inr}
use Rattle.std.specs.Prelude.{◌||◌, ◌&&◌, if◌then◌else◌, nat_lt, not, filter, Option, Some, None}
use Rattle.std.specs.List.{AllByRecursion}
use Rattle.std.proofs.lemmas.Bool.{cases_lt, cases_Bool, lt-ltb, le-ltb}
use Rattle.sched_base.specs.declared.UnitId.{UnitId}
use Rattle.sched_base.proofs.Bools.{and_left}
use Rattle.arrival_queue.specs.declared.key.Key.{Key}
use Rattle.arrival_queue.specs.Queues.{Queued, is_lesser_key, goes_before}
use Rattle.arrival_queue.specs.Filters.{first_that}
use Rattle.arrival_queue.specs.Order.{GoesBeforeAll, IsInOrder}
use Rattle.queue_laws.specs.Arrivals.{arrival_order, arrivals, HasKeys, least_by, own_or}
use Rattle.queue_laws.proofs.Arrivals.{ins, each_arrived}
use Rattle.queue_laws.proofs.Keys.{less_asym, less_trans, less_back}

-- the units that pass, in the order of the items
abbrev passing : (UnitId → Bool) → List Queued → List UnitId
passing p xs = filter p (map (λ (e : Queued). e.unit) xs)

-- an item goes before another only where its key is no greater
pub not_after : (x y : Queued) → goes_before x y ≡ true → is_lesser_key y.key x.key ≡ false
not_after x y before =
    elim (cases_Bool (is_lesser_key x.key y.key)) [
      | inl less ↦ less_asym x.key y.key less
      | inr not_less ↦
          let rest : (not (is_lesser_key y.key x.key) && nat_lt x.rank y.rank) ≡ true = sym (ap (λ (t : Bool). t || (not (is_lesser_key y.key x.key) && nat_lt x.rank y.rank)) not_less) ∙ before in
          no_more (is_lesser_key y.key x.key) (and_left (not (is_lesser_key y.key x.key)) (nat_lt x.rank y.rank) rest)
    ]
  where
    no_more : (t : Bool) → not t ≡ true → t ≡ false
    no_more true e = sym e
    no_more false e = refl

-- and one that arrived later goes before another only by its key
by_key : (x y : Queued) → goes_before x y ≡ true → y.rank ≤ x.rank → is_lesser_key x.key y.key ≡ true
by_key x y before late =
    elim (cases_Bool (is_lesser_key x.key y.key)) [
      | inl less ↦ less
      | inr not_less ↦
          let rest : (not (is_lesser_key y.key x.key) && nat_lt x.rank y.rank) ≡ true = sym (ap (λ (t : Bool). t || (not (is_lesser_key y.key x.key) && nat_lt x.rank y.rank)) not_less) ∙ before in
          let none : nat_lt x.rank y.rank ≡ false = le-ltb x.rank y.rank late in
          absurd (no_such (not (is_lesser_key y.key x.key)) (nat_lt x.rank y.rank) rest none)
    ]
  where
    no_such : (a b : Bool) → (a && b) ≡ true → b ≡ false → ⊥
    no_such true b e f = let g : true ≡ false = sym e ∙ f in absurd (cc)
    no_such false b e f = absurd (cc)

module _ (key : UnitId → Key) (p : UnitId → Bool) (e : Queued) (own_key : e.key ≡ key e.unit) where
  -- the item is not displaced by items whose keys are no less
  stays : (xs : List Queued) → HasKeys key xs → AllByRecursion (λ (x : Queued). is_lesser_key x.key e.key ≡ false) xs → least_by key (Some e.unit) (passing p xs) ≡ Some e.unit
  stays [] keys each = refl
  stays (x ∷ xs) keys each =
      let rest = stays xs keys.1 each.1 in
      let test : is_lesser_key (key x.unit) (key e.unit) ≡ false = ap (λ (k : Key). is_lesser_key k (key e.unit)) (sym keys.0) ∙ ap (is_lesser_key x.key) (sym own_key) ∙ each.0 in
      elim (p x.unit) as (λ t. least_by key (Some e.unit) (if t then x.unit ∷ passing p xs else passing p xs) ≡ Some e.unit) [
        | true ↦ ap (λ (t : Bool). least_by key (Some (if t then x.unit else e.unit)) (passing p xs)) test ∙ rest
        | false ↦ rest
      ]

  -- the item's key is less than that of the best so far, if there is one
  abbrev Beats : Option UnitId → Type 0
  Beats None = Unit {0}
  Beats (Some b) = is_lesser_key (key e.unit) (key b) ≡ true

  taken : (best : Option UnitId) (units : List UnitId) → Beats best → least_by key best (e.unit ∷ units) ≡ least_by key (Some e.unit) units
  taken None units beats = refl
  taken (Some b) units beats = ap (λ (t : Bool). least_by key (Some (if t then e.unit else b)) units) beats

  next : (best : Option UnitId) (x : UnitId) (units : List UnitId) → Beats best → is_lesser_key (key e.unit) (key x) ≡ true → (b : UnitId) × (least_by key best (x ∷ units) ≡ least_by key (Some b) units) × Beats (Some b)
  next None x units beats less = (x, refl, less)
  next (Some b) x units beats less = elim (is_lesser_key (key x) (key b)) as (λ t. (c : UnitId) × (least_by key (Some (if t then x else b)) units ≡ least_by key (Some c) units) × Beats (Some c)) [
    | true ↦ (x, refl, less)
    | false ↦ (b, refl, beats)
  ]

  -- the item, which goes before all others and passes, is found wherever its arrival puts it
  found : (passes : p e.unit ≡ true) (best : Option UnitId) (xs : List Queued) → HasKeys key xs → AllByRecursion (λ (x : Queued). goes_before e x ≡ true) xs → Beats best
      → least_by key best (passing p (ins e xs)) ≡ Some e.unit
  found passes best [] keys leads beats =
      ap (λ (t : Bool). least_by key best (if t then e.unit ∷ [] else [])) passes ∙ taken best [] beats
  found passes best (x ∷ xs) keys leads beats =
      elim (cases_lt e.rank x.rank) [
        | inl less ↦
            let e1 = lt-ltb e.rank x.rank less in
            let put : ins e (x ∷ xs) ≡ e ∷ x ∷ xs = ap (λ (t : Bool). if t then e ∷ x ∷ xs else x ∷ ins e xs) e1 in
            ap (λ (ys : List Queued). least_by key best (passing p ys)) put
            ∙ ap (λ (t : Bool). least_by key best (if t then e.unit ∷ passing p (x ∷ xs) else passing p (x ∷ xs))) passes
            ∙ taken best (passing p (x ∷ xs)) beats
            ∙ stays (x ∷ xs) keys (none_less (x ∷ xs) leads)
        | inr more ↦
            let e1 = le-ltb e.rank x.rank more in
            let put : ins e (x ∷ xs) ≡ x ∷ ins e xs = ap (λ (t : Bool). if t then e ∷ x ∷ xs else x ∷ ins e xs) e1 in
            let strict : is_lesser_key (key e.unit) (key x.unit) ≡ true = ap (λ (k : Key). is_lesser_key k (key x.unit)) (sym own_key) ∙ ap (is_lesser_key e.key) (sym keys.0) ∙ by_key e x leads.0 more in
            ap (λ (ys : List Queued). least_by key best (passing p ys)) put
            ∙ elim (p x.unit) as (λ t. least_by key best (if t then x.unit ∷ passing p (ins e xs) else passing p (ins e xs)) ≡ Some e.unit) [
              | true ↦ let n = next best x.unit (passing p (ins e xs)) beats strict in n.1 ∙ found passes (Some n.0) xs keys.1 leads.1 n.2
              | false ↦ found passes best xs keys.1 leads.1 beats
            ]
      ]
    where
      none_less : (ys : List Queued) → AllByRecursion (λ (y : Queued). goes_before e y ≡ true) ys → AllByRecursion (λ (y : Queued). is_lesser_key y.key e.key ≡ false) ys
      none_less [] each = tt
      none_less (y ∷ ys) each = (not_after e y each.0, none_less ys each.1)

  -- where it does not pass, it is as if it were not there
  passed_over : (fails : p e.unit ≡ false) (xs : List Queued) → passing p (ins e xs) ≡ passing p xs
  passed_over fails [] = ap (λ (t : Bool). if t then e.unit ∷ [] else []) fails
  passed_over fails (x ∷ xs) =
      elim (nat_lt e.rank x.rank) as (λ t. passing p (if t then e ∷ x ∷ xs else x ∷ ins e xs) ≡ passing p (x ∷ xs)) [
        | true ↦ ap (λ (t : Bool). if t then e.unit ∷ passing p (x ∷ xs) else passing p (x ∷ xs)) fails
        | false ↦ elim (p x.unit) as (λ t. (if t then x.unit ∷ passing p (ins e xs) else passing p (ins e xs)) ≡ (if t then x.unit ∷ passing p xs else passing p xs)) [
          | true ↦ ap (λ (us : List UnitId). x.unit ∷ us) (passed_over fails xs)
          | false ↦ passed_over fails xs
        ]
      ]

leads : (e : Queued) (es : List Queued) → GoesBeforeAll e es → AllByRecursion (λ (x : Queued). goes_before e x ≡ true) es
leads e [] all = tt
leads e (x ∷ es) all = (all.0, leads e es all.1)

-- the first of a sorted queue that passes is the unit of the least key among those that pass, and among equals the earliest
pub first_is_least : (key : UnitId → Key) (p : UnitId → Bool) (es : List Queued) → IsInOrder es → HasKeys key es → first_that p es ≡ least_by key None (filter p (arrivals es))
first_is_least key p [] sorted keys = refl
first_is_least key p (e ∷ es) sorted keys =
    let rest = first_is_least key p es sorted.1 keys.1 in
    elim (cases_Bool (p e.unit)) [
      | inl passes ↦
          ap (λ (t : Bool). if t then Some e.unit else first_that p es) passes
          ∙ sym (found key p e keys.0 passes None (arrival_order es) (each_arrived (λ (x : Queued). x.key ≡ key x.unit) es keys.1) (each_arrived (λ (x : Queued). goes_before e x ≡ true) es (leads e es sorted.0)) tt)
      | inr fails ↦
          ap (λ (t : Bool). if t then Some e.unit else first_that p es) fails
          ∙ rest ∙ ap (least_by key None) (sym (passed_over key p e keys.0 fails (arrival_order es)))
    ]

-- a scan that begins with the core's own unit
own_step : (key : UnitId → Key) (own u : UnitId) (w : Option UnitId) → own_or key (if is_lesser_key (key u) (key own) then u else own) w ≡ own_or key own (Some (own_or key u w))
own_step key own u None = refl
own_step key own u (Some w) =
    elim (cases_Bool (is_lesser_key (key u) (key own))) [
      | inl u_own ↦
          ap (λ (t : Bool). own_or key (if t then u else own) (Some w)) u_own
          ∙ elim (cases_Bool (is_lesser_key (key w) (key u))) [
            | inl w_u ↦
                let w_own = less_trans (key w) (key u) (key own) w_u u_own in
                simp (w_u, w_own) refl
            | inr w_u ↦ simp (w_u, u_own) refl
          ]
      | inr u_own ↦
          ap (λ (t : Bool). own_or key (if t then u else own) (Some w)) u_own
          ∙ elim (cases_Bool (is_lesser_key (key w) (key u))) [
            | inl w_u ↦ simp w_u refl
            | inr w_u ↦
                let w_own = less_back (key w) (key u) (key own) w_u u_own in
                simp (w_u, w_own, u_own) refl
          ]
    ]

pub least_by_own : (key : UnitId → Key) (own : UnitId) (units : List UnitId) → least_by key (Some own) units ≡ Some (own_or key own (least_by key None units))
least_by_own key own [] = refl
least_by_own key own (u ∷ units) =
    least_by_own key (if is_lesser_key (key u) (key own) then u else own) units
    ∙ ap Some (own_step key own u (least_by key None units))
    ∙ ap (λ (w : Option UnitId). Some (own_or key own w)) (sym (least_by_own key u units))
