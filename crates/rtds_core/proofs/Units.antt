-- Lists of units: what is in them, and how many there can be.
use Rattle.std.proofs.Common.{◌≡◌, ◌≤◌, ◌+◌, ℕ, zero, suc, Bool, true, false, List, [], ◌∷◌, ◌++◌, refl, arith, ap, subst, sym, ◌∙◌, inl, inr, length, map, length-append}
use Rattle.std.specs.Prelude.{Option, Some, None, slice_get, filter, not, ◌&&◌, ◌||◌, ◌==◌, if◌then◌else◌, nat_lt}
use Rattle.sched_base.specs.Numbers.{domain}
use Rattle.sched_base.specs.declared.UnitId.{UnitId}
use Rattle.sched_model.specs.Places.{at_place, has_listed_unit, same_unit, without_unit}
use Rattle.sched_model.specs.declared.state.RtdsUnit.{RtdsUnit}
use Rattle.sched_model.specs.EligibleUnits.{rtds_unit_at}
use Rattle.sched_base.proofs.Bools.{clash, or_left, or_right}
use Rattle.sched_laws.proofs.Choices.{same_unit_same}
use Rattle.sched_laws.proofs.Counts.{same_unit_refl}
use Rattle.sched_laws.proofs.EachPlace.{by_option}
use Rattle.sched_ops.specs.Conditions.{IsApart}
use Rattle.arrival_queue.specs.Queues.{Queued}
use Rattle.arrival_queue.specs.Queues.{has_unit as has_queued}
use Rattle.queue_laws.specs.Arrivals.{arrival_order, arrivals, LacksUnit, HasUnits, HasIndices}
use Rattle.queue_laws.proofs.Arrivals.{ins}
use Rattle.queue_laws.proofs.Removed.{has_arrived}
use Rattle.rtds_core.specs.RtdsParts.{total}
use Rattle.std.proofs.Math.Bool.{or-false, or-true, or_assoc, and-false}
use Rattle.std.proofs.lemmas.Bool.{or_right as or_second, eq-eqb, cases_Bool, and_from}

pub same_sym : (u w : UnitId) → same_unit u w ≡ same_unit w u
same_sym u w = grind arith

-- a unit at the end of a list, and a list without one
pub has_pushed : (u w : UnitId) (units : List UnitId) → has_listed_unit (units ++ u ∷ []) w ≡ (has_listed_unit units w || same_unit w u)
has_pushed u w [] = or-false (same_unit w u)
has_pushed u w (x ∷ units) = ap (λ (b : Bool). same_unit w x || b) (has_pushed u w units) ∙ sym (or_assoc (same_unit w x) (has_listed_unit units w) (same_unit w u))

pub has_without : (u w : UnitId) (units : List UnitId) → has_listed_unit (without_unit u units) w ≡ (not (same_unit u w) && has_listed_unit units w)
has_without u w [] = sym (and-false (not (same_unit u w)))
has_without u w (x ∷ units) =
    let rest = has_without u w units in
    elim (cases_Bool (same_unit u x)) [
      | inl mine ↦
          let is : u ≡ x = same_unit_same u x mine in
          ap (λ (b : Bool). has_listed_unit (if not b then x ∷ without_unit u units else without_unit u units) w) mine ∙ rest
          ∙ absorbed (same_unit u w) (same_unit w x) (has_listed_unit units w) (λ other. subst (λ (v : UnitId). same_unit w v ≡ false) is (same_sym w u ∙ other))
      | inr other ↦
          ap (λ (b : Bool). has_listed_unit (if not b then x ∷ without_unit u units else without_unit u units) w) other
          ∙ ap (λ (b : Bool). same_unit w x || b) rest
          ∙ passed (same_unit u w) (same_unit w x) (has_listed_unit units w) (λ same. subst (λ (v : UnitId). same_unit v x ≡ false) (same_unit_same u w same) other)
    ]
  where
    absorbed : (a b c : Bool) → (a ≡ false → b ≡ false) → (not a && c) ≡ (not a && (b || c))
    absorbed true b c f = refl
    absorbed false b c f = ap (λ (k : Bool). k || c) (sym (f refl))

    passed : (a b c : Bool) → (a ≡ true → b ≡ false) → (b || (not a && c)) ≡ (not a && (b || c))
    passed true b c f = ap (λ (k : Bool). k || false) (f refl)
    passed false b c f = refl

filter_short : (p : UnitId → Bool) (units : List UnitId) → length (filter p units) ≤ length units
filter_short p [] = omega arith
filter_short p (u ∷ units) =
    let rest = filter_short p units in
    elim (p u) as (λ b. length (if b then u ∷ filter p units else filter p units) ≤ length (u ∷ units)) [ true ↦ omega (arith, rest) | false ↦ omega (arith, rest) ]

without_short : (u : UnitId) (units : List UnitId) → has_listed_unit units u ≡ true → length (without_unit u units) + 1 ≤ length units
without_short u [] has = absurd (cc)
without_short u (x ∷ units) has =
    elim (cases_Bool (same_unit u x)) [
      | inl mine ↦
          let short = filter_short (λ w. not (same_unit u w)) units in
          subst (λ (b : Bool). length (if not b then x ∷ without_unit u units else without_unit u units) + 1 ≤ length (x ∷ units)) (sym mine) (omega (arith, short))
      | inr other ↦
          let there : has_listed_unit units u ≡ true = sym (ap (λ (b : Bool). b || has_listed_unit units u) other) ∙ has in
          let rest = without_short u units there in
          subst (λ (b : Bool). length (if not b then x ∷ without_unit u units else without_unit u units) + 1 ≤ length (x ∷ units)) (sym other) (omega (arith, rest))
    ]

-- a list without repeats has at most as many units as one that has all of them
pub few_units : (units pool : List UnitId) → IsApart units → ((w : UnitId) → has_listed_unit units w ≡ true → has_listed_unit pool w ≡ true) → length units ≤ length pool
few_units [] pool apart within = omega arith
few_units (x ∷ units) pool apart within =
    let here : has_listed_unit pool x ≡ true = within x (ap (λ (b : Bool). b || has_listed_unit units x) (same_unit_refl x)) in
    let short = without_short x pool here in
    let rest = few_units units (without_unit x pool) apart.1 (λ w has. has_without x w pool ∙ and_from (not (same_unit x w)) (has_listed_unit pool w) (apart_from w has) (within w (later w has))) in
    omega (arith, short, rest)
  where
    apart_from : (w : UnitId) → has_listed_unit units w ≡ true → not (same_unit x w) ≡ true
    apart_from w has = elim (cases_Bool (same_unit x w)) [
      | inl same ↦ absurd (clash (has_listed_unit units x) (subst (λ (v : UnitId). has_listed_unit units v ≡ true) (sym (same_unit_same x w same)) has) apart.0)
      | inr other ↦ ap not other
    ]

    later : (w : UnitId) → has_listed_unit units w ≡ true → (same_unit w x || has_listed_unit units w) ≡ true
    later w has = ap (λ (b : Bool). same_unit w x || b) has ∙ or-true (same_unit w x)

-- the units of a domain, and of all
abbrev names : {X : Type 0} → ℕ → ℕ → List X → List UnitId
names k j [] = []
names k j (x ∷ xs) = (let u : UnitId = record { dom = domain k; n = j } in u) ∷ names k (suc j) xs

abbrev pub all_names : {X : Type 0} → ℕ → List (Option (List X)) → List UnitId
all_names k [] = []
all_names k (None ∷ domains) = all_names (suc k) domains
all_names k (Some xs ∷ domains) = names k 0 xs ++ all_names (suc k) domains

length_names : {X : Type 0} (k j : ℕ) (xs : List X) → length (names k j xs) ≡ length xs
length_names k j [] = refl
length_names k j (x ∷ xs) = ap suc (length_names k (suc j) xs)

pub count_names : {X : Type 0} (k : ℕ) (domains : List (Option (List X))) → length (all_names k domains) ≡ total domains
count_names k [] = refl
count_names k (None ∷ domains) = (let r = count_names (suc k) domains in omega (arith, r))
count_names k (Some xs ∷ domains) = (let r = count_names (suc k) domains in let n = length_names k 0 xs in let e = length-append (names k 0 xs) (all_names (suc k) domains) in omega (arith, r, n, e))

has_append : (w : UnitId) (l r : List UnitId) → has_listed_unit (l ++ r) w ≡ (has_listed_unit l w || has_listed_unit r w)
has_append w [] r = refl
has_append w (x ∷ l) r = ap (λ (b : Bool). same_unit w x || b) (has_append w l r) ∙ sym (or_assoc (same_unit w x) (has_listed_unit l w) (has_listed_unit r w))

has_name : {X : Type 0} (k j i : ℕ) (xs : List X) (x : X) → slice_get xs i ≡ Some x → has_listed_unit (names k j xs) (record { dom = domain k; n = j + i }) ≡ true
has_name k j i [] x at = absurd (cc)
has_name k j zero (y ∷ xs) x at =
    let e : j + 0 ≡ j = omega arith in
    ap (λ (b : Bool). b || has_listed_unit (names k (suc j) xs) (record { dom = domain k; n = j + 0 })) (and_from (k == k) ((j + 0) == j) (eq-eqb k k refl) (eq-eqb (j + 0) j e))
has_name k j (suc i) (y ∷ xs) x at =
    let e : suc j + i ≡ j + suc i = omega arith in
    let rest : has_listed_unit (names k (suc j) xs) (record { dom = domain k; n = j + suc i }) ≡ true = subst (λ (n : ℕ). has_listed_unit (names k (suc j) xs) (record { dom = domain k; n = n }) ≡ true) e (has_name k (suc j) i xs x at) in
    ap (λ (b : Bool). same_unit (record { dom = domain k; n = j + suc i }) (record { dom = domain k; n = j }) || b) rest ∙ or-true (same_unit (record { dom = domain k; n = j + suc i }) (record { dom = domain k; n = j }))

has_all : (k i n : ℕ) (domains : List (Option (List RtdsUnit))) (units : List RtdsUnit) (x : RtdsUnit) → at_place domains i ≡ Some units → slice_get units n ≡ Some x → has_listed_unit (all_names k domains) (record { dom = domain (k + i); n = n }) ≡ true
has_all k i n [] units x at get = absurd (cc)
has_all k zero n (None ∷ domains) units x at get = absurd (cc)
has_all k zero n (Some xs ∷ domains) units x at get =
    let same : xs ≡ units = cc in
    let e : k + 0 ≡ k = omega arith in
    let name : has_listed_unit (names k 0 xs) (record { dom = domain (k + 0); n = n }) ≡ true =
    subst (λ (d : ℕ). has_listed_unit (names k 0 xs) (record { dom = domain d; n = n }) ≡ true) (sym e)
    (subst (λ (m : ℕ). has_listed_unit (names k 0 xs) (record { dom = domain k; n = m }) ≡ true) (let z : 0 + n ≡ n = omega arith in z) (has_name k 0 n xs x (subst (λ (ys : List RtdsUnit). slice_get ys n ≡ Some x) (sym same) get))) in
    has_append (record { dom = domain (k + 0); n = n }) (names k 0 xs) (all_names (suc k) domains) ∙ ap (λ (b : Bool). b || has_listed_unit (all_names (suc k) domains) (record { dom = domain (k + 0); n = n })) name
has_all k (suc i) n (None ∷ domains) units x at get =
    let e : suc k + i ≡ k + suc i = omega arith in
    subst (λ (d : ℕ). has_listed_unit (all_names (suc k) domains) (record { dom = domain d; n = n }) ≡ true) e (has_all (suc k) i n domains units x at get)
has_all k (suc i) n (Some xs ∷ domains) units x at get =
    let e : suc k + i ≡ k + suc i = omega arith in
    let rest : has_listed_unit (all_names (suc k) domains) (record { dom = domain (k + suc i); n = n }) ≡ true = subst (λ (d : ℕ). has_listed_unit (all_names (suc k) domains) (record { dom = domain d; n = n }) ≡ true) e (has_all (suc k) i n domains units x at get) in
    has_append (record { dom = domain (k + suc i); n = n }) (names k 0 xs) (all_names (suc k) domains) ∙ or_second (has_listed_unit (names k 0 xs) (record { dom = domain (k + suc i); n = n })) _ rest

-- a unit with a record is one of all
pub known_named : (domains : List (Option (List RtdsUnit))) (u : UnitId) (x : RtdsUnit) → rtds_unit_at domains u ≡ Some x → has_listed_unit (all_names 0 domains) u ≡ true
known_named domains u x at =
    by_option (λ (o : Option RtdsUnit). o ≡ Some x → has_listed_unit (all_names 0 domains) u ≡ true) (at_place domains u.dom.0) _ _ (λ none e. absurd (cc))
    (λ units there e. subst (λ (d : ℕ). has_listed_unit (all_names 0 domains) (record { dom = domain d; n = u.n }) ≡ true) (let z : 0 + u.dom.0 ≡ u.dom.0 = omega arith in z) (has_all 0 u.dom.0 u.n domains units x there e)) at

-- no unit arrives twice
pub apart_arrivals : (es : List Queued) → HasUnits es → HasIndices es → IsApart (arrivals es)
apart_arrivals [] units lows = tt
apart_arrivals (e ∷ es) units lows =
    put_apart e (arrival_order es) (apart_arrivals es units.1 lows.1) (has_arrived e.unit es lows.0 lows.1 ∙ lacking es units.0)
  where
    lacking : (xs : List Queued) → LacksUnit e.unit xs → has_queued e.unit xs ≡ false
    lacking [] lacks = refl
    lacking (x ∷ xs) lacks = ap (λ (b : Bool). b || has_queued e.unit xs) lacks.0 ∙ lacking xs lacks.1

    has_ins : (w : UnitId) (e : Queued) (xs : List Queued) → has_listed_unit (map (λ (x : Queued). x.unit) (ins e xs)) w ≡ (same_unit w e.unit || has_listed_unit (map (λ (x : Queued). x.unit) xs) w)
    has_ins w e [] = refl
    has_ins w e (x ∷ xs) =
        elim (nat_lt e.rank x.rank) as (λ t. has_listed_unit (map (λ (y : Queued). y.unit) (if t then e ∷ x ∷ xs else x ∷ ins e xs)) w ≡ (same_unit w e.unit || (same_unit w x.unit || has_listed_unit (map (λ (y : Queued). y.unit) xs) w))) [
          | true ↦ refl
          | false ↦ ap (λ (t : Bool). same_unit w x.unit || t) (has_ins w e xs) ∙ swap (same_unit w x.unit) (same_unit w e.unit) (has_listed_unit (map (λ (y : Queued). y.unit) xs) w)
        ]
      where
        swap : (a b c : Bool) → (a || (b || c)) ≡ (b || (a || c))
        swap true true c = refl
        swap true false c = refl
        swap false b c = refl

    put_apart : (e : Queued) (xs : List Queued) → IsApart (map (λ (x : Queued). x.unit) xs) → has_listed_unit (map (λ (x : Queued). x.unit) xs) e.unit ≡ false → IsApart (map (λ (x : Queued). x.unit) (ins e xs))
    put_apart e [] apart none = (none, tt)
    put_apart e (x ∷ xs) apart none =
        let other : same_unit e.unit x.unit ≡ false = or_left (same_unit e.unit x.unit) _ none in
        let rest : has_listed_unit (map (λ (y : Queued). y.unit) xs) e.unit ≡ false = or_right (same_unit e.unit x.unit) _ none in
        elim (nat_lt e.rank x.rank) as (λ t. IsApart (map (λ (y : Queued). y.unit) (if t then e ∷ x ∷ xs else x ∷ ins e xs))) [
          | true ↦ (none, apart)
          | false ↦ (has_ins x.unit e xs ∙ ap (λ (b : Bool). b || has_listed_unit (map (λ (y : Queued). y.unit) xs) x.unit) (same_sym x.unit e.unit ∙ other) ∙ apart.0, put_apart e xs apart.1 rest)
        ]
