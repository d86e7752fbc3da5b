-- The keys of RTDS units, which alone decide which of them comes first.
use Rattle.std.proofs.Common.{◌≡◌, ◌≤◌, ◌+◌, ℕ, zero, suc, Bool, true, false, not, List, [], ◌∷◌, refl, arith, ap, sym, ◌∙◌, inl, inr}
use Rattle.std.specs.Prelude.{Option, Some, None, map, option_map, slice_get, nat_lt, ◌&&◌, ◌||◌, ◌==◌}
use Rattle.std.proofs.lemmas.Bool.{cases_Bool}
use Rattle.std.proofs.lemmas.Option.{slice_get-map}
use Rattle.sched_base.specs.declared.UnitId.{UnitId}
use Rattle.sched_model.specs.declared.state.RtdsUnit.{RtdsUnit}
use Rattle.sched_model.specs.declared.state.Scheduler.{Scheduler}
use Rattle.sched_model.specs.declared.state.Records.TheVariants.{RtdsPool}
use Rattle.sched_model.specs.Places.{at_place, change_at, change_item}
use Rattle.sched_model.specs.EligibleUnits.{rtds_unit_at, may_have_core}
use Rattle.sched_model.specs.Rtds.{is_record_before, is_unit_before, unit_left_budget, change_unit}
use Rattle.sched_base.proofs.Bools.{clash}
use Rattle.sched_laws.specs.Counts.{total}
use Rattle.sched_laws.proofs.EachPlace.{by_option}
use Rattle.moment_laws.specs.Turns.{how_many, goes_before, ahead}
use Rattle.sched_base.specs.Numbers.{one_if}
use Rattle.moment_laws.proofs.Sums.{count_no_more, count_less, total_no_more, total_less}
use Rattle.moment_laws.specs.Stretches.{units}

-- a level, a deadline and what is left of the budget
abbrev pub Key : Type 0
Key = ℕ × ℕ × ℕ

abbrev pub key : RtdsUnit → Key
key x = (x.level, x.deadline, x.left)

abbrev pub key_before : Key → Key → Bool
key_before a b = nat_lt a.0 b.0 || (a.0 == b.0 && nat_lt a.1 b.1)

abbrev pub Keys : Type 0
Keys = List (Option (List Key))

abbrev pub keys : List (Option (List RtdsUnit)) → Keys
keys domains = map (λ (o : Option (List RtdsUnit)). option_map (λ (xs : List RtdsUnit). map key xs) o) domains

abbrev pub key_at : Keys → UnitId → Option Key
key_at ks u = elim (at_place ks u.dom.0) as (λ _. Option Key) [ None ↦ None | Some xs ↦ slice_get xs u.n ]

at_map : (domains : List (Option (List RtdsUnit))) (d : ℕ) → at_place (keys domains) d ≡ option_map (λ (xs : List RtdsUnit). map key xs) (at_place domains d)
at_map [] zero = refl
at_map [] (suc d) = refl
at_map (x ∷ domains) zero = refl
at_map (x ∷ domains) (suc d) = at_map domains d

pub key_is : (domains : List (Option (List RtdsUnit))) (u : UnitId) → key_at (keys domains) u ≡ option_map key (rtds_unit_at domains u)
key_is domains u =
    ap (λ (o : Option (List Key)). elim o as (λ _. Option Key) [ None ↦ None | Some xs ↦ slice_get xs u.n ]) (at_map domains u.dom.0) ∙ by_units (at_place domains u.dom.0)
  where
    by_units : (o : Option (List RtdsUnit)) → elim (option_map (λ (xs : List RtdsUnit). map key xs) o) as (λ _. Option Key) [ None ↦ None | Some xs ↦ slice_get xs u.n ] ≡ option_map key (elim o as (λ _. Option RtdsUnit) [ None ↦ None | Some units ↦ slice_get units u.n ])
    by_units None = refl
    by_units (Some xs) = slice_get-map key xs u.n

-- the words on records, by keys
abbrev pub both_before : Option Key → Option Key → Bool
both_before a b = elim a as (λ _. Bool) [ None ↦ false | Some x ↦ elim b as (λ _. Bool) [ None ↦ false | Some y ↦ key_before x y ] ]

before_options : (a b : Option RtdsUnit) → elim a as (λ _. Bool) [ None ↦ false | Some x ↦ elim b as (λ _. Bool) [ None ↦ false | Some y ↦ is_record_before x y ] ] ≡ both_before (option_map key a) (option_map key b)
before_options None b = refl
before_options (Some x) None = refl
before_options (Some x) (Some y) = refl

pub before_is : (domains : List (Option (List RtdsUnit))) (u w : UnitId) → is_unit_before domains u w ≡ both_before (key_at (keys domains) u) (key_at (keys domains) w)
before_is domains u w = before_options (rtds_unit_at domains u) (rtds_unit_at domains w) ∙ ap (λ a. both_before a (option_map key (rtds_unit_at domains w))) (sym (key_is domains u)) ∙ ap (λ b. both_before (key_at (keys domains) u) b) (sym (key_is domains w))

abbrev left_of : Option Key → ℕ
left_of o = elim o as (λ _. ℕ) [ None ↦ 0 | Some k ↦ k.2 ]

left_option : (o : Option RtdsUnit) → elim o as (λ _. ℕ) [ None ↦ 0 | Some x ↦ x.left ] ≡ left_of (option_map key o)
left_option None = refl
left_option (Some x) = refl

pub left_is : (domains : List (Option (List RtdsUnit))) (u : UnitId) → unit_left_budget domains u ≡ left_of (key_at (keys domains) u)
left_is domains u = left_option (rtds_unit_at domains u) ∙ ap left_of (sym (key_is domains u))

passes_option : (o : Option RtdsUnit) → elim o as (λ _. Bool) [ None ↦ false | Some x ↦ nat_lt 0 x.left ] ≡ nat_lt 0 (elim o as (λ _. ℕ) [ None ↦ 0 | Some x ↦ x.left ])
passes_option None = refl
passes_option (Some x) = refl

pub passes_is : (domains : List (Option (List RtdsUnit))) (scheduler : Scheduler) (home r t : ℕ) (u : UnitId) → may_have_core (RtdsPool domains) scheduler home r t u ≡ nat_lt 0 (unit_left_budget domains u)
passes_is domains scheduler home r t u = passes_option (rtds_unit_at domains u)

-- how many keys come before one
abbrev pub keys_before : Option Key → Keys → ℕ
keys_before o ks = total (λ (xs : List Key). how_many (λ k. both_before (Some k) o) xs) ks

how_many_keys : (o : Option RtdsUnit) (xs : List RtdsUnit) → how_many (goes_before o) xs ≡ how_many (λ k. both_before (Some k) (option_map key o)) (map key xs)
how_many_keys o [] = refl
how_many_keys None (x ∷ xs) = ap (λ n. 0 + n) (how_many_keys None xs)
how_many_keys (Some y) (x ∷ xs) = ap (λ n. one_if (is_record_before x y) + n) (how_many_keys (Some y) xs)

ahead_keys : (o : Option RtdsUnit) (domains : List (Option (List RtdsUnit))) → total (λ (xs : List RtdsUnit). how_many (goes_before o) xs) domains ≡ keys_before (option_map key o) (keys domains)
ahead_keys o [] = refl
ahead_keys o (None ∷ domains) = ahead_keys o domains
ahead_keys o (Some xs ∷ domains) = ap (λ n. n + total (λ (ys : List RtdsUnit). how_many (goes_before o) ys) domains) (how_many_keys o xs) ∙ ap (λ n. how_many (λ k. both_before (Some k) (option_map key o)) (map key xs) + n) (ahead_keys o domains)

pub ahead_is : (domains : List (Option (List RtdsUnit))) (u : UnitId) → ahead (RtdsPool domains) u ≡ keys_before (key_at (keys domains) u) (keys domains)
ahead_is domains u = ahead_keys (rtds_unit_at domains u) domains ∙ ap (λ o. keys_before o (keys domains)) (sym (key_is domains u))

-- a change of a unit that keeps its key
map_change_item : (n : ℕ) (f : RtdsUnit → RtdsUnit) (xs : List RtdsUnit) → ((x : RtdsUnit) → slice_get xs n ≡ Some x → key (f x) ≡ key x) → map key (change_item n f xs) ≡ map key xs
map_change_item n f [] same = refl
map_change_item zero f (x ∷ xs) same = ap (λ k. k ∷ map key xs) (same x refl)
map_change_item (suc n) f (x ∷ xs) same = ap (λ ks. key x ∷ ks) (map_change_item n f xs same)

keys_change_at : (d : ℕ) (f : List RtdsUnit → List RtdsUnit) (domains : List (Option (List RtdsUnit))) → ((xs : List RtdsUnit) → at_place domains d ≡ Some xs → map key (f xs) ≡ map key xs) → keys (change_at d f domains) ≡ keys domains
keys_change_at d f [] same = refl
keys_change_at zero f (None ∷ domains) same = refl
keys_change_at zero f (Some xs ∷ domains) same = ap (λ ks. Some ks ∷ keys domains) (same xs refl)
keys_change_at (suc d) f (o ∷ domains) same = ap (λ ks. option_map (λ (xs : List RtdsUnit). map key xs) o ∷ ks) (keys_change_at d f domains same)

pub keys_change : (u : UnitId) (f : RtdsUnit → RtdsUnit) (domains : List (Option (List RtdsUnit))) → ((x : RtdsUnit) → rtds_unit_at domains u ≡ Some x → key (f x) ≡ key x) → keys (change_unit u f domains) ≡ keys domains
keys_change u f domains same =
    keys_change_at u.dom.0 (change_item u.n f) domains (λ xs at. map_change_item u.n f xs (λ x has. same x (ap (λ (o : Option (List RtdsUnit)). elim o as (λ _. Option RtdsUnit) [ None ↦ None | Some units ↦ slice_get units u.n ]) at ∙ has)))

pub key_irrefl : (a : Key) → key_before a a ≡ false
key_irrefl a = grind arith

pub key_least : (a b e : Key) → key_before a b ≡ true → key_before e b ≡ false → key_before e a ≡ false
key_least a b e before not_before = grind arith

-- the order of what has a key or none
pub both_irrefl : (a : Option Key) → both_before a a ≡ false
both_irrefl None = refl
both_irrefl (Some a) = key_irrefl a

pub both_least : (a b e : Option Key) → both_before a b ≡ true → both_before e b ≡ false → both_before e a ≡ false
both_least None b e before not_before = absurd (cc)
both_least (Some a) None e before not_before = absurd (cc)
both_least (Some a) (Some b) None before not_before = refl
both_least (Some a) (Some b) (Some e) before not_before = key_least a b e before not_before

pub both_trans : (a b e : Option Key) → both_before a b ≡ true → both_before b e ≡ true → both_before a e ≡ true
both_trans a b e x y = elim (cases_Bool (both_before a e)) [
  | inl is ↦ is
  | inr not ↦ absurd (clash (both_before a b) x (both_least b e a y not))
]

-- where a unit's key stands
key_place : (ks : Keys) (u : UnitId) (k : Key) → key_at ks u ≡ Some k → (xs : List Key) × (at_place ks u.dom.0 ≡ Some xs) × (slice_get xs u.n ≡ Some k)
key_place ks u k is = by_option (λ (o : Option Key). o ≡ Some k → (xs : List Key) × (at_place ks u.dom.0 ≡ Some xs) × (slice_get xs u.n ≡ Some k)) (at_place ks u.dom.0) None (λ xs. slice_get xs u.n) (λ at e. absurd (cc)) (λ xs at e. (xs, at, e)) is

-- fewer come before a unit that comes before another
pub fewer_before : (ks : Keys) (u w : UnitId) → both_before (key_at ks w) (key_at ks u) ≡ true → keys_before (key_at ks w) ks + 1 ≤ keys_before (key_at ks u) ks
fewer_before ks u w before = by_key (key_at ks w) refl before
  where
    by_key : (o : Option Key) → key_at ks w ≡ o → both_before o (key_at ks u) ≡ true → keys_before o ks + 1 ≤ keys_before (key_at ks u) ks
    by_key None is b = absurd (cc)
    by_key (Some k) is b =
        let place = key_place ks w k is in
        let to : (x : Key) → both_before (Some x) (Some k) ≡ true → both_before (Some x) (key_at ks u) ≡ true = λ x y. both_trans (Some x) (Some k) (key_at ks u) y b in
        total_less (λ (xs : List Key). how_many (λ x. both_before (Some x) (Some k)) xs) (λ (xs : List Key). how_many (λ x. both_before (Some x) (key_at ks u)) xs)
        (λ xs. count_no_more (λ x. both_before (Some x) (Some k)) (λ x. both_before (Some x) (key_at ks u)) to xs) ks w.dom.0 place.0 place.1
        (count_less (λ x. both_before (Some x) (Some k)) (λ x. both_before (Some x) (key_at ks u)) to place.0 w.n k place.2 b (both_irrefl (Some k)))

-- not all come before a unit that has a key
pub some_behind : (ks : Keys) (w : UnitId) (k : Key) → key_at ks w ≡ Some k → keys_before (Some k) ks + 1 ≤ total (λ (xs : List Key). how_many (λ x. true) xs) ks
some_behind ks w k is =
    let place = key_place ks w k is in
    total_less (λ (xs : List Key). how_many (λ x. both_before (Some x) (Some k)) xs) (λ (xs : List Key). how_many (λ x. true) xs)
    (λ xs. count_no_more (λ x. both_before (Some x) (Some k)) (λ x. true) (λ x y. refl) xs) ks w.dom.0 place.0 place.1
    (count_less (λ x. both_before (Some x) (Some k)) (λ x. true) (λ x y. refl) place.0 w.n k place.2 refl (both_irrefl (Some k)))

pub before_most : (o : Option Key) (ks : Keys) → keys_before o ks ≤ total (λ (xs : List Key). how_many (λ x. true) xs) ks
before_most o ks = total_no_more (λ (xs : List Key). how_many (λ x. both_before (Some x) o) xs) (λ (xs : List Key). how_many (λ x. true) xs) (λ xs. count_no_more (λ x. both_before (Some x) o) (λ x. true) (λ x y. refl) xs) ks
