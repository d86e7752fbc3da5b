-- The first of the queue that may have the core is the one that a scan of all would find.
use Rattle.std.proofs.Common.{◌≡◌, ℕ, Bool, true, false, List, [], ◌∷◌, ◌++◌, map, refl, sym, ◌∙◌, ap, arith, inl, inr}
use Rattle.std.specs.Prelude.{Option, Some, None, ◌||◌, ◌&&◌, ◌==◌, if◌then◌else◌, filter, nat_lt, pos, is_some, int_lt, not}
use Rattle.std.specs.List.{AllByRecursion, list_any}
use Rattle.std.specs.Option.{IfSome}
use Rattle.std.proofs.lemmas.Bool.Decides.{nat_tests}
use Rattle.std.proofs.lemmas.Int.{ints}
use Rattle.sched_base.specs.declared.Cores.{Cores}
use Rattle.sched_base.specs.declared.UnitId.{UnitId}
use Rattle.sched_base.specs.CoreSets.{is_core_allowed}
use Rattle.unit_places.specs.Masks.{mask_of}
use Rattle.sched_model.specs.declared.state.RtdsUnit.{RtdsUnit}
use Rattle.sched_model.specs.declared.state.Records.TheVariants.{RtdsPool}
use Rattle.sched_model.specs.EligibleUnits.{rtds_unit_at, is_unit_eligible, is_allowed_by, unit_cores}
use Rattle.sched_model.specs.Rtds.{first_of_units, is_unit_before, is_record_before}
use Rattle.sched_base.proofs.Bools.{and_right}
use Rattle.arrival_queue.specs.declared.key.Key.{Key}
use Rattle.arrival_queue.specs.Queues.{Queued, is_lesser_key}
use Rattle.arrival_queue.specs.Filters.{first_that, may_run}
use Rattle.arrival_queue.specs.Order.{IsInOrder}
use Rattle.rtds_queue.specs.Lists.{Lists, key_of, rtds_key}
use Rattle.queue_laws.specs.Arrivals.{arrival_order, HasRanks, HasKeys, least_by, own_or}
use Rattle.queue_laws.proofs.Arrivals.{ins}
use Rattle.queue_laws.proofs.Scan.{first_is_least, least_by_own}
use Rattle.queue_laws.proofs.Keys.{less_trans, less_back}
use Rattle.scheduler_records.specs.Parts.{scheduler_of}
use Rattle.rtds_core.specs.Best.{queue_of, key_by, IsEligible, IsSpent, AreQueued, AreMasks, list_of, is_waiting_first}
use Rattle.rtds_core.proofs.Queues.{arrivals_swap}
use Rattle.std.proofs.Math.Bool.{and-false, or-false}
use Rattle.std.proofs.lemmas.Bool.{cases_Bool}

-- the unit has a record
pub record IsKnown (domains : List (Option (List RtdsUnit))) (u : UnitId) : Type 0 where
  pub unit : RtdsUnit
  pub at : rtds_unit_at domains u ≡ Some unit

-- the key of a unit
abbrev pub key_in : List (Option (List RtdsUnit)) → UnitId → Key
key_in domains u = elim (rtds_unit_at domains u) [ None ↦ key_of (rtds_key 0 0) | Some x ↦ key_of (key_by x) ]

same_order : (a b c d : ℕ) → (nat_lt a b || ((a == b) && nat_lt c d)) ≡ (int_lt (pos a) (pos b) || (not (int_lt (pos b) (pos a)) && nat_lt c d))
same_order a b c d = grind (arith, ints, nat_tests)

before_is_less : (a b : RtdsUnit) → is_record_before a b ≡ is_lesser_key (key_of (key_by a)) (key_of (key_by b))
before_is_less a b = same_order a.level b.level a.deadline b.deadline

-- the key of a unit that has a record
pub key_is : (domains : List (Option (List RtdsUnit))) (u : UnitId) (x : RtdsUnit) → rtds_unit_at domains u ≡ Some x → key_in domains u ≡ key_of (key_by x)
key_is domains u x at = ap (λ (o : Option RtdsUnit). elim o as (λ _. Key) [ None ↦ key_of (rtds_key 0 0) | Some y ↦ key_of (key_by y) ]) at

-- a unit goes before another where its key is less
pub before_by_key : (domains : List (Option (List RtdsUnit))) (u w : UnitId) → IsKnown domains u → IsKnown domains w → is_unit_before domains u w ≡ is_lesser_key (key_in domains u) (key_in domains w)
before_by_key domains u w a b =
    ap (λ (o : Option RtdsUnit). elim o as (λ _. Bool) [ None ↦ false | Some x ↦ elim (rtds_unit_at domains w) as (λ _. Bool) [ None ↦ false | Some y ↦ is_record_before x y ] ]) a.at
    ∙ ap (λ (o : Option RtdsUnit). elim o as (λ _. Bool) [ None ↦ false | Some y ↦ is_record_before a.unit y ]) b.at
    ∙ before_is_less a.unit b.unit
    ∙ sym (ap (λ (k : Key). is_lesser_key k (key_of (key_by b.unit))) (key_is domains u a.unit a.at))
    ∙ sym (ap (is_lesser_key (key_in domains u)) (key_is domains w b.unit b.at))

-- the foremost of units with records is that of the least key
foremost_is_least : (domains : List (Option (List RtdsUnit))) (best : Option UnitId) (units : List UnitId) → IfSome best (IsKnown domains) → AllByRecursion (IsKnown domains) units → first_of_units domains best units ≡ least_by (key_in domains) best units
foremost_is_least domains best [] known each = refl
foremost_is_least domains None (u ∷ units) known each = foremost_is_least domains (Some u) units each.0 each.1
foremost_is_least domains (Some best) (u ∷ units) known each =
    ap (λ (t : Bool). first_of_units domains (Some (if t then u else best)) units) (before_by_key domains u best each.0 known)
    ∙ elim (is_lesser_key (key_in domains u) (key_in domains best)) as (λ t. first_of_units domains (Some (if t then u else best)) units ≡ least_by (key_in domains) (Some (if t then u else best)) units) [
      | true ↦ foremost_is_least domains (Some u) units each.0 each.1
      | false ↦ foremost_is_least domains (Some best) units known each.1
    ]

module _ (domains : List (Option (List RtdsUnit))) (affinity : List (Option (List Cores))) (home core t : ℕ) where
  -- whether a waiting unit may have the core
  abbrev pub may_have : List UnitId → UnitId → Bool
  may_have queue u = is_unit_eligible (scheduler_of queue affinity (RtdsPool domains)) home core t u

  abbrev pub test : UnitId → Bool
  test u = may_have [] u

  -- one that may has a record
  pub known_passes : (u : UnitId) → test u ≡ true → IsKnown domains u
  known_passes u is =
      let passes = and_right (is_allowed_by affinity home core u) _ is in
      elim (rtds_unit_at domains u) as (λ o. rtds_unit_at domains u ≡ o → (elim o as (λ _. Bool) [ None ↦ false | Some x ↦ nat_lt 0 x.left ]) ≡ true → IsKnown domains u) [
        | None ↦ λ is2 e. absurd (cc)
        | Some x ↦ λ is2 e. record { unit = x; at = is2 }
      ] refl passes

  known_filter : (units : List UnitId) → AllByRecursion (IsKnown domains) (filter test units)
  known_filter [] = tt
  known_filter (u ∷ units) =
      elim (test u) as (λ b. test u ≡ b → AllByRecursion (IsKnown domains) (if b then u ∷ filter test units else filter test units)) [
        | true ↦ λ is. (known_passes u is, known_filter units)
        | false ↦ λ is. known_filter units
      ] refl

  with_record : (u : UnitId) (x : RtdsUnit) → rtds_unit_at domains u ≡ Some x → test u ≡ (is_allowed_by affinity home core u && nat_lt 0 x.left)
  with_record u x at = ap (λ (o : Option RtdsUnit). is_allowed_by affinity home core u && (elim o as (λ _. Bool) [ None ↦ false | Some y ↦ nat_lt 0 y.left ])) at

  -- a spent unit may not have the core
  spent_fails : (e : Queued) → IsSpent domains e → test e.unit ≡ false
  spent_fails e is =
      let none : nat_lt 0 is.unit.left ≡ false = (let l = is.left in grind (arith, nat_tests, l)) in
      with_record e.unit is.unit is.at ∙ ap (λ (b : Bool). is_allowed_by affinity home core e.unit && b) none ∙ and-false (is_allowed_by affinity home core e.unit)

  abbrev passing : List Queued → List UnitId
  passing xs = filter test (map (λ (e : Queued). e.unit) xs)

  passed_over : (e : Queued) → test e.unit ≡ false → (xs : List Queued) → passing (ins e xs) ≡ passing xs
  passed_over e fails [] = ap (λ (b : Bool). if b then e.unit ∷ [] else []) fails
  passed_over e fails (x ∷ xs) =
      elim (nat_lt e.rank x.rank) as (λ b. passing (if b then e ∷ x ∷ xs else x ∷ ins e xs) ≡ passing (x ∷ xs)) [
        | true ↦ ap (λ (b : Bool). if b then e.unit ∷ passing (x ∷ xs) else passing (x ∷ xs)) fails
        | false ↦ elim (test x.unit) as (λ b. (if b then x.unit ∷ passing (ins e xs) else passing (ins e xs)) ≡ (if b then x.unit ∷ passing xs else passing xs)) [
          | true ↦ ap (λ (us : List UnitId). x.unit ∷ us) (passed_over e fails xs)
          | false ↦ passed_over e fails xs
        ]
      ]

  spent_passed : (spent es : List Queued) → AllByRecursion (IsSpent domains) spent → passing (arrival_order (spent ++ es)) ≡ passing (arrival_order es)
  spent_passed [] es each = refl
  spent_passed (e ∷ spent) es each = passed_over e (spent_fails e each.0) (arrival_order (spent ++ es)) ∙ spent_passed spent es each.1

  -- of the eligible units those may whose sets let them
  first_by_mask : (masks : List Cores) → AreMasks affinity masks → (es : List Queued) → AllByRecursion (IsEligible domains) es → AllByRecursion (λ e. (mask_of masks e.unit).0 ≡ unit_cores affinity e.unit) es
      → first_that test es ≡ first_that (λ u. may_run masks (record { 0 = core }) (record { 0 = home }) u) es
  first_by_mask masks are [] each sets = refl
  first_by_mask masks are (e ∷ es) each sets =
      let some : nat_lt 0 each.0.unit.left ≡ true = (let l = each.0.left in grind (arith, nat_tests, l)) in
      let and_true : (b : Bool) → (b && true) ≡ b = λ b. elim b as (λ b. (b && true) ≡ b) [ true ↦ refl | false ↦ refl ] in
      let same : test e.unit ≡ may_run masks (record { 0 = core }) (record { 0 = home }) e.unit =
      with_record e.unit each.0.unit each.0.at ∙ ap (λ (b : Bool). is_allowed_by affinity home core e.unit && b) some ∙ and_true (is_allowed_by affinity home core e.unit) ∙ sym (ap (λ (k : ℕ). is_core_allowed k core home) sets.0) in
      ap (λ (b : Bool). if b then Some e.unit else first_that test es) same
      ∙ ap (λ (o : Option UnitId). if may_run masks (record { 0 = core }) (record { 0 = home }) e.unit then Some e.unit else o) (first_by_mask masks are es each.1 sets.1)

  keys_of : (es : List Queued) → AllByRecursion (IsEligible domains) es → HasKeys (key_in domains) es
  keys_of [] each = tt
  keys_of (e ∷ es) each = (each.0.key ∙ sym (key_is domains e.unit each.0.unit each.0.at), keys_of es each.1)

  -- the first of the queue that may have the core is the one of the least key of all that may
  pub first_waits : (q : Lists) (masks : List Cores) → AreQueued domains q → IsInOrder q.eligible → HasRanks (q.eligible ++ q.spent) → AreMasks affinity masks → AllByRecursion (λ e. (mask_of masks e.unit).0 ≡ unit_cores affinity e.unit) q.eligible
      → first_that (λ u. may_run masks (record { 0 = core }) (record { 0 = home }) u) q.eligible ≡ least_by (key_in domains) None (filter test (queue_of q))
  first_waits q masks queued order ranks are sets =
      sym (first_by_mask masks are q.eligible queued.eligible sets)
      ∙ first_is_least (key_in domains) test q.eligible order (keys_of q.eligible queued.eligible)
      ∙ ap (least_by (key_in domains) None) (sym (spent_passed q.spent q.eligible queued.spent) ∙ ap passing (arrivals_swap q.eligible q.spent ranks))

  -- the one of the least key has a record
  least_known : (best : Option UnitId) (units : List UnitId) → IfSome best (IsKnown domains) → AllByRecursion (IsKnown domains) units → IfSome (least_by (key_in domains) best units) (IsKnown domains)
  least_known best [] known each = known
  least_known None (u ∷ units) known each = least_known (Some u) units each.0 each.1
  least_known (Some best) (u ∷ units) known each =
      elim (is_lesser_key (key_in domains u) (key_in domains best)) as (λ b. IfSome (least_by (key_in domains) (Some (if b then u else best)) units) (IsKnown domains)) [
        | true ↦ least_known (Some u) units each.0 each.1
        | false ↦ least_known (Some best) units known each.1
      ]

  -- a scan of all that may have the core ends at the core's own or at the first
  pub scan_of_first : (own : Option UnitId) (units : List UnitId) (first : Option UnitId) → IfSome own (IsKnown domains) → first ≡ least_by (key_in domains) None (filter test units)
      → first_of_units domains own (list_of first) ≡ first_of_units domains own (filter test units)
  scan_of_first None units first known is =
      ap (λ (o : Option UnitId). first_of_units domains None (list_of o)) is ∙ of_listed (least_by (key_in domains) None (filter test units)) ∙ sym (foremost_is_least domains None (filter test units) tt (known_filter units))
    where
      of_listed : (o : Option UnitId) → first_of_units domains None (list_of o) ≡ o
      of_listed None = refl
      of_listed (Some u) = refl
  scan_of_first (Some own) units first known is =
      let least : Option UnitId = least_by (key_in domains) None (filter test units) in
      ap (λ (o : Option UnitId). first_of_units domains (Some own) (list_of o)) is
      ∙ of_listed least (least_known None (filter test units) tt (known_filter units))
      ∙ sym (least_by_own (key_in domains) own (filter test units))
      ∙ sym (foremost_is_least domains (Some own) (filter test units) known (known_filter units))
    where
      of_listed : (o : Option UnitId) → IfSome o (IsKnown domains) → first_of_units domains (Some own) (list_of o) ≡ Some (own_or (key_in domains) own o)
      of_listed None k = refl
      of_listed (Some u) k = ap (λ (b : Bool). Some (if b then u else own)) (before_by_key domains u own k known)

  -- whether some unit may have the core
  any_waits : (units : List UnitId) → list_any test units ≡ is_some (least_by (key_in domains) None (filter test units))
  any_waits [] = refl
  any_waits (u ∷ units) =
      elim (test u) as (λ b. (b || list_any test units) ≡ is_some (least_by (key_in domains) None (if b then u ∷ filter test units else filter test units))) [
        | true ↦ sym (stays_some u (filter test units))
        | false ↦ any_waits units
      ]
    where
      stays_some : (best : UnitId) (units : List UnitId) → is_some (least_by (key_in domains) (Some best) units) ≡ true
      stays_some best [] = refl
      stays_some best (u ∷ units) = stays_some (if is_lesser_key (key_in domains u) (key_in domains best) then u else best) units

  pub some_first : (units : List UnitId) (first : Option UnitId) → first ≡ least_by (key_in domains) None (filter test units) → is_some first ≡ list_any test units
  some_first units first is = ap is_some is ∙ sym (any_waits units)

  -- whether the least key, or that of the best so far, is less than the core's own
  abbrev is_ahead : Option UnitId → UnitId → Bool
  is_ahead None own = false
  is_ahead (Some u) own = is_lesser_key (key_in domains u) (key_in domains own)

  any_less : (own best : UnitId) (units : List UnitId) → (is_lesser_key (key_in domains best) (key_in domains own) || list_any (λ u. is_lesser_key (key_in domains u) (key_in domains own)) units) ≡ is_ahead (least_by (key_in domains) (Some best) units) own
  any_less own best [] = or-false (is_lesser_key (key_in domains best) (key_in domains own))
  any_less own best (u ∷ units) =
      let rest : List UnitId → Bool = list_any (λ w. is_lesser_key (key_in domains w) (key_in domains own)) in
      elim (cases_Bool (is_lesser_key (key_in domains u) (key_in domains best))) [
        | inl less ↦
            elim (cases_Bool (is_lesser_key (key_in domains best) (key_in domains own))) [
              | inl ahead ↦
                  let both_ahead : is_lesser_key (key_in domains u) (key_in domains own) ≡ true = less_trans (key_in domains u) (key_in domains best) (key_in domains own) less ahead in
                  ap (λ (b : Bool). b || (is_lesser_key (key_in domains u) (key_in domains own) || rest units)) ahead
                  ∙ sym (ap (λ (b : Bool). b || rest units) both_ahead)
                  ∙ any_less own u units
                  ∙ sym (ap (λ (b : Bool). is_ahead (least_by (key_in domains) (Some (if b then u else best)) units) own) less)
              | inr behind ↦
                  ap (λ (b : Bool). b || (is_lesser_key (key_in domains u) (key_in domains own) || rest units)) behind
                  ∙ any_less own u units
                  ∙ sym (ap (λ (b : Bool). is_ahead (least_by (key_in domains) (Some (if b then u else best)) units) own) less)
            ]
        | inr not_less ↦
            elim (cases_Bool (is_lesser_key (key_in domains best) (key_in domains own))) [
              | inl ahead ↦
                  ap (λ (b : Bool). b || (is_lesser_key (key_in domains u) (key_in domains own) || rest units)) ahead
                  ∙ sym (ap (λ (b : Bool). b || rest units) ahead)
                  ∙ any_less own best units
                  ∙ sym (ap (λ (b : Bool). is_ahead (least_by (key_in domains) (Some (if b then u else best)) units) own) not_less)
              | inr behind ↦
                  let both_behind : is_lesser_key (key_in domains u) (key_in domains own) ≡ false = less_back (key_in domains u) (key_in domains best) (key_in domains own) not_less behind in
                  ap (λ (b : Bool). is_lesser_key (key_in domains best) (key_in domains own) || (b || rest units)) both_behind
                  ∙ any_less own best units
                  ∙ sym (ap (λ (b : Bool). is_ahead (least_by (key_in domains) (Some (if b then u else best)) units) own) not_less)
            ]
      ]

  -- whether some that may have the core goes before the core's own
  any_ahead : (own : UnitId) (units : List UnitId) → list_any (λ u. is_lesser_key (key_in domains u) (key_in domains own)) units ≡ is_ahead (least_by (key_in domains) None units) own
  any_ahead own [] = refl
  any_ahead own (u ∷ units) = any_less own u units

  before_any : (own : UnitId) (units : List UnitId) → IsKnown domains own
      → list_any (λ u. test u && is_unit_before domains u own) units ≡ list_any (λ u. is_lesser_key (key_in domains u) (key_in domains own)) (filter test units)
  before_any own [] known = refl
  before_any own (u ∷ units) known =
      let rest = before_any own units known in
      elim (test u) as (λ b. test u ≡ b → ((b && is_unit_before domains u own) || list_any (λ w. test w && is_unit_before domains w own) units) ≡ list_any (λ w. is_lesser_key (key_in domains w) (key_in domains own)) (if b then u ∷ filter test units else filter test units)) [
        | true ↦ λ is. ap (λ (b : Bool). b || list_any (λ w. test w && is_unit_before domains w own) units) (before_by_key domains u own (known_passes u is) known) ∙ ap (λ (b : Bool). is_lesser_key (key_in domains u) (key_in domains own) || b) rest
        | false ↦ λ is. rest
      ] refl

  -- some that may have the core goes before the core's own exactly where the first does
  pub first_ahead : (own : UnitId) (units : List UnitId) (first : Option UnitId) → IsKnown domains own → first ≡ least_by (key_in domains) None (filter test units)
      → is_waiting_first domains first own ≡ list_any (λ u. test u && is_unit_before domains u own) units
  first_ahead own units first known is =
      let least : Option UnitId = least_by (key_in domains) None (filter test units) in
      ap (λ (o : Option UnitId). is_waiting_first domains o own) is
      ∙ of_first least (least_known None (filter test units) tt (known_filter units))
      ∙ sym (any_ahead own (filter test units))
      ∙ sym (before_any own units known)
    where
      of_first : (o : Option UnitId) → IfSome o (IsKnown domains) → is_waiting_first domains o own ≡ is_ahead o own
      of_first None k = refl
      of_first (Some u) k = before_by_key domains u own k known
