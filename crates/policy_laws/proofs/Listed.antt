-- The timers of a scheduler as a list: what holds of each that is armed holds of each of the list, and back.
use Rattle.std.proofs.Common.{◌≡◌, ◌+◌, ℕ, zero, suc, Bool, true, false, List, [], ◌∷◌, refl, sym, ◌∙◌, ap, subst, arith, cond}
use Rattle.std.specs.Prelude.{◌||◌, Option, Some, None, is_some, option_map, slice_get}
use Rattle.std.specs.List.{AllByRecursion}
use Rattle.sched_base.specs.Numbers.{moment, domain}
use Rattle.sched_base.specs.declared.Moment.{Moment}
use Rattle.sched_base.specs.declared.UnitId.{UnitId}
use Rattle.sched_model.specs.declared.state.Credit2Domain.{Credit2Domain}
use Rattle.sched_model.specs.declared.state.RtdsUnit.{RtdsUnit}
use Rattle.sched_model.specs.declared.state.Records.{Records}
use Rattle.sched_model.specs.declared.state.Records.TheVariants.{Credit2Pool, RtdsPool, ArincPool, NullPool}
use Rattle.sched_model.specs.declared.state.Scheduler.{Scheduler}
use Rattle.sched_model.specs.Places.{at_place, numbered_items, has_listed_unit}
use Rattle.sched_model.specs.EligibleUnits.{rtds_unit_at}
use Rattle.sched_ops.specs.Conditions.{is_on}
use Rattle.sched_ops.specs.declared.timer.Timer.{Timer}
use Rattle.sched_ops.specs.declared.timer.Timer.TheVariants.{Repl, Refill}
use Rattle.sched_ops.specs.Timers.{Armed, unit_timers, replenishments, refills, timers}
use Rattle.policy_laws.specs.TimerOrder.{armed_at}
use Rattle.policy_laws.proofs.Scan.{each-append}
use Rattle.sched_laws.proofs.Waiting.{parts_of}
use Rattle.sched_base.specs.Units.{unit_id}

-- what holds of each thing and its place holds of all that are numbered, and back
pub to_numbered : {X : Type 0} (P : ℕ × X → Type 0) (n : ℕ) (places : List (Option X)) → ((i m : ℕ) (x : X) → n + i ≡ m → at_place places i ≡ Some x → P (m, x)) → AllByRecursion P (numbered_items n places)
to_numbered P n [] each = tt
to_numbered P n (None ∷ places) each = to_numbered P (suc n) places (λ i m x e at. each (suc i) m x (omega (arith, e)) at)
to_numbered P n (Some y ∷ places) each = (each 0 n y (omega arith) refl, to_numbered P (suc n) places (λ i m x e at. each (suc i) m x (omega (arith, e)) at))

pub of_numbered : {X : Type 0} (P : ℕ × X → Type 0) (n : ℕ) (places : List (Option X)) → AllByRecursion P (numbered_items n places) → (i m : ℕ) (x : X) → n + i ≡ m → at_place places i ≡ Some x → P (m, x)
of_numbered P n [] each i m x e at = absurd (cc)
of_numbered P n (None ∷ places) each zero m x e at = absurd (cc)
of_numbered P n (None ∷ places) each (suc i) m x e at = of_numbered P (suc n) places each i m x (omega (arith, e)) at
of_numbered {X} P n (Some y ∷ places) each zero m x e at =
    let same : y ≡ x = cc in
    let k : n ≡ m = omega (arith, e) in
    subst (λ (j : ℕ). P (j, x)) k (subst (λ (z : X). P (n, z)) same each.0)
of_numbered P n (Some y ∷ places) each (suc i) m x e at = of_numbered P (suc n) places each.1 i m x (omega (arith, e)) at

-- whether the unit waits or is on
abbrev pub is_busy : List UnitId → UnitId → RtdsUnit → Bool
is_busy queue u x = has_listed_unit queue u || is_some x.burned

module _ (P : Armed → Type 0) where
  module _ (queue : List UnitId) where
    -- the units of one domain
    pub to_units : (d n : ℕ) (units : List RtdsUnit) → ((i m : ℕ) (x : RtdsUnit) → n + i ≡ m → slice_get units i ≡ Some x → is_busy queue (unit_id d m) x ≡ true → P (moment x.deadline, Repl (unit_id d m))) → AllByRecursion P (unit_timers queue d n units)
    to_units d n [] each = tt
    to_units d n (y ∷ units) each =
        let rest : AllByRecursion P (unit_timers queue d (suc n) units) = to_units d (suc n) units (λ i m x e get. each (suc i) m x (omega (arith, e)) get) in
        let timers : List Armed = unit_timers queue d (suc n) units in
        elim (is_busy queue (unit_id d n) y) as (λ b. is_busy queue (unit_id d n) y ≡ b → AllByRecursion P (cond b ((moment y.deadline, Repl (unit_id d n)) ∷ timers) timers)) [
          | true ↦ λ on. (each 0 n y (omega arith) refl on, rest)
          | false ↦ λ off. rest
        ] refl

    of_units : (d n : ℕ) (units : List RtdsUnit) → AllByRecursion P (unit_timers queue d n units) → (i m : ℕ) (x : RtdsUnit) → n + i ≡ m → slice_get units i ≡ Some x → is_busy queue (unit_id d m) x ≡ true → P (moment x.deadline, Repl (unit_id d m))
    of_units d n [] each i m x e get on = absurd (cc)
    of_units d n (y ∷ units) each zero m x e get on =
        let same : y ≡ x = cc in
        let k : n ≡ m = omega (arith, e) in
        let on2 : is_busy queue (unit_id d n) y ≡ true = ap (is_busy queue (unit_id d n)) same ∙ ap (λ (j : ℕ). is_busy queue (unit_id d j) x) k ∙ on in
        let timers : List Armed = unit_timers queue d (suc n) units in
        let head : AllByRecursion P ((moment y.deadline, Repl (unit_id d n)) ∷ timers) = subst (λ (b : Bool). AllByRecursion P (cond b ((moment y.deadline, Repl (unit_id d n)) ∷ timers) timers)) on2 each in
        subst (λ (j : ℕ). P (moment x.deadline, Repl (unit_id d j))) k (subst (λ (z : RtdsUnit). P (moment z.deadline, Repl (unit_id d n))) same head.0)
    of_units d n (y ∷ units) each (suc i) m x e get on =
        let timers : List Armed = unit_timers queue d (suc n) units in
        let rest : AllByRecursion P timers =
        elim (is_busy queue (unit_id d n) y) as (λ b. AllByRecursion P (cond b ((moment y.deadline, Repl (unit_id d n)) ∷ timers) timers) → AllByRecursion P timers) [
          | true ↦ λ all. all.1
          | false ↦ λ all. all
        ] each in
        of_units d (suc n) units rest i m x (omega (arith, e)) get on

    -- the units of all these domains
    pub to_replenishments : (domains : List (ℕ × List RtdsUnit)) → AllByRecursion (λ (e : ℕ × List RtdsUnit). AllByRecursion P (unit_timers queue e.0 0 e.1)) domains → AllByRecursion P (replenishments queue domains)
    to_replenishments [] each = tt
    to_replenishments (e ∷ domains) each = each-append P (unit_timers queue e.0 0 e.1) (replenishments queue domains) each.0 (to_replenishments domains each.1)

    of_replenishments : (domains : List (ℕ × List RtdsUnit)) → AllByRecursion P (replenishments queue domains) → AllByRecursion (λ (e : ℕ × List RtdsUnit). AllByRecursion P (unit_timers queue e.0 0 e.1)) domains
    of_replenishments [] each = tt
    of_replenishments (e ∷ domains) each = (let r = parts_of P (unit_timers queue e.0 0 e.1) (replenishments queue domains) each in (r.0, of_replenishments domains r.1))

  -- the refills of these domains
  abbrev pub OfRefill : ℕ × Credit2Domain → Type 0
  OfRefill e = (r : ℕ) → e.1.refill ≡ Some r → P (moment r, Refill (domain e.0))

  pub to_refills : (domains : List (ℕ × Credit2Domain)) → AllByRecursion OfRefill domains → AllByRecursion P (refills domains)
  to_refills [] each = tt
  to_refills (e ∷ domains) each =
      elim e.1.refill as (λ o. e.1.refill ≡ o → AllByRecursion P (elim o as (λ _. List Armed) [ None ↦ refills domains | Some r ↦ (moment r, Refill (domain e.0)) ∷ refills domains ])) [
        | None ↦ λ has. to_refills domains each.1
        | Some r ↦ λ has. (each.0 r has, to_refills domains each.1)
      ] refl

  of_refills : (domains : List (ℕ × Credit2Domain)) → AllByRecursion P (refills domains) → AllByRecursion OfRefill domains
  of_refills [] each = tt
  of_refills (e ∷ domains) each =
      elim e.1.refill as (λ o. e.1.refill ≡ o → AllByRecursion P (elim o as (λ _. List Armed) [ None ↦ refills domains | Some r ↦ (moment r, Refill (domain e.0)) ∷ refills domains ]) → AllByRecursion OfRefill (e ∷ domains)) [
        | None ↦ λ has all. (λ r is. absurd (cc), of_refills domains all)
        | Some s ↦ λ has all. (λ r is. (let same : s ≡ r = cc in subst (λ (k : ℕ). P (moment k, Refill (domain e.0))) same all.0), of_refills domains all.1)
      ] refl each

-- what each RTDS unit and its place give the timer of that unit
unit_there : (domains : List (Option (List RtdsUnit))) (u : UnitId) (units : List RtdsUnit) (x : RtdsUnit) → at_place domains u.dom.0 ≡ Some units → slice_get units u.n ≡ Some x → rtds_unit_at domains u ≡ Some x
unit_there domains u units x at get = ap (λ (o : Option (List RtdsUnit)). elim o as (λ _. Option RtdsUnit) [ None ↦ None | Some us ↦ slice_get us u.n ]) at ∙ get

record IsThere (domains : List (Option (List RtdsUnit))) (u : UnitId) (x : RtdsUnit) : Type 0 where
  units : List RtdsUnit
  at : at_place domains u.dom.0 ≡ Some units
  get : slice_get units u.n ≡ Some x

there_unit : (domains : List (Option (List RtdsUnit))) (u : UnitId) (x : RtdsUnit) → rtds_unit_at domains u ≡ Some x → IsThere domains u x
there_unit domains u x is =
    elim (at_place domains u.dom.0) as (λ o. at_place domains u.dom.0 ≡ o → elim o as (λ _. Option RtdsUnit) [ None ↦ None | Some us ↦ slice_get us u.n ] ≡ Some x → IsThere domains u x) [
      | None ↦ λ at e. absurd (cc)
      | Some units ↦ λ at e. record { units = units; at = at; get = e }
    ] refl is

-- the moment of a unit, from its record
abbrev moment_of : Bool → Option RtdsUnit → Option Moment
moment_of waits o =
    cond (waits || elim o as (λ _. Bool) [ None ↦ false | Some x ↦ is_some x.burned ]) (elim o as (λ _. Option Moment) [ None ↦ None | Some x ↦ Some (moment x.deadline) ]) None

record IsMoment (waits : Bool) (o : Option RtdsUnit) (at : Moment) : Type 0 where
  unit : RtdsUnit
  is : o ≡ Some unit
  on : (waits || is_some unit.burned) ≡ true
  moment : moment unit.deadline ≡ at

some_moment : (waits : Bool) (o : Option RtdsUnit) (at : Moment) → moment_of waits o ≡ Some at → IsMoment waits o at
some_moment true None at is = absurd (cc)
some_moment false None at is = absurd (cc)
some_moment waits (Some x) at is =
    elim (waits || is_some x.burned) as (λ b. (waits || is_some x.burned) ≡ b → cond b (Some (moment x.deadline)) None ≡ Some at → IsMoment waits (Some x) at) [
      | true ↦ λ on e. record { unit = x; is = refl; on = on; moment = cc }
      | false ↦ λ off e. absurd (cc)
    ] refl is

no_moment : (b : Bool) (at : Moment) → cond b None None ≡ Some at → ⊥
no_moment true at is = absurd (cc)
no_moment false at is = absurd (cc)

-- the moment of a domain's refill
some_refill : (o : Option Credit2Domain) (at : Moment) → elim o as (λ _. Option Moment) [ None ↦ None | Some x ↦ option_map moment x.refill ] ≡ Some at → (x : Credit2Domain) × (r : ℕ) × (o ≡ Some x) × (x.refill ≡ Some r) × (moment r ≡ at)
some_refill None at is = absurd (cc)
some_refill (Some x) at is =
    elim x.refill as (λ o. x.refill ≡ o → option_map moment o ≡ Some at → (y : Credit2Domain) × (r : ℕ) × (Some x ≡ Some y) × (y.refill ≡ Some r) × (moment r ≡ at)) [
      | None ↦ λ has e. absurd (cc)
      | Some r ↦ λ has e. (x, r, refl, has, cc)
    ] refl is

module _ (P : Armed → Type 0) (scheduler : Scheduler) where
  abbrev with : Records → Scheduler
  with records = record scheduler { records = records }

  to_list_of : (records : Records) → ((timer : Timer) (at : Moment) → armed_at (with records) timer ≡ Some at → P (at, timer)) → AllByRecursion P (timers (with records))
  to_list_of (Credit2Pool records) each =
      to_refills P (numbered_items 0 records.domains)
      (to_numbered (OfRefill P) 0 records.domains
      (λ i m x e at r has.
      let k : i ≡ m = omega (arith, e) in
      let at2 : at_place records.domains m ≡ Some x = ap (at_place records.domains) (sym k) ∙ at in
      each (Refill (domain m)) (moment r) (ap (λ (o : Option Credit2Domain). elim o as (λ _. Option Moment) [ None ↦ None | Some y ↦ option_map moment y.refill ]) at2 ∙ ap (option_map moment) has)))
  to_list_of (RtdsPool domains) each =
      to_replenishments P scheduler.queue (numbered_items 0 domains)
      (to_numbered (λ (e : ℕ × List RtdsUnit). AllByRecursion P (unit_timers scheduler.queue e.0 0 e.1)) 0 domains
      (λ i m units e at.
      to_units P scheduler.queue m 0 units
      (λ j n x e2 get on.
      let d : i ≡ m = omega (arith, e) in
      let k : j ≡ n = omega (arith, e2) in
      let u : UnitId = unit_id m n in
      let there : rtds_unit_at domains u ≡ Some x = unit_there domains u units x (ap (at_place domains) (sym d) ∙ at) (ap (slice_get units) (sym k) ∙ get) in
      each (Repl u) (moment x.deadline) (ap (moment_of (has_listed_unit scheduler.queue u)) there ∙ ap (λ (b : Bool). cond b (Some (moment x.deadline)) None) on))))
  to_list_of (ArincPool records) each = tt
  to_list_of (NullPool kept) each = tt

  of_list_of : (records : Records) → AllByRecursion P (timers (with records)) → (timer : Timer) (at : Moment) → armed_at (with records) timer ≡ Some at → P (at, timer)
  of_list_of (Credit2Pool records) each (Refill d) at is =
      let f = some_refill (at_place records.domains d.0) at is in
      let all : AllByRecursion (OfRefill P) (numbered_items 0 records.domains) = of_refills P (numbered_items 0 records.domains) each in
      subst (λ (m : Moment). P (m, Refill d)) f.4 (of_numbered (OfRefill P) 0 records.domains all d.0 d.0 f.0 (omega arith) f.2 f.1 f.3)
  of_list_of (RtdsPool domains) each (Repl u) at is =
      let f = some_moment (has_listed_unit scheduler.queue u) (rtds_unit_at domains u) at is in
      let there = there_unit domains u f.unit f.is in
      let all = of_numbered (λ (e : ℕ × List RtdsUnit). AllByRecursion P (unit_timers scheduler.queue e.0 0 e.1)) 0 domains (of_replenishments P scheduler.queue (numbered_items 0 domains) each) u.dom.0 u.dom.0 there.units (omega arith) there.at in
      subst (λ (m : Moment). P (m, Repl u)) f.moment (of_units P scheduler.queue u.dom.0 0 there.units all u.n u.n f.unit (omega arith) there.get f.on)
  of_list_of any each (Repl u) at is = absurd (no_moment (has_listed_unit scheduler.queue u || is_on any u) at is)
  of_list_of records each (Refill d) at is = absurd (cc)

  -- what holds of each armed timer and its moment holds of each of the list, and back
  pub to_list : ((timer : Timer) (at : Moment) → armed_at scheduler timer ≡ Some at → P (at, timer)) → AllByRecursion P (timers scheduler)
  to_list each = to_list_of scheduler.records each

  pub of_list : AllByRecursion P (timers scheduler) → (timer : Timer) (at : Moment) → armed_at scheduler timer ≡ Some at → P (at, timer)
  of_list each = of_list_of scheduler.records each
