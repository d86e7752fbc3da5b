-- A core of the pool that has a domain decides: what becomes of the domain there.
use Rattle.std.proofs.Common.{◌≡◌, ◌≢◌, ◌<◌, ◌+◌, ℕ, false, refl, ap, subst, sym, ◌∙◌}
use Rattle.std.specs.Prelude.{Option, Some, None, option_map, slice_get, ℤ, pos, ◌+ℤ◌, ◌≤ℤ◌}
use Rattle.std.proofs.Math.Decide.{ℕ_discrete}
use Rattle.sched_base.specs.Numbers.{moment}
use Rattle.sched_model.specs.declared.ask.Ask.{Ask}
use Rattle.sched_model.specs.declared.config.SchedKind.{SchedKind}
use Rattle.sched_model.specs.declared.config.SchedKind.TheVariants as kinds
use Rattle.sched_model.specs.declared.state.Resource.{Resource}
use Rattle.sched_model.specs.declared.state.Stage.TheVariants.{Decided}
use Rattle.sched_model.specs.declared.state.Pool.{Pool}
use Rattle.sched_model.specs.declared.state.Records.{Records}
use Rattle.sched_model.specs.declared.state.Records.TheVariants.{Credit2Pool, RtdsPool, ArincPool, NullPool}
use Rattle.sched_model.specs.declared.state.Credit2Unit.{Credit2Unit}
use Rattle.sched_model.specs.declared.state.Credit2Domain.{Credit2Domain}
use Rattle.sched_model.specs.declared.state.Credit2Records.{Credit2Records}
use Rattle.sched_model.specs.Places.{at_place}
use Rattle.sched_model.specs.EligibleUnits.{Decision}
use Rattle.sched_model.specs.Policy.{decision_of, decision_by, records_kind, domain_credit2_record}
use Rattle.sched_model.specs.Pool.{core_ask, after_decide, decided_core, same_choice, settled_pool, pool_core_set, reconsidered_core}
use Rattle.sched_laws.proofs.EachPlace.{by_test, at_place-change_each}
use Rattle.sched_laws.proofs.OnePlace.{decided_cur}
use Rattle.term_laws.proofs.AtPlaces.{at_place-set_other}
use Rattle.term_laws.proofs.Same.{cur_in}
use Rattle.term_laws.proofs.AtPlaces.{at_place-put_at}
use Rattle.term_laws.proofs.Deciding.{kind_decided}
use Rattle.term_laws.proofs.CapTracks.{Stops, HasLeft, Decides, number_in}
use Rattle.term_laws.proofs.StepsDomain.{ArePast}
use Rattle.term_laws.proofs.StepsRecords.{RecordDecides, PoolDecides, pool_decides}
use Rattle.term_laws.proofs.Same.{due_in}
use Rattle.term_laws.proofs.StepsSame.{Same, same_refl, same_settled}
use Rattle.term_laws.proofs.StepsState.{credit2_pool}
use Rattle.term_laws.proofs.StepsHolds.{OnIt, PoolHolds, on_it_kept}

-- the due of a core after its decision
pub due_decided : (t : ℕ) (d : Decision) (c : Resource) → (decided_core t d c).due ≡ d.due
due_decided t d c =
    by_test (λ (x : Resource). x.due ≡ d.due) (same_choice d.unit c.cur) (record c { due = d.due; pending = false; stage = Decided }) (record c { saving = c.cur; cur = d.unit; since = moment t; due = d.due; pending = false; stage = Decided }) (λ is. refl) (λ is. refl)

-- records of another kind
other_kind : (records : Records) (d : ℕ) (kind : SchedKind) → records_kind records ≡ kind → (kind ≡ kinds.Credit2 → ⊥) → domain_credit2_record records d ≡ None
other_kind (Credit2Pool own) d kind is other = absurd (other (sym is))
other_kind records d kind is other = refl

module _ (g t : ℕ) (n : ℕ) (c : Resource) (p : Pool) (at : at_place p.resources n ≡ Some c) (d : ℕ) where
  abbrev pub the_ask : Ask
  the_ask = core_ask g t p n c

  abbrev pub the_decision : Decision
  the_decision = decision_of (core_ask g t p n c) p.scheduler

  abbrev pub next_pool : Pool
  next_pool = settled_pool t (after_decide g t n c p)

  abbrev pub had : Option ℕ
  had = number_in d c.cur

  abbrev pub has : Option ℕ
  has = number_in d the_decision.unit

  settles : Same d (after_decide g t n c p) next_pool
  settles = same_settled d t (after_decide g t n c p) (after_decide g t n c p) (same_refl d (after_decide g t n c p))

  pub cur_here : cur_in (at_place next_pool.resources n) ≡ the_decision.unit
  cur_here = settles.curs n ∙ ap cur_in (at_place-put_at n (decided_core t the_decision c) c p.resources at) ∙ decided_cur t the_decision c

  pub core_next : (c2 : Resource) × (at_place next_pool.resources n ≡ Some c2)
  core_next =
      let next : Pool = after_decide g t n c p in
      let f : Resource → Resource = reconsidered_core t (pool_core_set next) next.scheduler (0 + n) in
      (f (decided_core t the_decision c), at_place-change_each 0 n (reconsidered_core t (pool_core_set next) next.scheduler) next.resources ∙ ap (option_map f) (at_place-put_at n (decided_core t the_decision c) c p.resources at))

  pub core_there : (k : ℕ) → n ≢ k → at_place (after_decide g t n c p).resources k ≡ at_place p.resources k
  core_there k ne = at_place-set_other n k (Some (decided_core t the_decision c)) p.resources ne

  pub cur_there : (k : ℕ) → n ≢ k → cur_in (at_place next_pool.resources k) ≡ cur_in (at_place p.resources k)
  cur_there k ne = settles.curs k ∙ ap cur_in (core_there k ne)

  -- the dues of the cores that have a unit of the domain
  due_here : (y : Credit2Domain) (j : ℕ) → domain_credit2_record the_decision.records d ≡ Some y → has ≡ Some j → due_in (at_place next_pool.resources n) ≡ the_decision.due
  due_here y j is own =
      settles.dues (y, is) n j (ap (number_in d) (ap cur_in (at_place-put_at n (decided_core t the_decision c) c p.resources at) ∙ decided_cur t the_decision c) ∙ own)
      ∙ ap due_in (at_place-put_at n (decided_core t the_decision c) c p.resources at) ∙ due_decided t the_decision c

  due_there : (y : Credit2Domain) (k j : ℕ) → domain_credit2_record the_decision.records d ≡ Some y → n ≢ k → number_in d (cur_in (at_place p.resources k)) ≡ Some j → due_in (at_place next_pool.resources k) ≡ due_in (at_place p.resources k)
  due_there y k j is ne own = settles.dues (y, is) k j (ap (λ (o : Option Resource). number_in d (cur_in o)) (core_there k ne) ∙ own) ∙ ap due_in (core_there k ne)

  -- what the decision does to the domain's record
  decides_in : (own : Credit2Records) → p.scheduler.records ≡ Credit2Pool own → PoolDecides d t had own the_decision
  decides_in own is = subst (PoolDecides d t had own) (sym (ap (λ (x : Records). decision_by x the_ask p.scheduler) is)) (pool_decides d the_ask p.scheduler own)

  pub none_after : domain_credit2_record p.scheduler.records d ≡ None → domain_credit2_record the_decision.records d ≡ None
  none_after none = go p.scheduler.records refl
    where
      kind : (records : Records) → p.scheduler.records ≡ records → records_kind the_decision.records ≡ records_kind records
      kind records is = kind_decided the_ask p.scheduler ∙ ap records_kind is

      go : (records : Records) → p.scheduler.records ≡ records → domain_credit2_record the_decision.records d ≡ None
      go (Credit2Pool own) is = (let x = decides_in own is in ap (λ (r : Records). domain_credit2_record r d) x.is ∙ x.none (sym (ap (λ (r : Records). domain_credit2_record r d) is) ∙ none))
      go (RtdsPool domains) is = other_kind the_decision.records d kinds.Rtds (kind (RtdsPool domains) is) (λ e. cc)
      go (ArincPool records) is = other_kind the_decision.records d kinds.Arinc653 (kind (ArincPool records) is) (λ e. cc)
      go (NullPool kept) is = other_kind the_decision.records d kinds.Null (kind (NullPool kept) is) (λ e. cc)

  pub some_after : (x : Credit2Domain) → domain_credit2_record p.scheduler.records d ≡ Some x → ArePast t x.units → PoolHolds d p → (y : Credit2Domain) × (domain_credit2_record the_decision.records d ≡ Some y) × RecordDecides d t had has the_decision.due x y
  some_after x is past holds =
      let own = credit2_pool p.scheduler.records d x is in
      let e = decides_in own.0 own.1 in
      let z = e.some x own.2 past (λ i on. (let it = holds x is n i (ap (λ (o : Option Resource). number_in d (cur_in o)) at ∙ on) in (it.stop, it.stops))) in
      (z.0, ap (λ (r : Records). domain_credit2_record r d) e.is ∙ z.1, z.2)

  -- what is known of the pool before, and of the next one
  module _ (past : (x : Credit2Domain) → domain_credit2_record p.scheduler.records d ≡ Some x → ArePast t x.units) (holds : PoolHolds d p)
      (recorded : (y : Credit2Domain) → domain_credit2_record the_decision.records d ≡ Some y → (r j : ℕ) → number_in d (cur_in (at_place next_pool.resources r)) ≡ Some j → (z : Credit2Unit) × (slice_get y.units j ≡ Some z))
      (one : (r k j : ℕ) → number_in d (cur_in (at_place p.resources r)) ≡ Some j → number_in d (cur_in (at_place p.resources k)) ≡ Some j → r ≡ k)
      (one_next : (r k j : ℕ) → number_in d (cur_in (at_place next_pool.resources r)) ≡ Some j → number_in d (cur_in (at_place next_pool.resources k)) ≡ Some j → r ≡ k) where
    -- the records before and now
    decides_known : (x y : Credit2Domain) → domain_credit2_record p.scheduler.records d ≡ Some x → domain_credit2_record the_decision.records d ≡ Some y → RecordDecides d t had has the_decision.due x y
    decides_known x y is_x is =
        let z = some_after x is_x (past x is_x) holds in
        let e1 : Some z.0 ≡ Some y = sym z.1 ∙ is in
        let e2 : z.0 ≡ y = cc in
        subst (RecordDecides d t had has the_decision.due x) e2 z.2

    pub before : (y : Credit2Domain) → domain_credit2_record the_decision.records d ≡ Some y → (x : Credit2Domain) × (domain_credit2_record p.scheduler.records d ≡ Some x) × RecordDecides d t had has the_decision.due x y
    before y is = go (domain_credit2_record p.scheduler.records d) refl
      where
        go : (o : Option Credit2Domain) → domain_credit2_record p.scheduler.records d ≡ o → (x : Credit2Domain) × (domain_credit2_record p.scheduler.records d ≡ Some x) × RecordDecides d t had has the_decision.due x y
        go None none = absurd (let e : None ≡ Some y = sym (none_after none) ∙ is in cc)
        go (Some x) some = (x, some, decides_known x y some is)

    on_here : (j : ℕ) → has ≡ Some j → number_in d (cur_in (at_place next_pool.resources n)) ≡ Some j
    on_here j is = ap (number_in d) cur_here ∙ is

    held_here : (x y : Credit2Domain) (j : ℕ) → domain_credit2_record the_decision.records d ≡ Some y → RecordDecides d t had has the_decision.due x y → has ≡ Some j → OnIt y j the_decision.due
    held_here x y j is dec own =
        let z = recorded y is n j (on_here j own) in
        let w = dec.decides.takes j own z.0 z.1 in
        let due = dec.is_due j own in
        record {
          stop = pos t +ℤ (z.0).held;
          stops = record { unit = z.0; at = z.1; from = t; burned = w.0; sum = refl };
          due = due.0;
          is = due.1;
          low = λ some. (
              let some_x : 0 < x.cap = subst (λ (k : ℕ). 0 < k) dec.decides.cap some in
              subst (λ (h : ℤ). pos due.0 ≤ℤ (pos t +ℤ h)) (sym (w.1 some_x)) (due.2 some_x));
        }

    held_there : (x y : Credit2Domain) (r j : ℕ) → domain_credit2_record p.scheduler.records d ≡ Some x → domain_credit2_record the_decision.records d ≡ Some y → RecordDecides d t had has the_decision.due x y → n ≢ r
        → number_in d (cur_in (at_place next_pool.resources r)) ≡ Some j → OnIt y j (due_in (at_place next_pool.resources r))
    held_there x y r j is_x is dec ne on =
        let on_p : number_in d (cur_in (at_place p.resources r)) ≡ Some j = sym (ap (number_in d) (cur_there r ne)) ∙ on in
        let a = holds x is_x r j on_p in
        let kept = dec.decides.others j (λ own. ne (one n r j (ap (λ (o : Option Resource). number_in d (cur_in o)) at ∙ own) on_p)) (λ own. ne (one_next n r j (on_here j own) on)) in
        on_it_kept x y j (due_in (at_place p.resources r)) (due_in (at_place next_pool.resources r)) dec.decides.cap kept (due_there y r j is ne on_p) a

    pub holds_decided : PoolHolds d next_pool
    holds_decided y is r j on =
        let b = before y is in
        elim (ℕ_discrete n r) [
          | yes e ↦ (
              let own : has ≡ Some j = sym (ap (number_in d) cur_here) ∙ subst (λ k. number_in d (cur_in (at_place next_pool.resources k)) ≡ Some j) (sym e) on in
              subst (λ k. OnIt y j (due_in (at_place next_pool.resources k))) e (subst (OnIt y j) (sym (due_here y j is own)) (held_here b.0 y j is b.2 own)))
          | no ne ↦ held_there b.0 y r j b.1 is b.2 ne on
        ]

    -- the record of a capped domain
    pub capped_decides : (x y : Credit2Domain) → domain_credit2_record p.scheduler.records d ≡ Some x → 0 < x.cap → domain_credit2_record the_decision.records d ≡ Some y → Decides t had has x y
    capped_decides x y is_x some is =
        let dec = decides_known x y is_x is in
        record {
          given = dec.decides.given;
          taken = dec.taken;
          gives_back = dec.decides.gives_back some;
          takes = taken_one dec has refl;
          budget = dec.decides.budget some;
          others = λ k stop no_had no_has stops. (let c = (dec.decides.others k no_had no_has).goes stop stops in subst (Stops y k) (c.2 some) c.1);
        }
      where
        taken_one : (dec : RecordDecides d t had has the_decision.due x y) (o : Option ℕ) → has ≡ o → HasLeft t y dec.taken o
        taken_one dec None own = dec.decides.nothing own
        taken_one dec (Some j) own =
            let z = recorded y is n j (on_here j own) in
            let w = dec.decides.takes j own z.0 z.1 in
            record { unit = z.0; at = z.1; from = t; burned = w.0; sum = ap (λ (h : ℤ). pos t +ℤ h) (w.1 some) }
