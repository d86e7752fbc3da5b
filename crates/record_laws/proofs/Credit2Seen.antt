-- The records of a Credit2 pool after a decision: one change of each domain.
use Rattle.std.proofs.Common.{◌≡◌, ℕ, zero, suc, List, [], ◌∷◌, refl, ap, sym, ◌∙◌, cond}
use Rattle.std.specs.Prelude.{Option, Some, None, option_map, map, fold, max, slice_get, ◌==◌}
use Rattle.sched_base.specs.Credit2Numbers.{raised_credit}
use Rattle.sched_base.specs.declared.UnitId.{UnitId}
use Rattle.sched_model.specs.declared.ask.Ask.{Ask}
use Rattle.sched_model.specs.declared.state.Scheduler.{Scheduler}
use Rattle.sched_model.specs.declared.state.Credit2Unit.{Credit2Unit}
use Rattle.sched_model.specs.declared.state.Credit2Domain.{Credit2Domain}
use Rattle.sched_model.specs.declared.state.Credit2Records.{Credit2Records}
use Rattle.sched_model.specs.declared.state.Records.TheVariants.{Credit2Pool}
use Rattle.sched_model.specs.Places.{at_place, change_each, change_item, numbered_items}
use Rattle.sched_model.specs.Credit2.{most_weight, burned_unit, burned_domain, change_domain, domain_after_return, own_burned_records, reset_records, reset_count, domain_after_take, running_records, off_records, credit2_decision_for}
use Rattle.sched_laws.proofs.EachPlace.{by_cond, by_option}
use Rattle.sched_laws.proofs.Sound.{change_at-twice}
use Rattle.record_laws.specs.Decisions.{number_in, own_charged, was_reset, has_taken, now_from, taken_domain, chosen_domain, decided_domain}
use Rattle.record_laws.proofs.Changes.{each_seen, each_same, each_each, change_is}

abbrev Domains : Type 0
Domains = List (Option Credit2Domain)

module _ (t : ℕ) where
  pub burn_is : (cur : Option UnitId) (own : Credit2Records) → (own_burned_records cur t own).domains ≡ change_each 0 (λ d. own_charged (most_weight own) t (number_in d cur)) own.domains
  burn_is None own = sym (each_same 0 (λ d (x : Credit2Domain). x) own.domains (λ d x. refl))
  burn_is (Some u) own =
      let most : ℕ = most_weight own in
      change_at-twice u.dom.0 (λ (x : Credit2Domain). cond (x.cap == 0) x (domain_after_return u.n x)) (λ (x : Credit2Domain). record x { units = change_item u.n (burned_unit most t x) x.units }) own.domains
      ∙ change_is u.dom.0 u.n (own_charged most t (Some u.n)) (own_charged most t) own.domains (λ x. refl) (λ x. refl)

  pub reset_is : (k : ℕ) (own : Credit2Records) → (reset_records t k own).domains ≡ change_each 0 (λ d. was_reset (most_weight own) t k) own.domains
  reset_is zero own = sym (each_same 0 (λ d (x : Credit2Domain). x) own.domains (λ d x. refl))
  reset_is (suc k) own =
      each_each 0 (λ d (x : Credit2Domain). record x { units = map (λ (y : Credit2Unit). record y { credit = raised_credit y.credit (suc k) }) x.units }) (λ d. burned_domain (most_weight own) t) own.domains

  pub take_is : (u : UnitId) (own : Credit2Records) → (change_domain u.dom.0 (domain_after_take u.n) own).domains ≡ change_each 0 (λ d. has_taken (number_in d (Some u))) own.domains
  take_is u own = change_is u.dom.0 u.n (domain_after_take u.n) has_taken own.domains (λ x. refl) (λ x. refl)

  pub running_is : (from : Option ℕ) (u : UnitId) (own : Credit2Records) → (running_records from u own).domains ≡ change_each 0 (λ d. now_from from (number_in d (Some u))) own.domains
  running_is from u own = change_is u.dom.0 u.n (now_from from (Some u.n)) (now_from from) own.domains (λ x. refl) (λ x. refl)

  pub off_is : (cur : Option UnitId) (own : Credit2Records) → (off_records cur own).domains ≡ change_each 0 (λ d. now_from None (number_in d cur)) own.domains
  off_is None own = sym (each_same 0 (λ d (x : Credit2Domain). x) own.domains (λ d x. refl))
  off_is (Some w) own = running_is None w own

-- the greatest weight, where no weight changes
weights_same : (n : ℕ) (f : ℕ → Credit2Domain → Credit2Domain) (places : Domains) → ((d : ℕ) (x : Credit2Domain) → (f d x).weight ≡ x.weight)
    → map (λ (e : ℕ × Credit2Domain). e.1.weight) (numbered_items n (change_each n f places)) ≡ map (λ (e : ℕ × Credit2Domain). e.1.weight) (numbered_items n places)
weights_same n f [] same = refl
weights_same n f (None ∷ places) same = weights_same (suc n) f places same
weights_same n f (Some x ∷ places) same = ap (λ w. w ∷ map (λ (e : ℕ × Credit2Domain). e.1.weight) (numbered_items (suc n) (change_each (suc n) f places))) (same n x) ∙ ap (λ ws. x.weight ∷ ws) (weights_same (suc n) f places same)

own_weight : (most t : ℕ) (o : Option ℕ) (x : Credit2Domain) → (own_charged most t o x).weight ≡ x.weight
own_weight most t None x = refl
own_weight most t (Some i) x =
    let burned : Credit2Domain = record x { units = change_item i (burned_unit most t x) x.units } in
    by_cond (λ (y : Credit2Domain). y.weight ≡ x.weight) (x.cap == 0) burned (domain_after_return i burned) (λ is. refl)
    (λ is. by_option (λ (y : Credit2Domain). y.weight ≡ x.weight) (slice_get burned.units i) _ _ (λ none. refl) (λ u some. refl))

pub most_each : (own next : Credit2Records) (f : ℕ → Credit2Domain → Credit2Domain) → next.domains ≡ change_each 0 f own.domains → ((d : ℕ) (x : Credit2Domain) → (f d x).weight ≡ x.weight) → most_weight next ≡ most_weight own
most_each own next f is same = ap (λ (places : Domains). fold max 0 (map (λ (e : ℕ × Credit2Domain). e.1.weight) (numbered_items 0 places))) is ∙ ap (fold max 0) (weights_same 0 f own.domains same)

pub most_stays : (cur : Option UnitId) (t : ℕ) (own : Credit2Records) → most_weight (own_burned_records cur t own) ≡ most_weight own
most_stays cur t own = most_each own (own_burned_records cur t own) _ (burn_is t cur own) (λ d x. own_weight (most_weight own) t (number_in d cur) x)

-- no step sets the rate limit
pub own_limit : (t : ℕ) (cur : Option UnitId) (own : Credit2Records) → (own_burned_records cur t own).limit ≡ own.limit
own_limit t None own = refl
own_limit t (Some u) own = refl

reset_limit : (t k : ℕ) (records : Credit2Records) → (reset_records t k records).limit ≡ records.limit
reset_limit t zero records = refl
reset_limit t (suc k) records = refl

off_limit : (cur : Option UnitId) (records : Credit2Records) → (off_records cur records).limit ≡ records.limit
off_limit None records = refl
off_limit (Some u) records = refl

-- the unit u runs from t on, after k resets
module _ (t : ℕ) (cur : Option UnitId) (own : Credit2Records) where
  abbrev paid : Credit2Records
  paid = own_burned_records cur t own

  -- what its slice is computed from
  abbrev pub taken_by : ℕ → UnitId → Credit2Records
  taken_by k u = change_domain u.dom.0 (domain_after_take u.n) (reset_records t k paid)

  pub taken_by_is : (k : ℕ) (u : UnitId) → (taken_by k u).domains ≡ change_each 0 (λ d. taken_domain (most_weight own) (most_weight paid) t k (number_in d cur) (number_in d (Some u))) own.domains
  taken_by_is k u =
      let first : ℕ → Credit2Domain → Credit2Domain = λ d. own_charged (most_weight own) t (number_in d cur) in
      let second : ℕ → Credit2Domain → Credit2Domain = λ d. was_reset (most_weight paid) t k in
      let third : ℕ → Credit2Domain → Credit2Domain = λ d. has_taken (number_in d (Some u)) in
      take_is t u (reset_records t k paid) ∙ ap (change_each 0 third) (reset_is t k paid ∙ ap (change_each 0 second) (burn_is t cur own) ∙ each_each 0 second first own.domains)
      ∙ each_each 0 third (λ d (x : Credit2Domain). second d (first d x)) own.domains

  abbrev pub ran_by : ℕ → UnitId → Credit2Records
  ran_by k u = running_records (Some t) u (off_records cur (taken_by k u))

  pub ran_by_is : (k : ℕ) (u : UnitId) → (ran_by k u).domains ≡ change_each 0 (λ d. chosen_domain (most_weight own) (most_weight paid) t k (number_in d cur) (number_in d (Some u))) own.domains
  ran_by_is k u =
      let third : ℕ → Credit2Domain → Credit2Domain = λ d. taken_domain (most_weight own) (most_weight paid) t k (number_in d cur) (number_in d (Some u)) in
      let off : ℕ → Credit2Domain → Credit2Domain = λ d. now_from None (number_in d cur) in
      let on : ℕ → Credit2Domain → Credit2Domain = λ d. now_from (Some t) (number_in d (Some u)) in
      running_is t (Some t) u (off_records cur (taken_by k u)) ∙ ap (change_each 0 on) (off_is t cur (taken_by k u) ∙ ap (change_each 0 off) (taken_by_is k u) ∙ each_each 0 off third own.domains)
      ∙ each_each 0 on (λ d (x : Credit2Domain). off d (third d x)) own.domains

  -- no unit runs
  pub idle_is : (off_records cur paid).domains ≡ change_each 0 (λ d. chosen_domain (most_weight own) (most_weight paid) t 0 (number_in d cur) None) own.domains
  idle_is =
      let first : ℕ → Credit2Domain → Credit2Domain = λ d. own_charged (most_weight own) t (number_in d cur) in
      let off : ℕ → Credit2Domain → Credit2Domain = λ d. now_from None (number_in d cur) in
      off_is t cur paid ∙ ap (change_each 0 off) (burn_is t cur own) ∙ each_each 0 off first own.domains

  pub taken_by_limit : (k : ℕ) (u : UnitId) → (taken_by k u).limit ≡ own.limit
  taken_by_limit k u = reset_limit t k paid ∙ own_limit t cur own

  pub ran_by_limit : (k : ℕ) (u : UnitId) → (ran_by k u).limit ≡ own.limit
  ran_by_limit k u = off_limit cur (taken_by k u) ∙ taken_by_limit k u

  pub idle_limit : (off_records cur paid).limit ≡ own.limit
  idle_limit = off_limit cur paid ∙ own_limit t cur own

module _ (ask : Ask) (own : Credit2Records) where
  abbrev t : ℕ
  t = ask.at.0

  abbrev burned : Credit2Records
  burned = own_burned_records ask.cur t own

  -- what the chosen unit's slice is computed from
  abbrev pub taken_records : UnitId → Credit2Records
  taken_records u = taken_by t ask.cur own (reset_count t u burned) u

  -- the records after the decision for a choice
  abbrev pub decided_records : Option UnitId → Credit2Records
  decided_records None = off_records ask.cur burned
  decided_records (Some u) = ran_by t ask.cur own (reset_count t u burned) u

  pub records_decided : (scheduler : Scheduler) (chosen : Option UnitId) → (credit2_decision_for ask scheduler burned chosen).records ≡ Credit2Pool (decided_records chosen)
  records_decided scheduler None = refl
  records_decided scheduler (Some u) = refl

  -- the footprint
  pub decided_domains : (chosen : Option UnitId) → (decided_records chosen).domains ≡ change_each 0 (decided_domain ask own chosen) own.domains
  decided_domains None = idle_is t ask.cur own
  decided_domains (Some u) = ran_by_is t ask.cur own (reset_count t u burned) u

  -- the same, seen at one place
  pub domain_decided : (chosen : Option UnitId) (d : ℕ) → at_place (decided_records chosen).domains d ≡ option_map (decided_domain ask own chosen d) (at_place own.domains d)
  domain_decided chosen d = ap (λ (places : Domains). at_place places d) (decided_domains chosen) ∙ each_seen d (decided_domain ask own chosen) own.domains

  pub domain_burned : (d : ℕ) → at_place burned.domains d ≡ option_map (own_charged (most_weight own) t (number_in d ask.cur)) (at_place own.domains d)
  domain_burned d = ap (λ (places : Domains). at_place places d) (burn_is t ask.cur own) ∙ each_seen d (λ n. own_charged (most_weight own) t (number_in n ask.cur)) own.domains

  pub domain_took : (u : UnitId) (d : ℕ) → at_place (taken_records u).domains d ≡ option_map (taken_domain (most_weight own) (most_weight burned) t (reset_count t u burned) (number_in d ask.cur) (number_in d (Some u))) (at_place own.domains d)
  domain_took u d =
      ap (λ (places : Domains). at_place places d) (taken_by_is t ask.cur own (reset_count t u burned) u)
      ∙ each_seen d (λ n. taken_domain (most_weight own) (most_weight burned) t (reset_count t u burned) (number_in n ask.cur) (number_in n (Some u))) own.domains

  pub taken_limit : (u : UnitId) → (taken_records u).limit ≡ own.limit
  taken_limit u = taken_by_limit t ask.cur own (reset_count t u burned) u

  pub decided_limit : (chosen : Option UnitId) → (decided_records chosen).limit ≡ own.limit
  decided_limit None = idle_limit t ask.cur own
  decided_limit (Some u) = ran_by_limit t ask.cur own (reset_count t u burned) u
