-- What a decision leaves to the cores of its pool, from a few facts of each scheduler.
use Rattle.std.proofs.Common.{◌≡◌, ◌≢◌, ◌≤◌, ◌+◌, ◌-◌, ◌*◌, ℕ, suc, Bool, true, false, not, List, refl, arith, ap, cond, subst, sym, ◌∙◌, length, ◌⊎◌, inl, inr}
use Rattle.std.specs.Prelude.{Option, Some, None, is_some, ◌&&◌, ◌||◌, option_map, slice_set}
use Rattle.std.specs.List.{list_all}
use Rattle.std.proofs.lemmas.Bool.{cases_Bool}
use Rattle.sched_base.specs.Numbers.{moment, one_if}
use Rattle.sched_base.specs.declared.UnitId.{UnitId}
use Rattle.sched_base.proofs.Bools.{and_false, one_if_most}
use Rattle.sched_model.specs.declared.machine.Machine.{Machine}
use Rattle.sched_model.specs.declared.state.Pool.{Pool}
use Rattle.sched_model.specs.declared.state.Resource.{Resource}
use Rattle.sched_model.specs.declared.state.Stage.TheVariants.{Decided}
use Rattle.sched_model.specs.declared.state.Scheduler.{Scheduler}
use Rattle.sched_model.specs.Places.{at_place, put_at}
use Rattle.sched_model.specs.State.{may_unit_run}
use Rattle.sched_model.specs.EligibleUnits.{Decision}
use Rattle.sched_model.specs.Pool as pools
use Rattle.sched_model.specs.Pool.{pool_core_set, is_held_back, is_gathering, decided_core, same_choice}
use Rattle.sched_laws.proofs.Counts.{same_unit_refl}
use Rattle.sched_laws.proofs.EachPlace.{by_option, by_test}
use Rattle.sched_laws.proofs.OnePlace.{same_choice_same}
use Rattle.moment_laws.specs.Stretches.{cores, units}
use Rattle.moment_laws.specs.Turns.{how_many, weight_of, chances, changes_left, meeting, is_stirred, is_secure, ahead}
use Rattle.moment_laws.proofs.Sums.{many, many_is, many_none, how_many_all, weighs_less, weighs_no_more}
use Rattle.moment_laws.proofs.Changed.{Falls, under, changed}
use Rattle.moment_laws.proofs.Meetings.{meeting_open, meeting_decided, meeting_most, cond_most}
use Rattle.moment_laws.specs.GoodDecisions as good

-- the core after its decision
decided_parts : (t : ℕ) (decision : Decision) (c : Resource)
    → ((decided_core t decision c).processors ≡ c.processors) × (is_gathering (decided_core t decision c) ≡ false) × ((decided_core t decision c).cur ≡ decision.unit) × ((decided_core t decision c).leaving ≡ c.leaving) × ((decided_core t decision c).pending ≡ false)
decided_parts t decision c =
    by_test (λ (x : Resource). (x.processors ≡ c.processors) × (is_gathering x ≡ false) × (x.cur ≡ decision.unit) × (x.leaving ≡ c.leaving) × (x.pending ≡ false)) (same_choice decision.unit c.cur) _ _
    (λ is. (refl, refl, sym (same_choice_same decision.unit c.cur is), refl, refl)) (λ is. (refl, refl, refl, refl, refl))

stirred_less : (pending leaving a b : Bool) → (a ≡ true → b ≡ true) → (pending || (not leaving && a)) ≡ true → (pending || (not leaving && b)) ≡ true
stirred_less true leaving a b to is = refl
stirred_less false true a b to is = absurd (cc)
stirred_less false false a b to is = to is

cond_less : (a b : Bool) (n : ℕ) → (a ≡ true → b ≡ true) → cond a n 0 ≤ cond b n 0
cond_less true true n to = omega arith
cond_less true false n to = absurd (let e = to refl in cc)
cond_less false b n to = omega arith

-- a core that is stirred only where it was
meeting_less : (g : ℕ) (stirred stirred2 : Bool) (c : Resource) → (stirred2 ≡ true → stirred ≡ true) → meeting g stirred2 c ≤ meeting g stirred c
meeting_less g stirred stirred2 c to =
    let n : ℕ = 2 * g + 1 in
    elim (is_gathering c) as (λ b. elim b as (λ _. ℕ) [ true ↦ cond stirred2 (n - how_many is_held_back c.processors) 0 | false ↦ how_many is_held_back c.processors + cond stirred2 n 0 ] ≤ elim b as (λ _. ℕ) [ true ↦ cond stirred (n - how_many is_held_back c.processors) 0 | false ↦ how_many is_held_back c.processors + cond stirred n 0 ]) [
      | true ↦ cond_less stirred2 stirred (n - how_many is_held_back c.processors) to
      | false ↦ (let a = cond_less stirred2 stirred n to in omega (arith, a))
    ]

cond_two : (b : Bool) (x n : ℕ) → x ≤ n → cond b x (suc n) ≤ suc n
cond_two true x n le = omega (arith, le)
cond_two false x n le = omega arith

module _ (m : Machine) (t : ℕ) (pool : Pool) (r : ℕ) (c : Resource) where
  abbrev decision : Decision
  decision = good.decision m t pool r c

  abbrev next : Scheduler
  next = good.next m t pool r c

  abbrev left : Resource
  left = good.left m t pool r c

  abbrev Secure : ℕ → UnitId → Type 0
  Secure = good.Secure m t pool r c

  abbrev SecureThen : ℕ → UnitId → Type 0
  SecureThen = good.SecureThen m t pool r c

  abbrev waits : ℕ → Resource → Scheduler → Bool
  waits = good.waits m t pool r c

  abbrev StirsNone : Type 0
  StirsNone = good.StirsNone m t pool r c

  abbrev DecidesWell : Type 0
  DecidesWell = good.DecidesWell m t pool r c

  -- how often a core may change its unit, under a scheduler
  abbrev chances_under : Scheduler → ℕ → Resource → ℕ
  chances_under scheduler k x = chances (units m) (may_unit_run m.config.granularity pool) t (pool_core_set pool) scheduler k x

  chances_none : (scheduler : Scheduler) (k : ℕ) (x : Resource) → x.cur ≡ None → chances_under scheduler k x ≡ cond (x.leaving && x.pending) (suc (units m)) (units m)
  chances_none scheduler k x is = ap (λ (o : Option UnitId). elim o as (λ _. ℕ) [ None ↦ cond (x.leaving && x.pending) (suc (units m)) (units m) | Some u ↦ cond (not x.leaving && is_secure (may_unit_run m.config.granularity pool) t (pool_core_set pool) scheduler k u) (ahead scheduler.records u) (suc (units m)) ]) is

  chances_some : (scheduler : Scheduler) (k : ℕ) (x : Resource) (u : UnitId) → x.cur ≡ Some u → chances_under scheduler k x ≡ cond (not x.leaving && is_secure (may_unit_run m.config.granularity pool) t (pool_core_set pool) scheduler k u) (ahead scheduler.records u) (suc (units m))
  chances_some scheduler k x u is = ap (λ (o : Option UnitId). elim o as (λ _. ℕ) [ None ↦ cond (x.leaving && x.pending) (suc (units m)) (units m) | Some w ↦ cond (not x.leaving && is_secure (may_unit_run m.config.granularity pool) t (pool_core_set pool) scheduler k w) (ahead scheduler.records w) (suc (units m)) ]) is

  -- the core lost no chance and stirs none, or lost one
  abbrev Outcome : Type 0
  Outcome = ((same_choice decision.unit c.cur ≡ true) × (chances_under next r left ≤ chances_under pool.scheduler r c) × StirsNone) ⊎ (chances_under next r left + 1 ≤ chances_under pool.scheduler r c)

  none_now : decision.unit ≡ None → chances_under next r left ≡ units m
  none_now is =
      let parts = decided_parts t decision c in
      let a = chances_none next r left (parts.2 ∙ is) in
      let b : (left.leaving && left.pending) ≡ false = ap (λ p. left.leaving && p) parts.4 ∙ and_false left.leaving in
      a ∙ ap (λ p. cond p (suc (units m)) (units m)) b

  some_now : (w : UnitId) → decision.unit ≡ Some w → c.leaving ≡ false → SecureThen r w → chances_under next r left ≡ ahead next.records w
  some_now w is stays secure =
      let parts = decided_parts t decision c in
      let a = chances_some next r left w (parts.2 ∙ is) in
      let b : (not left.leaving && is_secure (may_unit_run m.config.granularity pool) t (pool_core_set pool) next r w) ≡ true = (let e : left.leaving ≡ false = parts.3 ∙ stays in ap (λ l. not l && is_secure (may_unit_run m.config.granularity pool) t (pool_core_set pool) next r w) e ∙ secure) in
      a ∙ ap (λ p. cond p (ahead next.records w) (suc (units m))) b

  leaving_now : c.leaving ≡ true → c.pending ≡ true → chances_under pool.scheduler r c ≡ suc (units m)
  leaving_now goes pending =
      by_option (λ (n : ℕ). n ≡ suc (units m)) c.cur (cond (c.leaving && c.pending) (suc (units m)) (units m)) (λ u. cond (not c.leaving && is_secure (may_unit_run m.config.granularity pool) t (pool_core_set pool) pool.scheduler r u) (ahead pool.scheduler.records u) (suc (units m)))
      (λ is. ap (λ l. cond (l && c.pending) (suc (units m)) (units m)) goes ∙ ap (λ p. cond p (suc (units m)) (units m)) pending)
      (λ u is. ap (λ l. cond (not l && is_secure (may_unit_run m.config.granularity pool) t (pool_core_set pool) pool.scheduler r u) (ahead pool.scheduler.records u) (suc (units m))) goes)

  idle_before : c.leaving ≡ false → c.cur ≡ None → chances_under pool.scheduler r c ≡ units m
  idle_before stays is = chances_none pool.scheduler r c is ∙ ap (λ l. cond (l && c.pending) (suc (units m)) (units m)) stays

  secure_before : (u : UnitId) → c.leaving ≡ false → c.cur ≡ Some u → Secure r u → chances_under pool.scheduler r c ≡ ahead pool.scheduler.records u
  secure_before u stays is secure =
      chances_some pool.scheduler r c u is
      ∙ ap (λ l. cond (not l && is_secure (may_unit_run m.config.granularity pool) t (pool_core_set pool) pool.scheduler r u) (ahead pool.scheduler.records u) (suc (units m))) stays
      ∙ ap (λ p. cond p (ahead pool.scheduler.records u) (suc (units m))) secure

  unsafe_before : (u : UnitId) → c.leaving ≡ false → c.cur ≡ Some u → is_secure (may_unit_run m.config.granularity pool) t (pool_core_set pool) pool.scheduler r u ≡ false → chances_under pool.scheduler r c ≡ suc (units m)
  unsafe_before u stays is unsafe =
      chances_some pool.scheduler r c u is
      ∙ ap (λ l. cond (not l && is_secure (may_unit_run m.config.granularity pool) t (pool_core_set pool) pool.scheduler r u) (ahead pool.scheduler.records u) (suc (units m))) stays
      ∙ ap (λ p. cond p (ahead pool.scheduler.records u) (suc (units m))) unsafe

  outcome : c.pending ≡ true → DecidesWell → Outcome
  outcome pending well = elim (cases_Bool c.leaving) [
    | inl goes ↦ inr (let a = none_now (well.leaves goes) in let b = leaving_now goes pending in omega (arith, a, b))
    | inr stays ↦ by_unit stays decision.unit refl c.cur refl
  ]
    where
      same_self : (u : UnitId) → same_choice (Some u) (Some u) ≡ true
      same_self u = same_unit_refl u

      by_secure : c.leaving ≡ false → (w : UnitId) → decision.unit ≡ Some w → (u : UnitId) → c.cur ≡ Some u → Secure r u → Outcome
      by_secure stays w is u cur secure =
          let k = well.kept stays u cur secure in
          let chosen = well.chosen stays w is in
          let now = some_now w is stays chosen.0 in
          let before = secure_before u stays cur secure in
          let e : k.0 ≡ w = (let x = k.1 in cc) in
          elim k.2 [
            | inl stay ↦ (
                let w_is : w ≡ u = sym e ∙ stay.0 in
                let le = stay.1 in
                let now2 : chances_under next r left ≡ ahead next.records u = now ∙ ap (λ x. ahead next.records x) w_is in
                inl (ap (λ x. same_choice x c.cur) is ∙ ap (λ x. same_choice (Some w) x) cur ∙ ap (λ x. same_choice (Some w) (Some x)) (sym w_is) ∙ same_self w, omega (arith, now2, before, le), stay.2))
            | inr less ↦ inr (let less2 : ahead next.records w + 1 ≤ ahead pool.scheduler.records u = subst (λ x. ahead next.records x + 1 ≤ ahead pool.scheduler.records u) e less in omega (arith, now, before, less2))
          ]

      by_unit : c.leaving ≡ false → (unit : Option UnitId) → decision.unit ≡ unit → (cur : Option UnitId) → c.cur ≡ cur → Outcome
      by_unit stays None is None cur = inl (ap (λ x. same_choice x c.cur) is ∙ ap (λ x. same_choice None x) cur, (let a = none_now is in let b = idle_before stays cur in omega (arith, a, b)), well.idle stays cur is)
      by_unit stays None is (Some u) cur = elim (cases_Bool (is_secure (may_unit_run m.config.granularity pool) t (pool_core_set pool) pool.scheduler r u)) [
        | inl secure ↦ absurd (let k = well.kept stays u cur secure in let e : None ≡ Some k.0 = sym is ∙ k.1 in cc)
        | inr unsafe ↦ inr (let a = none_now is in let b = unsafe_before u stays cur unsafe in omega (arith, a, b))
      ]
      by_unit stays (Some w) is None cur = inr (let chosen = well.chosen stays w is in let now = some_now w is stays chosen.0 in let b = idle_before stays cur in let low = chosen.1 in omega (arith, now, b, low))
      by_unit stays (Some w) is (Some u) cur = elim (cases_Bool (is_secure (may_unit_run m.config.granularity pool) t (pool_core_set pool) pool.scheduler r u)) [
        | inl secure ↦ by_secure stays w is u cur secure
        | inr unsafe ↦ inr (let chosen = well.chosen stays w is in let now = some_now w is stays chosen.0 in let b = unsafe_before u stays cur unsafe in let low = chosen.1 in omega (arith, now, b, low))
      ]

  -- the other cores lose no chance
  others_chances : DecidesWell → (k : ℕ) (x : Resource) → k ≢ r → at_place pool.resources k ≡ Some x → chances_under next k x ≤ chances_under pool.scheduler k x
  others_chances well k x other at = by_cur x.cur refl
    where
      secure_or : (u : UnitId) → x.cur ≡ Some u → (b : Bool) → is_secure (may_unit_run m.config.granularity pool) t (pool_core_set pool) pool.scheduler k u ≡ b → (l : Bool) → x.leaving ≡ l → chances_under next k x ≤ chances_under pool.scheduler k x
      secure_or u cur true secure false stays =
          let o = well.others k x u other at cur secure in
          let a = chances_some next k x u cur ∙ ap (λ l. cond (not l && is_secure (may_unit_run m.config.granularity pool) t (pool_core_set pool) next k u) (ahead next.records u) (suc (units m))) stays ∙ ap (λ p. cond p (ahead next.records u) (suc (units m))) o.0 in
          let b = chances_some pool.scheduler k x u cur ∙ ap (λ l. cond (not l && is_secure (may_unit_run m.config.granularity pool) t (pool_core_set pool) pool.scheduler k u) (ahead pool.scheduler.records u) (suc (units m))) stays ∙ ap (λ p. cond p (ahead pool.scheduler.records u) (suc (units m))) secure in
          let le = o.1 in
          omega (arith, a, b, le)
      secure_or u cur false unsafe false stays =
          let b = chances_some pool.scheduler k x u cur ∙ ap (λ l. cond (not l && is_secure (may_unit_run m.config.granularity pool) t (pool_core_set pool) pool.scheduler k u) (ahead pool.scheduler.records u) (suc (units m))) stays ∙ ap (λ p. cond p (ahead pool.scheduler.records u) (suc (units m))) unsafe in
          let a = chances_some next k x u cur in
          let low = well.few u in
          let most = cond_two (not x.leaving && is_secure (may_unit_run m.config.granularity pool) t (pool_core_set pool) next k u) (ahead next.records u) (units m) low in
          omega (arith, a, b, most)
      secure_or u cur b is true goes =
          let a = chances_some next k x u cur ∙ ap (λ l. cond (not l && is_secure (may_unit_run m.config.granularity pool) t (pool_core_set pool) next k u) (ahead next.records u) (suc (units m))) goes in
          let b = chances_some pool.scheduler k x u cur ∙ ap (λ l. cond (not l && is_secure (may_unit_run m.config.granularity pool) t (pool_core_set pool) pool.scheduler k u) (ahead pool.scheduler.records u) (suc (units m))) goes in
          omega (arith, a, b)

      by_cur : (cur : Option UnitId) → x.cur ≡ cur → chances_under next k x ≤ chances_under pool.scheduler k x
      by_cur None cur = (let a = chances_none next k x cur in let b = chances_none pool.scheduler k x cur in omega (arith, a, b))
      by_cur (Some u) cur = secure_or u cur (is_secure (may_unit_run m.config.granularity pool) t (pool_core_set pool) pool.scheduler k u) refl x.leaving refl

  meeting_before : c.pending ≡ true → is_gathering c ≡ true → list_all is_held_back c.processors ≡ true → length c.processors ≡ m.config.granularity → meeting m.config.granularity (is_stirred t (pool_core_set pool) pool.scheduler r c) c ≡ m.config.granularity + 1
  meeting_before pending gathers all whole =
      let g : ℕ = m.config.granularity in
      let a = meeting_open g (is_stirred t (pool_core_set pool) pool.scheduler r c) c gathers in
      let stirred : is_stirred t (pool_core_set pool) pool.scheduler r c ≡ true = (rw pending refl) in
      let held = how_many_all is_held_back c.processors all in
      let b = ap (λ s. cond s (2 * g + 1 - how_many is_held_back c.processors) 0) stirred in
      let e = a ∙ b in
      omega (arith, e, held, whole)

  meeting_after : (stirred : Bool) → list_all is_held_back c.processors ≡ true → length c.processors ≡ m.config.granularity → meeting m.config.granularity stirred left ≡ m.config.granularity + cond stirred (2 * m.config.granularity + 1) 0
  meeting_after stirred all whole =
      let g : ℕ = m.config.granularity in
      let parts = decided_parts t decision c in
      let a = meeting_decided g stirred left parts.1 in
      let same : how_many is_held_back left.processors ≡ how_many is_held_back c.processors = ap (λ ps. how_many is_held_back ps) parts.0 in
      let held = how_many_all is_held_back c.processors all in
      omega (arith, a, same, held, whole)

  -- what the decision leaves to the cores
  pub decide_falls : c.pending ≡ true → is_gathering c ≡ true → list_all is_held_back c.processors ≡ true → length c.processors ≡ m.config.granularity → at_place pool.resources r ≡ Some c → DecidesWell → Falls m t pool (pools.after_decide m.config.granularity t r c pool) r
  decide_falls pending gathers all whole at well =
      let put : slice_set pool.resources r (option_map (λ (x : Resource). left) (at_place pool.resources r)) ≡ put_at r left pool.resources = ap (λ (o : Option Resource). slice_set pool.resources r (option_map (λ (x : Resource). left) o)) at in
      subst (λ (cs : List (Option Resource)). Falls m t pool (record pool { scheduler = next; resources = cs }) r) put
      (elim (outcome pending well) [
        | inl stays ↦ changed m t pool next pool.domains r 0 (λ x. left) c at (λ u. refl) (own_stays stays.0 stays.1 stays.2) (λ k x other at_k. others_stay k x other at_k (others_chances well k x other at_k) stays.2)
        | inr less ↦ changed m t pool next pool.domains r (2 * m.config.granularity + 1) (λ x. left) c at (λ u. refl) (own_less less) (λ k x other at_k. others_less k x (others_chances well k x other at_k))
      ])
    where
      g : ℕ
      g = m.config.granularity

      own_stays : same_choice decision.unit c.cur ≡ true → chances_under next r left ≤ chances_under pool.scheduler r c → StirsNone → under m t pool next r left + (many (cores m) 0 + 1) ≤ under m t pool pool.scheduler r c + 0
      own_stays same chances calm =
          let stay : Resource = record c { due = decision.due; pending = false; stage = Decided } in
          let is : left ≡ stay = ap (λ b. elim b as (λ _. Resource) [ true ↦ stay | false ↦ record c { saving = c.cur; cur = decision.unit; since = moment t; due = decision.due; pending = false; stage = Decided } ]) same in
          let saves : one_if (is_some left.saving) ≡ one_if (is_some c.saving) = ap (λ (x : Resource). one_if (is_some x.saving)) is in
          let stirred : is_stirred t (pool_core_set pool) next r left ≡ false = ap (λ (x : Resource). is_stirred t (pool_core_set pool) next r x) is ∙ ap (λ b. not c.leaving && b) calm.own ∙ and_false (not c.leaving) in
          let weighs = weighs_no_more (weight_of m) (changes_left (units m) (may_unit_run m.config.granularity pool) t (pool_core_set pool) next r left) (changes_left (units m) (may_unit_run m.config.granularity pool) t (pool_core_set pool) pool.scheduler r c) (omega (arith, chances, saves)) in
          let before = meeting_before pending gathers all whole in
          let after = meeting_after (is_stirred t (pool_core_set pool) next r left) all whole in
          let none : cond (is_stirred t (pool_core_set pool) next r left) (2 * m.config.granularity + 1) 0 ≡ 0 = ap (λ b. cond b (2 * m.config.granularity + 1) 0) stirred in
          let pays = many_none (cores m) in
          omega (arith, weighs, before, after, none, pays)

      others_stay : (k : ℕ) (x : Resource) → k ≢ r → at_place pool.resources k ≡ Some x → chances_under next k x ≤ chances_under pool.scheduler k x → StirsNone → under m t pool next k x ≤ under m t pool pool.scheduler k x + 0
      others_stay k x other at_k chances calm =
          let weighs = weighs_no_more (weight_of m) (changes_left (units m) (may_unit_run m.config.granularity pool) t (pool_core_set pool) next k x) (changes_left (units m) (may_unit_run m.config.granularity pool) t (pool_core_set pool) pool.scheduler k x) (omega (arith, chances)) in
          let meets = meeting_less m.config.granularity (is_stirred t (pool_core_set pool) pool.scheduler k x) (is_stirred t (pool_core_set pool) next k x) x (stirred_less x.pending x.leaving (waits k x next) (waits k x pool.scheduler) (calm.others k x other at_k)) in
          omega (arith, weighs, meets)

      own_less : chances_under next r left + 1 ≤ chances_under pool.scheduler r c → under m t pool next r left + (many (cores m) (2 * m.config.granularity + 1) + 1) ≤ under m t pool pool.scheduler r c + (2 * m.config.granularity + 1)
      own_less less =
          let saves = one_if_most (is_some left.saving) in
          let down : changes_left (units m) (may_unit_run m.config.granularity pool) t (pool_core_set pool) next r left + 1 ≤ changes_left (units m) (may_unit_run m.config.granularity pool) t (pool_core_set pool) pool.scheduler r c = omega (arith, less, saves) in
          let weighs = weighs_less (weight_of m) _ _ down in
          let before = meeting_before pending gathers all whole in
          let after = meeting_after (is_stirred t (pool_core_set pool) next r left) all whole in
          let most = cond_most (is_stirred t (pool_core_set pool) next r left) (2 * m.config.granularity + 1) in
          let pays = many_is (cores m) (2 * m.config.granularity + 1) in
          omega (arith, weighs, before, after, most, pays)

      others_less : (k : ℕ) (x : Resource) → chances_under next k x ≤ chances_under pool.scheduler k x → under m t pool next k x ≤ under m t pool pool.scheduler k x + (2 * m.config.granularity + 1)
      others_less k x chances =
          let weighs = weighs_no_more (weight_of m) (changes_left (units m) (may_unit_run m.config.granularity pool) t (pool_core_set pool) next k x) (changes_left (units m) (may_unit_run m.config.granularity pool) t (pool_core_set pool) pool.scheduler k x) (omega (arith, chances)) in
          let meets = meeting_most m.config.granularity (is_stirred t (pool_core_set pool) pool.scheduler k x) (is_stirred t (pool_core_set pool) next k x) x in
          omega (arith, weighs, meets)
