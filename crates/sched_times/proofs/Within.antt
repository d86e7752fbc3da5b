-- The numbers of tallies stay within the time that is counted.
use Rattle.std.proofs.Common.{◌≡◌, ℕ, ◌+◌, ◌-◌, Bool, true, false, not, cond, List, length, sym, subst, arith, ◌∙◌, inl, inr, refl}
use Rattle.std.specs.Prelude.{Option, Some, None, is_some, ◌&&◌, slice_set}
use Rattle.std.proofs.lemmas.Bool.{cases_eq, cases_lt}
use Rattle.std.proofs.lemmas.List.{get_or-set_same, get_or-set_other, set_past, length-set}
use Rattle.sched_times.specs.declared.grant.Grant.{Grant}
use Rattle.sched_times.specs.declared.grant.Sleep.{Sleep}
use Rattle.sched_times.specs.declared.tally.ResourceTally.{ResourceTally}
use Rattle.sched_times.specs.declared.tally.UserTally.{UserTally}
use Rattle.sched_times.specs.Tallies.{unused, awake, resource_at, user_at, open_run, open_wait, given_to, having, sleeping, changed_at, loser, resources_given, users_given, resources_with, users_with, users_slept, ResourceWithin, UserWithin, ResourcesWithin, UsersWithin}

pub user-at-changed : (o : Option ℕ) (f : UserTally → UserTally) (users : List UserTally) (P : ℕ → UserTally → Type 0)
    → ((k : ℕ) → P k (user_at users k)) → ((k : ℕ) → P k (user_at users k) → P k (f (user_at users k))) → (k : ℕ) → P k (user_at (changed_at o f users) k)
user-at-changed None f users P each changed k = each k
user-at-changed (Some j) f users P each changed k = elim (cases_eq k j) [
  | inl e ↦ elim (cases_lt j (length users)) [
    | inl low ↦ subst (λ i. P i (user_at (slice_set users j (f (user_at users j))) i)) (sym e) (subst (P j) (sym (get_or-set_same users j (f (user_at users j)) awake low)) (changed j (each j)))
    | inr high ↦ subst (λ us. P k (user_at us k)) (sym (set_past users j (f (user_at users j)) high)) (each k)
  ]
  | inr apart ↦ subst (P k) (sym (get_or-set_other users j k (f (user_at users j)) awake apart)) (each k)
]

-- what is counted up to now is within now
pub settled-within : (now : ℕ) (has : Option ℕ) (asleep : Bool) (t : UserTally) → UserWithin now t
    → UserWithin now (record { has = has; asleep = asleep; since = now; runs = t.runs + open_run now t; waits = t.waits + open_wait now t })
settled-within now has asleep t w = elim t.has as (λ o. UserWithin now (record { has = has; asleep = asleep; since = now; runs = t.runs + cond (is_some o) (now - t.since) 0; waits = t.waits + cond (not (is_some o) && not t.asleep) (now - t.since) 0 })) [
  | Some r ↦ record { since = omega arith; sums = omega (arith, w.since, w.sums) }
  | None ↦ elim t.asleep as (λ b. UserWithin now (record { has = has; asleep = asleep; since = now; runs = t.runs + 0; waits = t.waits + cond (not b) (now - t.since) 0 })) [
    | true ↦ record { since = omega arith; sums = omega (arith, w.since, w.sums) }
    | false ↦ record { since = omega arith; sums = omega (arith, w.since, w.sums) }
  ]
]

pub having-within : (now : ℕ) (o : Option ℕ) (has : Option ℕ) (users : List UserTally) → UsersWithin now users → UsersWithin now (changed_at o (having has now) users)
having-within now o has users within =
    user-at-changed o (having has now) users (λ k t. UserWithin now t) within (λ k w. settled-within now has (user_at users k).asleep (user_at users k) w)

pub sleeping-within : (now : ℕ) (o : Option ℕ) (asleep : Bool) (users : List UserTally) → UsersWithin now users → UsersWithin now (changed_at o (sleeping asleep now) users)
sleeping-within now o asleep users within =
    user-at-changed o (sleeping asleep now) users (λ k t. UserWithin now t) within (λ k w. settled-within now (user_at users k).has asleep (user_at users k) w)

pub given-within : (now : ℕ) (user : Option ℕ) (t : ResourceTally) → ResourceWithin now t → ResourceWithin now (given_to user now t)
given-within now user t w = elim t.user as (λ o. ResourceWithin now (record { user = user; since = now; used = t.used + cond (is_some o) (now - t.since) 0 })) [
  | Some k ↦ record { since = omega arith; sums = omega (arith, w.since, w.sums) }
  | None ↦ record { since = omega arith; sums = omega (arith, w.since, w.sums) }
]

pub resources_given-within : (g : Grant) (now : ℕ) (resources : List ResourceTally) → ResourcesWithin now resources → ResourcesWithin now (resources_given g now resources)
resources_given-within g now resources within r =
    let y : ResourceTally = given_to g.to now (resource_at resources g.on) in
    elim (cases_eq r g.on) [
      | inl e ↦ elim (cases_lt g.on (length resources)) [
        | inl low ↦ subst (λ i. ResourceWithin now (resource_at (slice_set resources g.on y) i)) (sym e) (subst (ResourceWithin now) (sym (get_or-set_same resources g.on y unused low)) (given-within now g.to (resource_at resources g.on) (within g.on)))
        | inr high ↦ subst (λ rs. ResourceWithin now (resource_at rs r)) (sym (set_past resources g.on y high)) (within r)
      ]
      | inr apart ↦ subst (ResourceWithin now) (sym (get_or-set_other resources g.on r y unused apart)) (within r)
    ]

pub users_given-within : (g : Grant) (now : ℕ) (resources : List ResourceTally) (users : List UserTally) → UsersWithin now users → UsersWithin now (users_given g now resources users)
users_given-within g now resources users within =
    let o : Option ℕ = loser g (resource_at resources g.on).user users in
    having-within now g.to (Some g.on) (changed_at o (having None now) users) (having-within now o None users within)

pub resources_with-within : (o : Option Grant) (now : ℕ) (resources : List ResourceTally) → ResourcesWithin now resources → ResourcesWithin now (resources_with o now resources)
resources_with-within None now resources within = within
resources_with-within (Some g) now resources within = resources_given-within g now resources within

pub users_with-within : (o : Option Grant) (now : ℕ) (resources : List ResourceTally) (users : List UserTally) → UsersWithin now users → UsersWithin now (users_with o now resources users)
users_with-within None now resources users within = within
users_with-within (Some g) now resources users within = users_given-within g now resources users within

pub users_slept-within : (o : Option Sleep) (now : ℕ) (users : List UserTally) → UsersWithin now users → UsersWithin now (users_slept o now users)
users_slept-within None now users within = within
users_slept-within (Some s) now users within = sleeping-within now s.who s.asleep users within

-- no tally is lost
pub length-changed : (o : Option ℕ) (f : UserTally → UserTally) (users : List UserTally) → length (changed_at o f users) ≡ length users
length-changed None f users = refl
length-changed (Some k) f users = length-set users k (f (user_at users k))

pub length-users_with : (o : Option Grant) (now : ℕ) (resources : List ResourceTally) (users : List UserTally) → length (users_with o now resources users) ≡ length users
length-users_with None now resources users = refl
length-users_with (Some g) now resources users =
    let l : Option ℕ = loser g (resource_at resources g.on).user users in
    length-changed g.to (having (Some g.on) now) (changed_at l (having None now) users) ∙ length-changed l (having None now) users

pub length-users_slept : (o : Option Sleep) (now : ℕ) (users : List UserTally) → length (users_slept o now users) ≡ length users
length-users_slept None now users = refl
length-users_slept (Some s) now users = length-changed s.who (sleeping s.asleep now) users

pub length-resources_with : (o : Option Grant) (now : ℕ) (resources : List ResourceTally) → length (resources_with o now resources) ≡ length resources
length-resources_with None now resources = refl
length-resources_with (Some g) now resources = length-set resources g.on (given_to g.to now (resource_at resources g.on))
