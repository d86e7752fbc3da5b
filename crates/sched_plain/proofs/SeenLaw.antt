-- What is known of the events to come stays true over an event, a look, an end of a moment, and what is found anew.
use Rattle.std.proofs.Common.{◌≡◌, ◌≤◌, ◌<◌, ◌/◌, ◌∙◌, ℕ, Bool, true, false, List, refl, sym, ap, subst, arith, inl, inr}
use Rattle.std.specs.Prelude.{Option, Some, None, ◌&&◌, nat_le, not, option_map, replicate, slice_get, slice_set}
use Rattle.std.proofs.Math.Decide.{ℕ_discrete}
use Rattle.sched_base.proofs.Bools.{clash}
use Rattle.sched_model.specs.declared.action.Action.{Action}
use Rattle.sched_model.specs.declared.action.Action.TheVariants.{Moved, DomMoved, Wake, Block, Slice, Repl, Refill, Arrive, Decide, Leave, Save}
use Rattle.sched_model.specs.declared.machine.Machine.{Machine}
use Rattle.sched_model.specs.declared.state.Pool.{Pool}
use Rattle.sched_model.specs.declared.state.Resource.{Resource}
use Rattle.sched_model.specs.declared.state.State.{State}
use Rattle.sched_model.specs.declared.work.CommandLine.{CommandLine}
use Rattle.sched_model.specs.Actions.{IsOfPool}
use Rattle.sched_model.specs.Machine.{has_move_under_way}
use Rattle.sched_model.specs.Places.{at_place}
use Rattle.sched_model.specs.Pool.{after_in, enabled_in, settled_pool}
use Rattle.sched_laws.specs.PoolFacts.{IsKnownPool}
use Rattle.sched_laws.proofs.EachPlace.{at_place-put_at, at_place-put_at_other, place_below}
use Rattle.sched_laws.proofs.Lists.{some_same}
use Rattle.sched_plain.specs.declared.floors.Floors.{Floors}
use Rattle.sched_plain.specs.declared.floors.Outlook.{Outlook}
use Rattle.sched_plain.specs.declared.floors.Waits.{Waits}
use Rattle.sched_plain.specs.KeptFloors.{IsCoreFloorAmong, IsDomainFloorAmong, IsToolQuiet, floor_at, floor_of}
use Rattle.sched_plain.specs.Outlooks.{AreLater, AreSooner, IsSeen, IsSeenIf, IsSeenOver, IsSeenOverIf, IsStill, IsUnseen, looked, passed, seen_after, wait_of}
use Rattle.sched_plain.specs.PoolFloors.{IsOfCore, IsOfDomain}
use Rattle.sched_plain.proofs.FloorLists.{pended_at}
use Rattle.sched_plain.proofs.KeptLaw.{anew, core_anew, domain_anew, event_touched, kept_over, look_lower, look_touched, nothing_kept, nothing_of, touched_lower}
use Rattle.sched_plain.proofs.TouchedEvents.{event_lets}
use Rattle.sched_plain.proofs.TouchedSteps.{look_step}

-- the waits as lists, as floors are
abbrev lists : Waits → Floors
lists waits = record { cores = waits.cores; domains = waits.domains }

-- over an event
module _ (g t : ℕ) (pool : Pool) (action : Action) (some : 0 < g) (known : IsKnownPool g pool) (own : IsOfPool action) (enabled : enabled_in g t pool action ≡ true) where
  abbrev next : Pool
  next = after_in g t pool action

  abbrev settled : Pool
  settled = settled_pool t next

  event_sooner : (outlook : Outlook) → AreSooner g pool next outlook.waits (seen_after g pool action outlook).waits
  event_sooner outlook = record {
    lower = touched_lower g pool action (lists outlook.waits);
    each = λ at other on. elim (event_lets g at t (lists outlook.waits) pool action some known own enabled other on) [
      | inl hit ↦ inl (omega (arith, hit))
      | inr was ↦ inr was
    ];
  }

  -- and a look behind it
  look_sooner : (outlook : Outlook) → AreSooner g pool settled outlook.waits (looked settled.resources (seen_after g pool action outlook)).waits
  look_sooner outlook =
      let cores : List (Option Resource) = settled.resources in
      let middle : Waits = (seen_after g pool action outlook).waits in
      let after : Waits = (looked cores (seen_after g pool action outlook)).waits in
      record {
        lower = λ other. (let a = look_lower g 0 cores (lists middle) other in let b = touched_lower g pool action (lists outlook.waits) other in omega (arith, a, b));
        each = λ at other on. elim (look_step g at (λ b. wait_of g after b ≤ at) t next (λ p c there pends. (let a = pended_at 0 (p / g) cores middle.cores c there pends in omega (arith, a))) other on) [
          | inl hit ↦ inl hit
          | inr was ↦ elim (event_lets g at t (lists outlook.waits) pool action some known own enabled other was) [
            | inl hit ↦ inl (let a = look_lower g 0 cores (lists middle) other in omega (arith, hit, a))
            | inr old ↦ inr old
          ]
        ];
      }

  event_seen : (o : Option Outlook) → IsSeenOverIf g t pool next o (option_map (seen_after g pool action) o)
  event_seen None = tt
  event_seen (Some outlook) = record { floors = event_touched g t pool action some known own enabled outlook.floors; waits = event_sooner outlook; still = refl }

  look_seen : (o : Option Outlook) → IsSeenOverIf g t pool settled o (option_map (looked settled.resources) (option_map (seen_after g pool action) o))
  look_seen None = tt
  look_seen (Some outlook) = record { floors = look_touched g t pool action some known own enabled outlook.floors; waits = look_sooner outlook; still = refl }

  -- the same of what the code has at hand
  pub event_seen_is : (next2 : Pool) (o q : Option Outlook) → next2 ≡ next → q ≡ option_map (seen_after g pool action) o → IsSeenOverIf g t pool next2 o q
  event_seen_is next2 o q is seen =
      subst (λ (x : Option Outlook). IsSeenOverIf g t pool next2 o x) (sym seen) (subst (λ (x : Pool). IsSeenOverIf g t pool x o (option_map (seen_after g pool action) o)) (sym is) (event_seen o))

  pub look_seen_is : (middle next2 : Pool) (cores : List (Option Resource)) (o p q : Option Outlook) → middle ≡ next → next2 ≡ settled_pool t middle → cores ≡ next2.resources → p ≡ option_map (seen_after g pool action) o → q ≡ option_map (looked cores) p
      → IsSeenOverIf g t pool next2 o q
  look_seen_is middle next2 cores o p q first then seen event look =
      let is : next2 ≡ settled = then ∙ ap (settled_pool t) first in
      let all : q ≡ option_map (looked settled.resources) (option_map (seen_after g pool action) o) =
      look ∙ ap (λ (cs : List (Option Resource)). option_map (looked cs) p) (seen ∙ ap (λ (x : Pool). x.resources) is) ∙ ap (λ (x : Option Outlook). option_map (looked settled.resources) x) event in
      subst (λ (x : Option Outlook). IsSeenOverIf g t pool next2 o x) (sym all) (subst (λ (x : Pool). IsSeenOverIf g t pool x o (option_map (looked settled.resources) (option_map (seen_after g pool action) o))) (sym is) (look_seen o))

-- the other pools are as before
later_over : (g i : ℕ) (pools : List (Option Pool)) (pool left : Pool) (before after : Waits) → at_place pools i ≡ Some pool → AreLater g pools before → AreSooner g pool left before after → AreLater g (slice_set pools i (Some left)) after
later_over g i pools pool left before after there later sooner = record {
  each = λ t j p action at on. elim (ℕ_discrete j i) [
    | yes same ↦ (
        let here : at_place (slice_set pools i (Some left)) i ≡ Some p = subst (λ (k : ℕ). at_place (slice_set pools i (Some left)) k ≡ Some p) same at in
        let is : left ≡ p = some_same (sym (at_place-put_at i left pools (place_below pools i pool there)) ∙ here) in
        elim (sooner.each t action (subst (λ (x : Pool). enabled_in g t x action ≡ true) (sym is) on)) [
          | inl low ↦ low
          | inr was ↦ (let a = sooner.lower action in let b = later.each t i pool action there was in omega (arith, a, b))
        ])
    | no other ↦ (let a = sooner.lower action in let b = later.each t j p action (sym (at_place-put_at_other i j left pools other) ∙ at) on in omega (arith, a, b))
  ];
}

module _ (m : Machine) (s : State) where
  abbrev g : ℕ
  g = m.config.granularity

  seen_over : (i : ℕ) (pool left : Pool) (before after : Outlook) → at_place s.pools i ≡ Some pool → IsSeen m s before → IsSeenOver g s.now pool left before after → IsSeen m (record s { pools = slice_set s.pools i (Some left) }) after
  seen_over i pool left before after there seen over = record {
    floors = kept_over g s.now i s.pools pool left before.floors after.floors there seen.floors over.floors;
    waits = later_over g i s.pools pool left before.waits after.waits there seen.waits over.waits;
    still = λ is. (let was = seen.still (sym over.still ∙ is) in record { stall = was.stall; command = was.command; free = was.free });
  }

  pub seen_over_if : (i : ℕ) (pool left : Pool) (before after : Option Outlook) → at_place s.pools i ≡ Some pool → IsSeenIf m s before → IsSeenOverIf g s.now pool left before after → IsSeenIf m (record s { pools = slice_set s.pools i (Some left) }) after
  seen_over_if i pool left before None there seen over = tt
  seen_over_if i pool left None (Some after) there seen over = absurd over
  seen_over_if i pool left (Some before) (Some after) there seen over = seen_over i pool left before after there seen over

  -- where nothing is known
  nothing_later : (waits : Waits) → waits ≡ record { cores = replicate 64 0; domains = replicate 64 0 } → AreLater g s.pools waits
  nothing_later waits is = record { each = λ t i pool action at on. (let a = nothing_of g (lists waits) (ap (λ (w : Waits). w.cores) is) (ap (λ (w : Waits). w.domains) is) action in omega (arith, a)) }

  pub unseen : (o : Option Outlook) → IsUnseen o → IsSeenIf m s o
  unseen None is = tt
  unseen (Some outlook) is = record {
    floors = nothing_kept g s.now s.pools outlook.floors (ap (λ (f : Floors). f.cores) is.0) (ap (λ (f : Floors). f.domains) is.0);
    waits = nothing_later outlook.waits is.1;
    still = λ still. absurd (clash outlook.is_still still is.2);
  }

  -- at a later moment
  pub seen_then : (t : ℕ) (o q : Option Outlook) → q ≡ option_map passed o → IsSeenIf m s o → IsSeenIf m (record s { now = t }) q
  seen_then t o q is seen = subst (IsSeenIf m (record s { now = t })) (sym is) (by o seen)
    where
      by : (o : Option Outlook) → IsSeenIf m s o → IsSeenIf m (record s { now = t }) (option_map passed o)
      by None seen = tt
      by (Some outlook) seen = record {
        floors = nothing_kept g t s.pools (passed outlook).floors refl refl;
        waits = record { each = seen.waits.each };
        still = λ still. absurd (cc);
      }

  -- where a core or a domain was judged anew
  pub core_seen : (r found : ℕ) (outlook : Outlook) (waits : Waits) → IsCoreFloorAmong g s.now s.pools r found → AreLater g s.pools waits → IsSeen m s outlook
      → IsSeen m s (record outlook { floors = record outlook.floors { cores = slice_set outlook.floors.cores r found }; waits = waits })
  core_seen r found outlook waits among later seen = record { floors = core_anew g s.now r found s.pools outlook.floors among seen.floors; waits = later; still = seen.still }

  pub domain_seen : (d found : ℕ) (outlook : Outlook) (waits : Waits) → IsDomainFloorAmong g s.now s.pools d found → AreLater g s.pools waits → IsSeen m s outlook
      → IsSeen m s (record outlook { floors = record outlook.floors { domains = slice_set outlook.floors.domains d found }; waits = waits })
  domain_seen d found outlook waits among later seen = record { floors = domain_anew g s.now d found s.pools outlook.floors among seen.floors; waits = later; still = seen.still }

  -- and where it was asked whether the tool is still
  pub still_seen : (b : Bool) (outlook : Outlook) → (b ≡ true → IsStill m s) → IsSeen m s outlook → IsSeen m s (record outlook { is_still = b })
  still_seen b outlook still seen = record { floors = seen.floors; waits = seen.waits; still = still }

  pub quiet_if_still : IsStill m s → IsToolQuiet m s
  quiet_if_still still = record { stall = still.stall; command = by (slice_get m.work.commands s.next_command) still.command; free = still.free }
    where
      by : (o : Option CommandLine) → elim o as (λ _. Bool) [ None ↦ false | Some line ↦ nat_le line.at.0 s.now ] ≡ false → elim o as (λ _. Bool) [ None ↦ false | Some line ↦ nat_le line.at.0 s.now && not (has_move_under_way s) ] ≡ false
      by None early = refl
      by (Some line) early = ap (λ (b : Bool). b && not (has_move_under_way s)) early

-- an event of a core, or of a domain, by its number
number_of_core : (g r : ℕ) (floors : Floors) (action : Action) → IsOfCore g r action → floor_of g floors action ≡ floor_at floors.cores r
number_of_core g r floors (Moved q) own = ap (floor_at floors.cores) own
number_of_core g r floors (Block p) own = ap (floor_at floors.cores) own
number_of_core g r floors (Slice q) own = ap (floor_at floors.cores) own
number_of_core g r floors (Arrive p) own = ap (floor_at floors.cores) own
number_of_core g r floors (Decide q) own = ap (floor_at floors.cores) own
number_of_core g r floors (Leave p) own = ap (floor_at floors.cores) own
number_of_core g r floors (Save q) own = ap (floor_at floors.cores) own
number_of_core g r floors action own = absurd own

number_of_domain : (g d : ℕ) (floors : Floors) (action : Action) → IsOfDomain d action → floor_of g floors action ≡ floor_at floors.domains d
number_of_domain g d floors (DomMoved e) own = ap (floor_at floors.domains) own
number_of_domain g d floors (Wake v) own = ap (floor_at floors.domains) own
number_of_domain g d floors (Repl u) own = ap (floor_at floors.domains) own
number_of_domain g d floors (Refill e) own = ap (floor_at floors.domains) own
number_of_domain g d floors action own = absurd own

module _ (g t n : ℕ) (pools : List (Option Pool)) (waits : Waits) (later : AreLater g pools waits) where
  -- a wait that is not over
  pub core_not_yet : t < floor_at waits.cores n → IsCoreFloorAmong g t pools n 13
  core_not_yet early = λ i pool at action own on. absurd (let a = later.each t i pool action at on in let b = number_of_core g n (lists waits) action own in omega (arith, a, b, early))

  pub domain_not_yet : t < floor_at waits.domains n → IsDomainFloorAmong g t pools n 13
  domain_not_yet early = λ i pool at action own on. absurd (let a = later.each t i pool action at on in let b = number_of_domain g n (lists waits) action own in omega (arith, a, b, early))

  -- one that is found anew, where no other pool has events of this core or domain
  pub core_awaited : (wait : ℕ) → ((t : ℕ) (i : ℕ) (pool : Pool) → at_place pools i ≡ Some pool → (action : Action) → IsOfCore g n action → enabled_in g t pool action ≡ true → wait ≤ t) → AreLater g pools (record waits { cores = slice_set waits.cores n wait })
  core_awaited wait among = record { each = by }
    where
      by : (at i : ℕ) (pool : Pool) (action : Action) → at_place pools i ≡ Some pool → enabled_in g at pool action ≡ true → wait_of g (record waits { cores = slice_set waits.cores n wait }) action ≤ at
      by at i pool (Moved q) there on = anew waits.cores n wait q.0 at (λ is. among at i pool there (Moved q) is on) (later.each at i pool (Moved q) there on)
      by at i pool (Block p) there on = anew waits.cores n wait (p.0 / g) at (λ is. among at i pool there (Block p) is on) (later.each at i pool (Block p) there on)
      by at i pool (Slice q) there on = anew waits.cores n wait q.0 at (λ is. among at i pool there (Slice q) is on) (later.each at i pool (Slice q) there on)
      by at i pool (Arrive p) there on = anew waits.cores n wait (p.0 / g) at (λ is. among at i pool there (Arrive p) is on) (later.each at i pool (Arrive p) there on)
      by at i pool (Decide q) there on = anew waits.cores n wait q.0 at (λ is. among at i pool there (Decide q) is on) (later.each at i pool (Decide q) there on)
      by at i pool (Leave p) there on = anew waits.cores n wait (p.0 / g) at (λ is. among at i pool there (Leave p) is on) (later.each at i pool (Leave p) there on)
      by at i pool (Save q) there on = anew waits.cores n wait q.0 at (λ is. among at i pool there (Save q) is on) (later.each at i pool (Save q) there on)
      by at i pool action there on = later.each at i pool action there on

  pub domain_awaited : (wait : ℕ) → ((t : ℕ) (i : ℕ) (pool : Pool) → at_place pools i ≡ Some pool → (action : Action) → IsOfDomain n action → enabled_in g t pool action ≡ true → wait ≤ t) → AreLater g pools (record waits { domains = slice_set waits.domains n wait })
  domain_awaited wait among = record { each = by }
    where
      by : (at i : ℕ) (pool : Pool) (action : Action) → at_place pools i ≡ Some pool → enabled_in g at pool action ≡ true → wait_of g (record waits { domains = slice_set waits.domains n wait }) action ≤ at
      by at i pool (DomMoved e) there on = anew waits.domains n wait e.0 at (λ is. among at i pool there (DomMoved e) is on) (later.each at i pool (DomMoved e) there on)
      by at i pool (Wake v) there on = anew waits.domains n wait v.dom.0 at (λ is. among at i pool there (Wake v) is on) (later.each at i pool (Wake v) there on)
      by at i pool (Repl u) there on = anew waits.domains n wait u.dom.0 at (λ is. among at i pool there (Repl u) is on) (later.each at i pool (Repl u) there on)
      by at i pool (Refill e) there on = anew waits.domains n wait e.0 at (λ is. among at i pool there (Refill e) is on) (later.each at i pool (Refill e) there on)
      by at i pool action there on = later.each at i pool action there on
