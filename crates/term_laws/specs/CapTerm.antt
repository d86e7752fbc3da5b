-- The terms of a domain's cap, and the time for which its units are on cores in one.
use Rattle.std.specs.Prelude.{ℕ, suc, ◌+◌, ◌-◌, ◌==◌, ◌&&◌, ◌||◌, ◌≡◌, ◌≤◌, Bool, true, false, not, List, [], ◌∷◌, Option, Some, None, Ok, Err, is_some, nat_lt, slice_get, map, if◌then◌else◌}
use Rattle.std.specs.List.{list_any}
use Rattle.sched_base.specs.Credit2Numbers.{cap_budget}
use Rattle.sched_model.specs.declared.command.Command.{Command}
use Rattle.sched_model.specs.declared.command.Command.TheVariants as command
use Rattle.sched_model.specs.declared.event.Event.{Event}
use Rattle.sched_model.specs.declared.event.Event.TheVariants as event
use Rattle.sched_model.specs.declared.event.Entry.{Entry}
use Rattle.sched_model.specs.declared.machine.Machine.{Machine}
use Rattle.sched_model.specs.declared.work.CommandLine.{CommandLine}
use Rattle.sched_model.specs.declared.state.State.{State}
use Rattle.sched_model.specs.declared.state.Credit2Domain.{Credit2Domain}
use Rattle.sched_model.specs.Places.{at_place}
use Rattle.sched_model.specs.Policy.{domain_credit2_record}
use Rattle.sched_model.specs.Opening.{opening}
use Rattle.sched_model.specs.Actions.{home_pool_of_domain}
use Rattle.sched_model.specs.Commands.{meant_domain}
use Rattle.term_laws.specs.Term.{Leg, Term, late_of, leg_from, moves, meets, time_on, late_within}

-- Entries are numbered from 0, in their order. What is said of before and after is said of these numbers, since several entries have one moment.

-- a leg of a unit on a core, with the numbers of the decisions at which it begins and ends; the second is the count of all entries where it is open
pub record PlacedLeg : Type 0 where
  pub leg : Leg
  pub first : ℕ
  pub last : ℕ

-- the number of the core's next decision, where the first of these entries has the number n; else the count of all
abbrev pub next_decision : ℕ → ℕ → List Entry → ℕ
next_decision r n [] = n
next_decision r n (entry ∷ entries) = elim (late_of r entry.event) [ Some late ↦ n | None ↦ next_decision r (suc n) entries ]

-- the core, where the event is its decision for a unit of the domain
abbrev pub taken_for : ℕ → Event → Option ℕ
taken_for d (event.Decide r unit due late reset) = elim unit [ None ↦ None | Some u ↦ (if u.dom.0 == d then Some r.0 else None) ]
taken_for d _ = None

-- the legs of the domain's units in entries that lead to the state s, the first of them with the number n
abbrev pub domain_legs : State → ℕ → ℕ → List Entry → List PlacedLeg
domain_legs s d n [] = []
domain_legs s d n (entry ∷ entries) =
    elim (taken_for d entry.event) [
      | Some r ↦ record { leg = leg_from s r entry.at.0 entries; first = n; last = next_decision r (suc n) entries } ∷ domain_legs s d (suc n) entries
      | None ↦ domain_legs s d (suc n) entries
    ]

-- the cap that a command gives the domain
abbrev pub cap_in_command : Machine → ℕ → Command → Option ℕ
cap_in_command m d (command.Credit2Dom which weight cap) = elim (meant_domain m which) [ None ↦ None | Some named ↦ (if named == d then cap else None) ]
cap_in_command m d _ = None

-- the cap that a line of the workload gives the domain
abbrev pub cap_in_line : Machine → ℕ → CommandLine → Option ℕ
cap_in_line m d line = elim line.command [ Err fault ↦ None | Ok command ↦ cap_in_command m d command ]

-- the cap that the event sets for the domain: it is an accepted command of the workload, whose lines are numbered from 1
abbrev pub cap_set : Machine → ℕ → Event → Option ℕ
cap_set m d (event.Xl k (Ok reply)) = elim (slice_get m.work.commands (k - 1)) [ None ↦ None | Some line ↦ cap_in_line m d line ]
cap_set m d _ = None

-- the numbers of the entries that set the domain's cap
abbrev pub settings : Machine → ℕ → ℕ → List Entry → List ℕ
settings m d n [] = []
settings m d n (entry ∷ entries) = elim (cap_set m d entry.event) [ Some cap ↦ n ∷ settings m d (suc n) entries | None ↦ settings m d (suc n) entries ]

-- whether the event refills the domain's budget
abbrev pub refills : ℕ → Event → Bool
refills d (event.Refill domain periods budget) = domain.0 == d
refills d _ = false

-- whether a term of the domain's cap ends with the event: a refill, a setting of the cap, or a move of the domain
abbrev pub ends_term : Machine → ℕ → Event → Bool
ends_term m d e = refills d e || is_some (cap_set m d e) || moves d e

-- the domain's cap after the event; a domain that has moved has none
abbrev pub cap_after : Machine → ℕ → ℕ → Event → ℕ
cap_after m d cap e = elim (cap_set m d e) [ Some given ↦ given | None ↦ (if moves d e then 0 else cap) ]

-- whether a term of the domain's cap begins with the event, where it leaves the domain this cap
abbrev pub begins_term : Machine → ℕ → ℕ → Event → Bool
begins_term m d cap e = (refills d e || is_some (cap_set m d e)) && nat_lt 0 cap

-- a term of a domain's cap, the number of the entry that ends it, which is the count of all where none does, and whether that entry sets the cap
pub record CapTerm : Type 0 where
  pub term : Term
  pub last : ℕ
  pub ends_by_setting : Bool

-- the term that begins at a moment with this cap, where these entries follow, the first with the number n, and lead to the state s: it ends with the
-- next refill, setting of the cap or move of the domain, or it is open now
abbrev pub term_from : Machine → State → ℕ → ℕ → ℕ → ℕ → List Entry → CapTerm
term_from m s d cap from n [] = record { term = record { from = from; until = s.now; budget = cap_budget cap }; last = n; ends_by_setting = false }
term_from m s d cap from n (entry ∷ entries) =
    elim (ends_term m d entry.event) [
      | true ↦ record { term = record { from = from; until = entry.at.0; budget = cap_budget cap }; last = n; ends_by_setting = is_some (cap_set m d entry.event) }
      | false ↦ term_from m s d cap from (suc n) entries
    ]

-- the terms that begin with these entries, where the domain has this cap before them
abbrev pub terms_begun : Machine → State → ℕ → ℕ → ℕ → List Entry → List CapTerm
terms_begun m s d cap n [] = []
terms_begun m s d cap n (entry ∷ entries) =
    let after = cap_after m d cap entry.event in
    elim (begins_term m d after entry.event) [
      | true ↦ term_from m s d after entry.at.0 (suc n) entries ∷ terms_begun m s d after (suc n) entries
      | false ↦ terms_begun m s d after (suc n) entries
    ]

-- the domain's Credit2 record, where it is in a Credit2 pool
abbrev pub credit2_in : State → ℕ → Option Credit2Domain
credit2_in s d = elim (home_pool_of_domain s d) [ None ↦ None | Some i ↦ elim (at_place s.pools i) [ None ↦ None | Some pool ↦ domain_credit2_record pool.scheduler.records d ] ]

-- the cap with which the domain begins
abbrev pub first_cap : Machine → ℕ → ℕ
first_cap m d = elim (credit2_in (opening m) d) [ None ↦ 0 | Some x ↦ x.cap ]

-- the terms of the domain's cap in entries that lead to the state s: the first begins at the opening, where the domain has a cap then
abbrev pub cap_terms : Machine → State → ℕ → List Entry → List CapTerm
cap_terms m s d entries =
    let cap = first_cap m d in
    elim (nat_lt 0 cap) [
      | true ↦ term_from m s d cap 0 0 entries ∷ terms_begun m s d cap 0 entries
      | false ↦ terms_begun m s d cap 0 entries
    ]

-- whether one of these settings of the cap comes within the leg, and after the entry that ends the term
abbrev pub is_set_after : List ℕ → CapTerm → PlacedLeg → Bool
is_set_after set t placed = list_any (λ n. nat_lt t.last n && nat_lt placed.first n && nat_lt n placed.last) set

-- whether the term is spoken of: no setting of the cap ends it, and none comes after it within a leg that meets it. (A setting makes the cores that
-- run the domain's units due at once, so what was late of their legs before is forgotten.)
abbrev pub is_undisturbed : List ℕ → List PlacedLeg → CapTerm → Bool
is_undisturbed set placed t = not t.ends_by_setting && not (list_any (λ p. meets t.term p.leg && is_set_after set t p) placed)

-- the legs alone
abbrev pub spans : List PlacedLeg → List Leg
spans placed = map (λ (p : PlacedLeg). p.leg) placed

-- the domain's units together are on cores within the term for the budget of the cap at most, and for what was late: the ends of the legs that meet it
abbrev pub KeepsCap : List ℕ → List PlacedLeg → CapTerm → Type 0
KeepsCap set placed t = is_undisturbed set placed t ≡ true → time_on t.term (spans placed) ≤ t.term.budget + late_within t.term (spans placed)
