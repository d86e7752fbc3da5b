-- What each entry of a run does to a capped domain: to its budget, to its units that run, and to the cores that run them.
use Rattle.std.specs.Prelude.{ℕ, ◌+◌, ◌≡◌, ◌≤◌, ◌<◌, true, false, Option, Some, None, slice_get, ℤ, pos, ◌+ℤ◌, ◌-ℤ◌, ◌≤ℤ◌}
use Rattle.sched_base.specs.Numbers.{moment}
use Rattle.sched_base.specs.Credit2Numbers.{positive_part, cap_budget}
use Rattle.sched_base.specs.declared.Moment.{Moment}
use Rattle.sched_model.specs.declared.event.Event.{Event}
use Rattle.sched_model.specs.declared.event.Event.TheVariants as event
use Rattle.sched_model.specs.declared.event.Entry.{Entry}
use Rattle.sched_model.specs.declared.machine.Machine.{Machine}
use Rattle.sched_model.specs.declared.state.State.{State}
use Rattle.sched_model.specs.declared.state.Credit2Unit.{Credit2Unit}
use Rattle.sched_model.specs.declared.state.Credit2Domain.{Credit2Domain}
use Rattle.sched_model.specs.Credit2.{running_budget}
use Rattle.sched_model.specs.Opening.{opening, machine_core_count}
use Rattle.sched_model.specs.Runs.{Reached, IsNext, after_entry}
pub use Rattle.record_laws.specs.Decisions.{number_in}
use Rattle.term_laws.specs.Term.{core_in, late_now, late_of, moves}
use Rattle.term_laws.specs.CapTerm.{cap_set, refills, ends_term, cap_after, credit2_in}

-- the domain's cap, or 0 where it is in no Credit2 pool
abbrev pub cap_at : State → ℕ → ℕ
cap_at s d = elim (credit2_in s d) [ None ↦ 0 | Some x ↦ x.cap ]

-- which of the domain's units the core has; when the core is due
abbrev pub on_core : State → ℕ → ℕ → Option ℕ
on_core s d r = elim (core_in s r) [ None ↦ None | Some c ↦ number_in d c.cur ]

abbrev pub due_at : State → ℕ → Option Moment
due_at s r = elim (core_in s r) [ None ↦ None | Some c ↦ c.due ]

-- which of the domain's units the event is a decision for
abbrev pub decided_for : ℕ → Event → Option ℕ
decided_for d (event.Decide r unit due late reset) = number_in d unit
decided_for d _ = None

-- the domain's unit n runs, and has used up what it holds at this moment: its last charge and what it holds, added up, which no charge changes
pub record Stops (x : Credit2Domain) (n : ℕ) (stop : ℤ) : Type 0 where
  pub unit : Credit2Unit
  pub at : slice_get x.units n ≡ Some unit
  pub from : ℕ
  pub burned : unit.burned ≡ Some from
  pub sum : pos from +ℤ unit.held ≡ stop

-- what a core's unit of the domain has of the budget at t: nothing where there is none, and below 0 where it overran
abbrev pub HasLeft : ℕ → Credit2Domain → ℤ → Option ℕ → Type 0
HasLeft t x left None = left ≡ pos 0
HasLeft t x left (Some n) = Stops x n (pos t +ℤ left)

-- a core decides at t, and the domain's record x becomes y: the core had this unit of the domain, and now has that
pub record Decides (t : ℕ) (had has : Option ℕ) (x y : Credit2Domain) : Type 0 where
  pub given : ℤ
  pub taken : ℤ
  pub gives_back : HasLeft t x given had
  pub takes : HasLeft t y taken has
  pub budget : positive_part y.budget + positive_part taken ≤ positive_part (x.budget +ℤ given)
  pub others : (n : ℕ) (stop : ℤ) → (had ≡ Some n → ⊥) → (has ≡ Some n → ⊥) → Stops x n stop → Stops y n stop

-- the domain is refilled at t: its running units are charged and keep what they hold, and the budget is no more than what they leave of the total
pub record Refills (t : ℕ) (x y : Credit2Domain) : Type 0 where
  pub charged : (n b : ℕ) (z : Credit2Unit) → slice_get y.units n ≡ Some z → z.burned ≡ Some b → b ≡ t
  pub others : (n : ℕ) (stop : ℤ) → Stops x n stop → Stops y n stop
  pub budget : y.budget ≤ℤ (pos (cap_budget y.cap) -ℤ pos (running_budget y))

-- anything else: the budget stays, and running units are charged at most
pub record GoesOn (x y : Credit2Domain) : Type 0 where
  pub budget : y.budget ≡ x.budget
  pub others : (n : ℕ) (stop : ℤ) → Stops x n stop → Stops y n stop

-- what an event does to the domain d, where it leads from the state s to the state s2
pub record EventTracks (m : Machine) (d : ℕ) (e : Event) (s s2 : State) : Type 0 where
  -- a core that does not decide keeps the domain's unit; one that decides prints how late it is, and has the unit that it prints
  pub stays : (r : ℕ) → late_of r e ≡ None → on_core s2 d r ≡ on_core s d r
  pub decides : (r late : ℕ) → late_of r e ≡ Some late → (late ≡ late_now s r) × (on_core s2 d r ≡ decided_for d e)
  -- the cap is the one that was set last, or 0 since a move; no unit of a domain that moves is on a core
  pub cap : cap_at s2 d ≡ cap_after m d (cap_at s d) e
  pub moved : (r : ℕ) → moves d e ≡ true → on_core s d r ≡ None
  -- a setting of the cap makes the budget that of the cap, and running units hold nothing
  pub set_budget : (percent : ℕ) (y : Credit2Domain) → cap_set m d e ≡ Some percent → credit2_in s2 d ≡ Some y → y.budget ≡ pos (cap_budget percent)
  pub set_stops : (percent : ℕ) (y : Credit2Domain) → cap_set m d e ≡ Some percent → credit2_in s2 d ≡ Some y → (n : ℕ) (stop : ℤ) → Stops y n stop → stop ≡ pos s.now
  -- what the other events do to the record of a capped domain
  pub refilled : (x y : Credit2Domain) → refills d e ≡ true → credit2_in s d ≡ Some x → 0 < x.cap → credit2_in s2 d ≡ Some y → Refills s.now x y
  pub decided : (r late : ℕ) (x y : Credit2Domain) → late_of r e ≡ Some late → credit2_in s d ≡ Some x → 0 < x.cap → credit2_in s2 d ≡ Some y → Decides s.now (on_core s d r) (on_core s2 d r) x y
  pub goes : (x y : Credit2Domain) → ends_term m d e ≡ false → ((r : ℕ) → late_of r e ≡ None) → credit2_in s d ≡ Some x → 0 < x.cap → credit2_in s2 d ≡ Some y → GoesOn x y

-- all that is to be shown of the states of runs, of which K is known, and of the steps between them
pub record CapTracks (m : Machine) (d : ℕ) (K : State → Type 0) : Type 0 where
  -- the opening: nobody runs, and the budget is that of the cap
  pub opens : K (opening m)
  pub nobody : (r : ℕ) → on_core (opening m) d r ≡ None
  pub full : (x : Credit2Domain) → credit2_in (opening m) d ≡ Some x → x.budget ≡ pos (cap_budget x.cap)
  -- each state: a core that has a unit is one of the machine; no unit is on two cores; a unit of a capped domain that is on a core runs, and the core is due when what it holds is used up, if not before
  pub low : (s : State) → K s → (r n : ℕ) → on_core s d r ≡ Some n → r < machine_core_count m.config
  pub one : (s : State) → K s → (r k n : ℕ) → on_core s d r ≡ Some n → on_core s d k ≡ Some n → r ≡ k
  pub holds : (s : State) → K s → (x : Credit2Domain) → credit2_in s d ≡ Some x → 0 < x.cap → (r n : ℕ) → on_core s d r ≡ Some n
      → (stop : ℤ) × Stops x n stop × (due : ℕ) × (due_at s r ≡ Some (moment due)) × (pos due ≤ℤ stop)
  -- each step
  pub known : (from : Reached) (entry : Entry) → IsNext m from entry → K from.state → K (after_entry m from entry).state
  pub steps : (from : Reached) (entry : Entry) → IsNext m from entry → K from.state → EventTracks m d entry.event from.state (after_entry m from entry).state
