use Rattle.std.proofs.Common.{◌∙◌, ap, refl, subst, sym}
use Rattle.sched_model.specs.CheckedMachine.{IsChecked}
use Rattle.journal_core.specs.Histories.{state_at}
use Rattle.machine_parts.proofs.Performing.{first-comes}
use Rattle.lock_moves.specs.Sets.{LockTable}
use Rattle.hall.specs.declared.turns.Turn.{Turn}
use Rattle.hall.specs.declared.turns.Turn.TheVariants as turn
use Rattle.hall.specs.BookTurns.{Turns, TurnIn}
use Rattle.hall.specs.Seats.{Seated, SeatStays}
use Rattle.hall.specs.Turns.{IsTurn, TurnsFull}
use Rattle.hall.proofs.Calls.{call-stays, filled-held, turned-held}
use Rattle.hall.proofs.Counting.{counted-acted, free-seen, turn-begins}
use Rattle.hall.proofs.Parting.{knows-taken}
use Rattle.hall.proofs.Processors.{arrived-inside}
use Rattle.hall.proofs.Turning.{is-step, is-turn, stays-turned}
use Rattle.hall.proofs.hall.Hall.turn_all.Goals as goal

pub turn-requires-clause-knows : goal.turn-requires-clause-knows
turn-requires-clause-knows g c = knows-taken c.take_all-all.result c.take_all-all.new.seat.view c.take_book-book.new.seat.view c.take_book-book.ensures.sees.input c.take_book-book.ensures.locks c.take_book-book.ensures.still c.take_all-all.ensures.knows

pub returns-in-Err-clause-full : goal.returns-in-Err-clause-full
returns-in-Err-clause-full g c =
    let s0 = c.seat.inside.seat in
    let s4 = c.put_all-in-Err.new.seat in
    let book = c.take_book-book.ensures in
    let opened = ap (λ (x : Seated). x.sitting.view.input) c.seat.view_is ∙ c.requires.of.input in
    let checked = subst (λ (x : LockTable). IsChecked x.opened.input) c.self.view_is c.self.invariant.checked in
    let full = c.in-Err.full in
    let told : TurnsFull full s0.view s4.view =
    filled-held c.self.inside.set c.args.self.now c.take_book-book.result s0 c.take_all-all.new.seat c.take_book-book.new.seat c.turn.new.seat s4 c.take_all-all.ensures.keeps book.sees book.has book.current c.put_all-in-Err.ensures.keeps opened checked full c.in-Err.ensures.full in
    subst (λ (x : Seated). TurnsFull full x.sitting.view s4.view) c.seat.view_is told

pub invariant_of-seat : goal.invariant_of-seat
invariant_of-seat g c =
    let s0 = c.seat.inside.seat in
    let s4 = c.put_all.new.seat in
    let book = c.take_book-book.ensures in
    let opened = ap (λ (x : Seated). x.sitting.view.input) c.seat.view_is ∙ c.requires.of.input in
    let checked = subst (λ (x : LockTable). IsChecked x.opened.input) c.self.view_is c.self.invariant.checked in
    let place = c.in-Stepped.place in
    let e = c.in-Stepped.event in
    let decides = c.in-Ok.decides in
    let settled : Turns (turn.Stepped place e) decides c.take_book-book.result c.take_book-book.new.seat c.turn.new.seat =
    subst (λ (t : Turn). Turns t decides c.take_book-book.result c.take_book-book.new.seat c.turn.new.seat) c.in-Stepped.is c.in-Ok.ensures.turn in
    let told : TurnIn (turn.Stepped place e) decides s0.view s4.view =
    turned-held c.self.inside.set c.args.self.now c.take_book-book.result s0 c.take_all-all.new.seat c.take_book-book.new.seat c.turn.new.seat s4 c.take_all-all.ensures.keeps book.sees book.has book.current c.put_all.ensures.keeps opened checked (turn.Stepped place e) decides settled in
    record {
      nothing = c.put_all.ensures.nothing;
      processor = arrived-inside s0.view s4.view place e told.0 (subst IsChecked (sym opened) checked) told.1.added told.1.action (first-comes s0.view.input (state_at s0.view.input told.0) told.1.action told.1.first) told.1.is_event
          (c.put_all.ensures.keeps.input ∙ settled.adds.entered.input ∙ book.sees.input ∙ c.take_all-all.ensures.keeps.input) c.seat.inside.arrived c.arrived_after-seat-inside.result (c.arrived_after-seat-inside.ensures s0.view.input.config.granularity told.0 told.2) c.seat.invariant.processor;
      counted = counted-acted place e told.0 s0.view s4.view c.seat.inside.arrived c.arrived_after-seat-inside.result told.1.added
          (c.put_all.ensures.keeps.input ∙ settled.adds.entered.input ∙ book.sees.input ∙ c.take_all-all.ensures.keeps.input) (c.arrived_after-seat-inside.ensures s0.view.input.config.granularity told.0 told.2) c.seat.invariant.counted;
    }

pub returns-in-Stepped-clause-turn : goal.returns-in-Stepped-clause-turn
returns-in-Stepped-clause-turn g c =
    let s0 = c.seat.inside.seat in
    let s4 = c.put_all.new.seat in
    let book = c.take_book-book.ensures in
    let opened = ap (λ (x : Seated). x.sitting.view.input) c.seat.view_is ∙ c.requires.of.input in
    let checked = subst (λ (x : LockTable). IsChecked x.opened.input) c.self.view_is c.self.invariant.checked in
    let place = c.in-Stepped.place in
    let e = c.in-Stepped.event in
    let decides = c.in-Ok.decides in
    let settled : Turns (turn.Stepped place e) decides c.take_book-book.result c.take_book-book.new.seat c.turn.new.seat =
    subst (λ (t : Turn). Turns t decides c.take_book-book.result c.take_book-book.new.seat c.turn.new.seat) c.in-Stepped.is c.in-Ok.ensures.turn in
    let told : TurnIn (turn.Stepped place e) decides s0.view s4.view =
    turned-held c.self.inside.set c.args.self.now c.take_book-book.result s0 c.take_all-all.new.seat c.take_book-book.new.seat c.turn.new.seat s4 c.take_all-all.ensures.keeps book.sees book.has book.current c.put_all.ensures.keeps opened checked (turn.Stepped place e) decides settled in
    let new : Seated = record { sitting = s4; arrived = c.arrived_after-seat-inside.result } in
    subst (λ (x : Seated). IsTurn (turn.Stepped place e) x new) c.seat.view_is
    (is-step place e decides (record { sitting = s0; arrived = c.seat.inside.arrived }) new told (λ before counted. c.arrived_after-seat-inside.ensures s0.view.input.config.granularity before counted))

pub returns-in_default : goal.returns-in_default
returns-in_default g c =
    let b = c.take_book-book.result in
    let s0 = c.seat.inside.seat in
    let s1 = c.take_all-all.new.seat in
    let s2 = c.take_book-book.new.seat in
    let s3 = c.turn.new.seat in
    let s4 = c.put_all.new.seat in
    let took = c.take_all-all.ensures.keeps in
    let gave = c.put_all.ensures.keeps in
    let book = c.take_book-book.ensures in
    let opened = ap (λ (x : Seated). x.sitting.view.input) c.seat.view_is ∙ c.requires.of.input in
    let checked = subst (λ (x : LockTable). IsChecked x.opened.input) c.self.view_is c.self.invariant.checked in
    let t = c.in-Ok.turn in
    let decides = c.in-Ok.decides in
    let settled : Turns t decides b s2 s3 = c.in-Ok.ensures.turn in
    let told : TurnIn t decides s0.view s4.view = turned-held c.self.inside.set c.args.self.now b s0 s1 s2 s3 s4 took book.sees book.has book.current gave opened checked t decides settled in
    let new : Seated = record { sitting = s4; arrived = c.seat.inside.arrived } in
    record {
      stays = subst (λ (x : Seated). SeatStays x.sitting s4) c.seat.view_is (call-stays b s0 s1 s2 s3 s4 took book.sees (stays-turned t decides b s2 s3 settled) gave);
      turn = subst (λ (x : Seated). IsTurn t x new) c.seat.view_is (is-turn t decides (record { sitting = s0; arrived = c.seat.inside.arrived }) new told (λ place e is. c.in_default.not-Stepped place e is) refl);
      full = tt;
      kept = tt;
    }

pub invariant_of-seat-in_default : goal.invariant_of-seat-in_default
invariant_of-seat-in_default g c =
    let s0 = c.seat.inside.seat in
    let s4 = c.put_all.new.seat in
    let book = c.take_book-book.ensures in
    let opened = ap (λ (x : Seated). x.sitting.view.input) c.seat.view_is ∙ c.requires.of.input in
    let checked = subst (λ (x : LockTable). IsChecked x.opened.input) c.self.view_is c.self.invariant.checked in
    let t = c.in-Ok.turn in
    let decides = c.in-Ok.decides in
    let told : TurnIn t decides s0.view s4.view =
    turned-held c.self.inside.set c.args.self.now c.take_book-book.result s0 c.take_all-all.new.seat c.take_book-book.new.seat c.turn.new.seat s4 c.take_all-all.ensures.keeps book.sees book.has book.current c.put_all.ensures.keeps opened checked t decides c.in-Ok.ensures.turn in
    let stays = call-stays c.take_book-book.result s0 c.take_all-all.new.seat c.take_book-book.new.seat c.turn.new.seat s4 c.take_all-all.ensures.keeps book.sees (stays-turned t decides c.take_book-book.result c.take_book-book.new.seat c.turn.new.seat c.in-Ok.ensures.turn) c.put_all.ensures.keeps in
    free-seen s0 s4 c.seat.inside.arrived c.seat.invariant c.put_all.ensures.nothing stays.input (turn-begins t decides s0.view s4.view told)

pub invariant_of-seat-in-Err : goal.invariant_of-seat-in-Err
invariant_of-seat-in-Err g c =
    let s0 = c.seat.inside.seat in
    let s4 = c.put_all-in-Err.new.seat in
    let book = c.take_book-book.ensures in
    let opened = ap (λ (x : Seated). x.sitting.view.input) c.seat.view_is ∙ c.requires.of.input in
    let checked = subst (λ (x : LockTable). IsChecked x.opened.input) c.self.view_is c.self.invariant.checked in
    let full = c.in-Err.full in
    let told : TurnsFull full s0.view s4.view =
    filled-held c.self.inside.set c.args.self.now c.take_book-book.result s0 c.take_all-all.new.seat c.take_book-book.new.seat c.turn.new.seat s4 c.take_all-all.ensures.keeps book.sees book.has book.current c.put_all-in-Err.ensures.keeps opened checked full c.in-Err.ensures.full in
    let input = c.put_all-in-Err.ensures.keeps.input ∙ c.in-Err.ensures.full.finds.keeps.input ∙ book.sees.input ∙ c.take_all-all.ensures.keeps.input in
    free-seen s0 s4 c.seat.inside.arrived c.seat.invariant c.put_all-in-Err.ensures.nothing input told.looked.begins
