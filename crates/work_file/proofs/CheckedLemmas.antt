-- What is read passes the checks with one line more.
use Rattle.std.proofs.Common.{◌≡◌, ℕ, ◌≤◌, ◌≢◌, Bool, true, false, List, [], ◌∷◌, ◌++◌, Some, None, cond, length, refl, sym, arith, nat_lt, length-append, eqb, eq-eqb, OnOk, Result, Ok, Err}
use Rattle.std.specs.List.{All}
use Rattle.std.proofs.lemmas.Bool.{ltb-false}
use Rattle.std.proofs.lemmas.List.Elements.{All-push}
use Rattle.sched_model.specs.CheckedMachine.{IsCheckedStall, IsCheckedCommandLine}
use Rattle.sched_model.specs.declared.config.Config.{Config}
use Rattle.sched_model.specs.declared.work.StallLine.{StallLine}
use Rattle.sched_model.specs.declared.work.CommandLine.{CommandLine}
use Rattle.work_file.specs.declared.fault.WorkCause.TheVariants as cause
use Rattle.work_file.specs.declared.reading.Reading.{Reading}
use Rattle.work_file.specs.Lines.{place_cause}
use Rattle.work_file.specs.Reading.{IsCheckedReading}
use Rattle.work_file.proofs.OrderLemmas.{in_order_push}

-- a line that may stand in its place is not before the last one, and has room
record Stands (last count at : ℕ) : Type 0 where
  pub in_order : last ≤ at
  pub room : count ≢ 4096

stands_by_tests : (last count at : ℕ) (early many : Bool) → early ≡ nat_lt at last → many ≡ eqb count 4096 → cond early (Some cause.Order) (cond many (Some cause.Many) None) ≡ None → Stands last count at
stands_by_tests last count at true many e f h = absurd cc
stands_by_tests last count at false true e f h = absurd cc
stands_by_tests last count at false false e f h = record { in_order = ltb-false _ _ (sym e); room = λ same. (let yes = eq-eqb count 4096 same in let no : ⊥ = cc in no) }

stands : (last count at : ℕ) → place_cause last count at ≡ None → Stands last count at
stands last count at h = stands_by_tests last count at (nat_lt at last) (eqb count 4096) refl refl h

All-later : {X : Type 0} (f : X → ℕ) (m n : ℕ) (xs : List X) → m ≤ n → All (λ x. f x ≤ m) xs → All (λ x. f x ≤ n) xs
All-later f m n xs le all k d l = omega (arith, all k d l)

-- a stall more
pub checked_stall : (config : Config) (r : Reading) (s : StallLine) (n : ℕ) → IsCheckedReading config r → IsCheckedStall config s → place_cause r.last.0 (length r.stalls) s.at.0 ≡ None → IsCheckedReading config (record r { line = n; last = s.at; stalls = r.stalls ++ s ∷ [] })
checked_stall config r s n h good placed =
    let place = stands r.last.0 (length r.stalls) s.at.0 placed in
    let below : All (λ (x : StallLine). x.at.0 ≤ s.at.0) r.stalls = All-later (λ (x : StallLine). x.at.0) r.last.0 s.at.0 r.stalls place.in_order h.stalls_before in
    record {
      work = record {
        few_stalls = omega (arith, h.work.few_stalls, place.room, length-append r.stalls (s ∷ []));
        stalls = All-push (IsCheckedStall config) r.stalls s h.work.stalls good;
        stalls_in_order = in_order_push (λ (x : StallLine). x.at.0) r.stalls s h.work.stalls_in_order below;
        few_commands = h.work.few_commands;
        commands = h.work.commands;
        commands_in_order = h.work.commands_in_order;
      };
      stalls_before = All-push (λ (x : StallLine). x.at.0 ≤ s.at.0) r.stalls s below (omega arith);
      commands_before = All-later (λ (x : CommandLine). x.at.0) r.last.0 s.at.0 r.commands place.in_order h.commands_before;
    }

-- a command more
pub checked_command : (config : Config) (r : Reading) (c : CommandLine) (n : ℕ) → IsCheckedReading config r → IsCheckedCommandLine c → place_cause r.last.0 (length r.commands) c.at.0 ≡ None → IsCheckedReading config (record r { line = n; last = c.at; commands = r.commands ++ c ∷ [] })
checked_command config r c n h good placed =
    let place = stands r.last.0 (length r.commands) c.at.0 placed in
    let below : All (λ (x : CommandLine). x.at.0 ≤ c.at.0) r.commands = All-later (λ (x : CommandLine). x.at.0) r.last.0 c.at.0 r.commands place.in_order h.commands_before in
    record {
      work = record {
        few_stalls = h.work.few_stalls;
        stalls = h.work.stalls;
        stalls_in_order = h.work.stalls_in_order;
        few_commands = omega (arith, h.work.few_commands, place.room, length-append r.commands (c ∷ []));
        commands = All-push IsCheckedCommandLine r.commands c h.work.commands good;
        commands_in_order = in_order_push (λ (x : CommandLine). x.at.0) r.commands c h.work.commands_in_order below;
      };
      stalls_before = All-later (λ (x : StallLine). x.at.0) r.last.0 c.at.0 r.stalls place.in_order h.stalls_before;
      commands_before = All-push (λ (x : CommandLine). x.at.0 ≤ c.at.0) r.commands c below (omega arith);
    }

-- two facts of an answer that is Ok give a third
pub on_ok_both : {T E : Type 0} (r : Result T E) (P Q R : Type 0) → OnOk r P → OnOk r Q → (P → Q → R) → OnOk r R
on_ok_both (Ok x) P Q R p q f = f p q
on_ok_both (Err e) P Q R p q f = tt
