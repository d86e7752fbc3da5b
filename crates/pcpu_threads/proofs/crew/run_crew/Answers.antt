use Rattle.std.proofs.Common.{◌≡◌, ◌∙◌, ◌++◌, ◌+◌, ◌*◌, ℕ, drop, length, take, refl, sym, ap, arith}
use Rattle.std.proofs.Math.Seq.{take-append_seam}
use Rattle.pcpu_threads.specs.Workers.{shares_of}
use Rattle.pcpu_threads.proofs.Serving.{hands-shares, rows-even}
use Rattle.pcpu_threads.proofs.crew.run_crew.Goals as goal

pub run_rows-requires-clause-rows : goal.run_rows-requires-clause-rows
run_rows-requires-clause-rows g c κs within =
    rows-even c.rows_for-rows.result (c.len-wide.result + 1) (c.rows_for-rows.result * (c.len-wide.result + 1)) (length c.as_mut_slice.result.now) refl (ap length c.as_mut_slice.ensures.value ∙ c.split_rows.ensures.count)

pub returns-clause-shares : goal.returns-clause-shares
returns-clause-shares g c =
    let seats = c.run_rows.new.seats in
    let items = c.split_rows.new.seats.items in
    let len : length seats ≡ length items = c.run_rows.auto.seats ∙ ap length c.as_mut_slice.ensures.value in
    let room : c.split_rows.new.seats.len ≡ length seats = sym (c.run_rows.auto.seats ∙ c.as_mut_slice.ensures.len) in
    let all : take c.split_rows.new.seats.len (seats ++ drop (length seats) items) ≡ seats = ap (λ (n : ℕ). take n (seats ++ drop (length seats) items)) room ∙ take-append_seam seats (drop (length seats) items) in
    let parts = ap shares_of all ∙ hands-shares c.args.hall.now seats c.run_rows.ensures in
    let left = c.split_rows.ensures.left in
    let count = c.split_rows.ensures.count in
    omega (arith, parts, left, count, len)
