-- The pools that commands make, each at its command's place.
use Rattle.std.proofs.Common.{◌≡◌, ◌≢◌, ◌∙◌, ℕ, zero, suc, List, [], ◌∷◌, ap, arith}
use Rattle.std.specs.Prelude.{Option, Some, map, slice_get}
use Rattle.sched_model.specs.declared.machine.Machine.{Machine}
use Rattle.sched_model.specs.declared.plan.Plan.{Plan}
use Rattle.sched_model.specs.declared.state.Pool.{Pool}
use Rattle.sched_model.specs.declared.work.CommandLine.{CommandLine}
use Rattle.sched_model.specs.Places.{at_place}
use Rattle.plain_opening.specs.OpeningPool.{spare_of_line}
use Rattle.plain_commands.specs.PlanEffects.{spares_after}
use Rattle.plain_commands.proofs.Planned.{spares-kept}
use Rattle.sched_plain.specs.CommandList.{HasSpares}

-- what f makes of an item stands at its place
at_place-mapped : {X Y : Type 0} (f : X → Option Y) (xs : List X) (k : ℕ) (x : X) → slice_get xs k ≡ Some x → at_place (map f xs) k ≡ f x
at_place-mapped f [] k x is = absurd (cc)
at_place-mapped f (y ∷ xs) zero x is = (let same : y ≡ x = cc in ap f same)
at_place-mapped f (y ∷ xs) (suc k) x is = at_place-mapped f xs k x is

-- the pool of the next command
pub spare-next : (m : Machine) (n : ℕ) (line : CommandLine) (spares : List (Option Pool)) → HasSpares m n spares → slice_get m.work.commands n ≡ Some line → at_place spares n ≡ spare_of_line m.config line
spare-next m n line spares has is = has n (omega arith) ∙ at_place-mapped (spare_of_line m.config) m.work.commands n line is

-- those of the commands behind it, once it is over
pub spares-then : (m : Machine) (n over : ℕ) (p : Plan) (spares : List (Option Pool)) → HasSpares m n spares → over ≡ suc n → HasSpares m over (spares_after n p spares)
spares-then m n over p spares has is = λ k later.
    let behind : k ≢ n = λ same. omega (arith, same, later, is) in
    spares-kept n k p spares behind ∙ has k (omega (arith, later, is))

pub spares-past : (m : Machine) (n over : ℕ) (spares : List (Option Pool)) → HasSpares m n spares → over ≡ suc n → HasSpares m over spares
spares-past m n over spares has is = λ k later. has k (omega (arith, later, is))
