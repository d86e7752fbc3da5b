use Rattle.std.proofs.Common.{◌≡◌, ℕ, ◌+◌, ◌-◌, [], List, length, refl, sym, ◌∙◌, ap, subst, arith}
use Rattle.sched_base.specs.declared.UnitId.{UnitId}
use Rattle.unit_ring.specs.Chains.{IsChain, fenced_numbers, nodes_up_to}
use Rattle.unit_ring.proofs.Operations.{Made}
use Rattle.unit_ring.proofs.Calls.{opened, length-up_to}
use Rattle.unit_ring.proofs.Ring.room.Goals as goal

-- what the links of all numbers make
all_free : (f g : List ℕ) (us : List UnitId) (all k : ℕ)
    → IsChain f g (fenced_numbers [] [] (nodes_up_to (all - 4))) → length f ≡ all → all ≡ k + 4 → length us ≡ all → Made f g us [] [] (nodes_up_to k)
all_free f g us all k whole size is places =
    let same : all - 4 ≡ k = omega (arith, is) in
    opened f g us k (subst (λ (n : ℕ). IsChain f g (fenced_numbers [] [] (nodes_up_to n))) same whole) (size ∙ is) (places ∙ sym size)

made : (c : goal.In_ok-nodes) → Made c.in_ok-nodes.nodes.after c.in_ok-nodes.nodes.before c.in_ok-nodes.nodes.units [] [] (nodes_up_to c.args.nodes)
made c =
    all_free c.in_ok-nodes.nodes.after c.in_ok-nodes.nodes.before c.in_ok-nodes.nodes.units (c.args.nodes + 4) c.args.nodes
    c.in_ok-nodes.ensures.whole c.in_ok-nodes.ensures.size refl c.in_ok-nodes.ensures.places

pub invariant_of-result : goal.invariant_of-result
invariant_of-result c = (made c).ring

pub returns : goal.returns
returns c = (made c).lists ∙ ap (λ (k : ℕ). record { first = []; second = []; spare = k }) (length-up_to c.args.nodes)
