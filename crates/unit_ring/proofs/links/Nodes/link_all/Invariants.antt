use Rattle.std.proofs.Common.{◌≡◌, ◌-◌, [], length}
use Rattle.unit_ring.specs.Chains.{IsChain, fenced_numbers, nodes_up_to}
use Rattle.unit_ring.proofs.links.Nodes.link_all.Given as goal

abbrev pub invariant-loop-n : goal.invariant-loop-n
invariant-loop-n l =
    IsChain l.self.after l.self.before (fenced_numbers [] [] (nodes_up_to (l.n - 4))) × (length l.self.after ≡ length l.fn.self.after) × (l.self.units ≡ l.fn.self.units)
