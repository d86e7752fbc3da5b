use Rattle.std.proofs.Common.{◌≡◌, ℕ, ◌+◌, ◌-◌, ◌<◌, ◌≤◌, suc, [], ◌∷◌, List, length, refl, sym, ◌∙◌, ap, subst, inl, inr, arith, set, length-set}
use Rattle.unit_ring.specs.Chains.{IsChain, fenced_numbers, nodes_up_to, after_with, before_with, link}
use Rattle.sched_base.specs.Lists.{Has}
use Rattle.unit_ring.proofs.Shifting.{before_below}
use Rattle.sched_base.proofs.Lists.{Has-right}
use Rattle.unit_ring.proofs.Calls.{with_next}
use Rattle.unit_ring.proofs.links.Nodes.link_all.Goals as goal

pub insert_before-requires-clause-last : goal.insert_before-requires-clause-last
insert_before-requires-clause-last c =
    let so_far : List ℕ = nodes_up_to (c.loop-n.n - 4) in
    let has : Has 3 (fenced_numbers [] [] so_far) = inr (inr (Has-right 3 so_far (3 ∷ []) (inl refl))) in
    before_below c.loop-n.self.after c.loop-n.self.before (fenced_numbers [] [] so_far) c.loop-n.invariant.0 3 has

-- the loop's number, which begins at 4, as the number of nodes so far
next_number : (f g f2 g2 : List ℕ) (n : ℕ) → 4 ≤ n → n < length f → IsChain f g (fenced_numbers [] [] (nodes_up_to (n - 4)))
    → f2 ≡ after_with f g 3 n → g2 ≡ before_with f g 3 n → IsChain f2 g2 (fenced_numbers [] [] (nodes_up_to (n + 1 - 4)))
next_number f g f2 g2 n from low c e h =
    let same : 4 + (n - 4) ≡ n = omega (arith, from) in
    let more : suc (n - 4) ≡ n + 1 - 4 = omega (arith, from) in
    subst (λ (k : List ℕ). IsChain k g2 (fenced_numbers [] [] (nodes_up_to (n + 1 - 4)))) (sym e)
    (subst (λ (k : List ℕ). IsChain (after_with f g 3 n) k (fenced_numbers [] [] (nodes_up_to (n + 1 - 4)))) (sym h)
    (subst (λ (k : ℕ). IsChain (after_with f g 3 n) (before_with f g 3 n) (fenced_numbers [] [] (nodes_up_to k))) more
    (subst (λ (k : ℕ). IsChain (after_with f g 3 k) (before_with f g 3 k) (fenced_numbers [] [] (nodes_up_to (suc (n - 4))))) same
    (with_next f g (n - 4) c (omega (arith, same, low))))))

pub loop-n-preserved : goal.loop-n-preserved
loop-n-preserved c =
    let low : c.loop-n.n < length c.loop-n.self.after = search arith in
    let f = c.loop-n.self.after in let g = c.loop-n.self.before in
    let size : length (after_with f g 3 c.loop-n.n) ≡ length f = length-set (set f (link g 3) c.loop-n.n) c.loop-n.n 3 ∙ length-set f (link g 3) c.loop-n.n in (
      next_number f g c.insert_before.new.self.after c.insert_before.new.self.before c.loop-n.n (search arith) low c.loop-n.invariant.0 c.insert_before.ensures.after c.insert_before.ensures.before,
      ap (λ (h : List ℕ). length h) c.insert_before.ensures.after ∙ size ∙ c.loop-n.invariant.1,
      c.insert_before.ensures.units ∙ c.loop-n.invariant.2,
    )
