use Rattle.std.proofs.Common.{◌≡◌, ℕ, ◌<◌, List, length, sym, ◌∙◌, ap, subst}
use Rattle.unit_ring.specs.Chains.{IsChain, chain, link, numbers_without, after_without, before_without, after_with, before_with}
use Rattle.unit_ring.proofs.Shifting.{below, before_below, after_below, after_shift, before_shift, shifted, shifted_chain}
use Rattle.unit_ring.proofs.links.Nodes.shift.Goals as goal

pub unlink-requires-clause-below : goal.unlink-requires-clause-below
unlink-requires-clause-below c =
    below c.args.self.now.after c.args.self.now.before (chain c.args.self.now.after) c.requires.whole c.args.number c.requires.number

pub unlink-requires-clause-next : goal.unlink-requires-clause-next
unlink-requires-clause-next c =
    after_below c.args.self.now.after c.args.self.now.before (chain c.args.self.now.after) c.requires.whole c.args.number c.requires.number c.requires.inner

pub unlink-requires-clause-last : goal.unlink-requires-clause-last
unlink-requires-clause-last c =
    before_below c.args.self.now.after c.args.self.now.before (chain c.args.self.now.after) c.requires.whole c.args.number c.requires.number

pub insert_before-requires-clause-below : goal.insert_before-requires-clause-below
insert_before-requires-clause-below c =
    let s = shifted c.args.self.now.after c.args.self.now.before (chain c.args.self.now.after) c.args.number c.args.at c.requires.whole c.requires.number c.requires.inner c.requires.place c.requires.apart in
    subst (λ (f : List ℕ). c.args.number < length f) (sym c.unlink.ensures.after) s.low

pub insert_before-requires-clause-at : goal.insert_before-requires-clause-at
insert_before-requires-clause-at c =
    let s = shifted c.args.self.now.after c.args.self.now.before (chain c.args.self.now.after) c.args.number c.args.at c.requires.whole c.requires.number c.requires.inner c.requires.place c.requires.apart in
    let f = after_without c.args.self.now.after c.args.self.now.before c.args.number in
    let g = before_without c.args.self.now.after c.args.self.now.before c.args.number in
    subst (λ (h : List ℕ). c.args.at < length h) (sym c.unlink.ensures.after)
    (below f g (numbers_without c.args.number (chain c.args.self.now.after)) s.out c.args.at s.place)

pub insert_before-requires-clause-last : goal.insert_before-requires-clause-last
insert_before-requires-clause-last c =
    let s = shifted c.args.self.now.after c.args.self.now.before (chain c.args.self.now.after) c.args.number c.args.at c.requires.whole c.requires.number c.requires.inner c.requires.place c.requires.apart in
    let f = after_without c.args.self.now.after c.args.self.now.before c.args.number in
    let g = before_without c.args.self.now.after c.args.self.now.before c.args.number in
    subst (λ (h : List ℕ). link c.unlink.new.self.before c.args.at < length h) (sym c.unlink.ensures.after)
    (subst (λ (h : List ℕ). link h c.args.at < length f) (sym c.unlink.ensures.before)
    (before_below f g (numbers_without c.args.number (chain c.args.self.now.after)) s.out c.args.at s.place))

-- the links at the return are those after both steps
after_is : (f g f1 g1 f2 : List ℕ) (n at : ℕ) → f2 ≡ after_with f1 g1 at n → f1 ≡ after_without f g n → g1 ≡ before_without f g n
    → f2 ≡ after_shift f g n at
after_is f g f1 g1 f2 n at e a b =
    e ∙ ap (λ (h : List ℕ). after_with h g1 at n) a ∙ ap (λ (h : List ℕ). after_with (after_without f g n) h at n) b

before_is : (f g f1 g1 g2 : List ℕ) (n at : ℕ) → g2 ≡ before_with f1 g1 at n → g1 ≡ before_without f g n
    → g2 ≡ before_shift f g n at
before_is f g f1 g1 g2 n at e b = e ∙ ap (λ (h : List ℕ). before_with f1 h at n) b

pub returns-clause-moved : goal.returns-clause-moved
returns-clause-moved c =
    let s = shifted c.args.self.now.after c.args.self.now.before (chain c.args.self.now.after) c.args.number c.args.at c.requires.whole c.requires.number c.requires.inner c.requires.place c.requires.apart in
    let e = after_is c.args.self.now.after c.args.self.now.before c.unlink.new.self.after c.unlink.new.self.before c.insert_before.new.self.after c.args.number c.args.at c.insert_before.ensures.after c.unlink.ensures.after c.unlink.ensures.before in
    ap chain e ∙ shifted_chain c.args.self.now.after c.args.self.now.before c.args.number c.args.at c.requires.whole s

pub returns-clause-whole : goal.returns-clause-whole
returns-clause-whole c =
    let f = c.args.self.now.after in
    let g = c.args.self.now.before in
    let s = shifted f g (chain f) c.args.number c.args.at c.requires.whole c.requires.number c.requires.inner c.requires.place c.requires.apart in
    let e = after_is f g c.unlink.new.self.after c.unlink.new.self.before c.insert_before.new.self.after c.args.number c.args.at c.insert_before.ensures.after c.unlink.ensures.after c.unlink.ensures.before in
    let h = before_is f g c.unlink.new.self.after c.unlink.new.self.before c.insert_before.new.self.before c.args.number c.args.at c.insert_before.ensures.before c.unlink.ensures.before in
    subst (λ (k : List ℕ). IsChain k c.insert_before.new.self.before (chain k)) (sym e)
    (subst (λ (k : List ℕ). IsChain (after_shift f g c.args.number c.args.at) k (chain (after_shift f g c.args.number c.args.at))) (sym h)
    (subst (IsChain (after_shift f g c.args.number c.args.at) (before_shift f g c.args.number c.args.at))
    (sym (shifted_chain f g c.args.number c.args.at c.requires.whole s)) s.in_again))
