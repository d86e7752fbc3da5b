use Rattle.std.proofs.Common.{◌≡◌, ◌<◌, ℕ, List, [], ◌∷◌, ◌++◌, replicate, Some, cond, sym, refl, ap, ◌∙◌, subst, eq-eqb}
use Rattle.lock_moves.specs.SeatSight.{Known, Sitting, known_part, find_lock, after_search, after_give, after_take, tried_again}
use Rattle.lock_moves.specs.Sets.{sitting_with}
use Rattle.lock_moves.specs.Words.{name_number}
use Rattle.lock_moves.proofs.Named.{name_below}
use Rattle.lock_moves.proofs.Finding.{find-head}
use Rattle.lock_moves.proofs.set.LockSet.lock_of.Goals as goal

pub loop-init : goal.loop-init
loop-init g c = let s = c.args.seat.now in let v = s.view in (v.refused, v.now, c.read_word-word.ensures.same ∙ (λ i. sitting_with s (record v { held = c.requires.nothing i })))

pub returns-then-found-word-clause-number : goal.returns-then-found-word-clause-number
returns-then-found-word-clause-number g c = subst (λ (n : ℕ). n < 17) (sym c.lock-held.ensures.lock) c.if-word.true

pub returns-then-found-word-clause-lists : goal.returns-then-found-word-clause-lists
returns-then-found-word-clause-lists g c = let w : ℕ = c.loop.word in let t = c.lock-held.ensures.taken.1 in let number : ℕ = name_number c.args.name in
    let low = name_below c.args.seat.now.view.input c.args.name c.requires.name in
    let z : Known = known_part (g.V.Part.part c.lock-held.result.value) t.0 in
    let held : find_lock w c.lock-held.new.seat.view.held ≡ Some z = ap (λ (s : Sitting). find_lock w s.view.held) t.2 ∙ find-head w z c.loop.seat.view.held in
    let says = c.read_word-found.ensures.tells.1 w z number refl held low in t.3 number low ∙ (says ∙ eq-eqb c.read_word-found.result w c.if-found-word.true)

pub returns-then-found-word-clause-has : goal.returns-then-found-word-clause-has
returns-then-found-word-clause-has g c = let w : ℕ = c.loop.word in let t = c.lock-held.ensures.taken.1 in let number : ℕ = name_number c.args.name in
    let low = name_below c.args.seat.now.view.input c.args.name c.requires.name in
    let z : Known = known_part (g.V.Part.part c.lock-held.result.value) t.0 in
    let held : find_lock w c.lock-held.new.seat.view.held ≡ Some z = ap (λ (s : Sitting). find_lock w s.view.held) t.2 ∙ find-head w z c.loop.seat.view.held in
    let says = c.read_word-found.ensures.tells.1 w z number refl held low in
    (z, (λ i. find_lock (c.lock-held.ensures.lock i) c.read_word-found.new.seat.view.held) ∙ (ap (λ (s : Sitting). find_lock w s.view.held) c.read_word-found.ensures.same ∙ held), says ∙ eq-eqb c.read_word-found.result w c.if-found-word.true)

pub unlock-requires-clause-known : goal.unlock-requires-clause-known
unlock-requires-clause-known g c = let w : ℕ = c.loop.word in let t = c.lock-held.ensures.taken.1 in let is = c.lock-held.ensures.lock in
    let z : Known = known_part (g.V.Part.part c.lock-held.result.value) t.0 in (
      z,
      (λ i. find_lock (is i) c.read_word-found.new.seat.view.held) ∙ (ap (λ (s : Sitting). find_lock w s.view.held) (c.read_word-found.ensures.same ∙ t.2) ∙ find-head w z c.loop.seat.view.held),
      refl,
      t.3,
    )

-- the seat has let go of the one lock that it took
let_go : (s : Sitting) (w k : ℕ) (z : Known) (n : ℕ) (refused : List ℕ) (t u : ℕ) (before now after : Sitting) → before ≡ sitting_with s (after_search refused t s.view) → k ≡ w
    → now ≡ sitting_with before (after_take w z.part z.names u (tried_again n w before.view)) → after ≡ sitting_with now (after_give k now.view) → after ≡ sitting_with s (after_search (replicate n w ++ refused) u s.view)
let_go s w k z n refused t u before now after a is b d = d ∙ ((λ i. sitting_with (b i) (after_give (is i) (b i).view)) ∙ ((λ i. let p = a i in sitting_with p (after_give w (after_take w z.part z.names u (tried_again n w p.view))))
    ∙ (λ i. sitting_with s (record (after_search (replicate n w ++ refused) u s.view) { held = cond (eq-eqb w w refl i) [] ((w, z) ∷ []) }))))

pub loop-preserved-then-word : goal.loop-preserved-then-word
loop-preserved-then-word g c = let w : ℕ = c.loop.word in let t = c.lock-held.ensures.taken in let i = c.loop.invariant in (
  replicate t.0 w ++ i.0,
  t.1.1,
  let_go c.args.seat.now w c.lock-held.result.lock (known_part (g.V.Part.part c.lock-held.result.value) t.1.0) t.0 i.0 i.1 t.1.1 c.loop.seat c.read_word-found.new.seat c.unlock.new.seat i.2 c.lock-held.ensures.lock
      (c.read_word-found.ensures.same ∙ t.1.2) c.unlock.ensures,
)
