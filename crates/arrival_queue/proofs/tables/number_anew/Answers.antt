use Rattle.std.proofs.Common.{◌≡◌, ℕ, suc, ◌<◌, List, [], ◌∷◌, length, map, get_or, refl, ◌∙◌, ap, arith, rules}
use Rattle.arrival_queue.specs.Tables.{count_below}
use Rattle.arrival_queue.proofs.tables.number_anew.Goals as goal

-- a list that is at each place what a function gives of another's
map-each : (f : ℕ → ℕ) (xs ys : List ℕ) → length ys ≡ length xs → ((k : ℕ) → k < length xs → get_or ys k 0 ≡ f (get_or xs k 0)) → ys ≡ map f xs
map-each f [] [] same each = refl
map-each f [] (y ∷ ys) same each = absurd (omega (arith, same))
map-each f (x ∷ xs) [] same each = absurd (omega (arith, same))
map-each f (x ∷ xs) (y ∷ ys) same each =
    ap (λ (z : ℕ). z ∷ ys) (each 0 (omega arith))
    ∙ ap (λ (zs : List ℕ). f x ∷ zs) (map-each f xs ys (omega (arith, same)) (λ k low. each (suc k) (omega (arith, low))))

pub returns : goal.returns
returns c =
    map-each (count_below c.args.numbers.now) c.args.numbers.now c.loop-i.fresh (search rules) (λ k low. c.loop-i.invariant k (omega (arith, low, c.loop-i-test.false)))
