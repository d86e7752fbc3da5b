use Rattle.std.proofs.Common.{◌≡◌, sym, ap, length, ◌∙◌, List, [], ◌∷◌, refl}
use Rattle.std.specs.Prelude.{replicate, map}
use Rattle.sched_model.specs.Policy.{pinned_cores}
use Rattle.sched_model.proofs.PlaceLemmas.{slice_set-changed}
use Rattle.scheduler_records.proofs.pins.pin_units.Goals as goal

-- as many copies as there are items
replicate-map : {X : Type 0} (x : X) (xs : List X) → replicate (length xs) x ≡ map (λ y. x) xs
replicate-map x [] = refl
replicate-map x (y ∷ xs) = ap (λ ys. x ∷ ys) (replicate-map x xs)

pub returns-in-None : goal.returns-in-None
returns-in-None c =
    c.copies.ensures ∙ ap (λ n. replicate n c.args.cores) c.len.ensures.items ∙ replicate-map c.args.cores c.args.units.now
    ∙ ap (λ unit. pinned_cores unit c.args.cores c.args.units.now) (sym c.in-None.is)

pub returns-in-Some-get_mut : goal.returns-in-Some-get_mut
returns-in-Some-get_mut c =
    slice_set-changed c.in-Some.n (λ x. c.args.cores) c.args.units.now c.in-Some-get_mut.set.now c.in-Some-get_mut.ensures.value
    ∙ ap (λ unit. pinned_cores unit c.args.cores c.args.units.now) (sym c.in-Some.is)
