-- How many processors of a core wait for their siblings, and whether all or some do.
use Rattle.std.proofs.Common.{◌≡◌, ◌≢◌, ◌∙◌, ℕ, Bool, true, false, not, cond, ◌&&◌, ◌||◌, eqb, List, [], ◌∷◌, refl, sym, ap, arith}
use Rattle.std.specs.Prelude.{count_by}
use Rattle.std.specs.List.{list_any, list_all}
use Rattle.std.proofs.lemmas.List.Folds.{sum_by-zero}
use Rattle.sched_model.specs.declared.state.Processor.{Processor}
use Rattle.sched_model.specs.declared.state.Resource.{Resource}
use Rattle.sched_model.specs.declared.state.Stage.TheVariants.{Open}
use Rattle.sched_model.specs.Pool.{is_held_back, reopened_core}
use Rattle.sibling_meet.specs.Meeting.{is_away}

all_pass : {X : Type 0} (p : X → Bool) (xs : List X) → list_all (λ x. eqb (cond (not (p x)) 1 0) 0) xs ≡ list_all p xs
all_pass p [] = refl
all_pass p (x ∷ xs) = elim (p x) as (λ b. (eqb (cond (not b) 1 0) 0 && list_all (λ x. eqb (cond (not (p x)) 1 0) 0) xs) ≡ (b && list_all p xs)) [ true ↦ all_pass p xs | false ↦ refl ]

none_passes : {X : Type 0} (p : X → Bool) (xs : List X) → list_all (λ x. eqb (cond (p x) 1 0) 0) xs ≡ not (list_any p xs)
none_passes p [] = refl
none_passes p (x ∷ xs) = elim (p x) as (λ b. (eqb (cond b 1 0) 0 && list_all (λ x. eqb (cond (p x) 1 0) 0) xs) ≡ not (b || list_any p xs)) [ true ↦ refl | false ↦ none_passes p xs ]

all_held-counted : (ps : List Processor) → eqb (count_by is_away ps) 0 ≡ list_all is_held_back ps
all_held-counted ps = sum_by-zero (λ p. cond (is_away p) 1 0) ps ∙ all_pass is_held_back ps

pub all_held : (ps : List Processor) → count_by is_away ps ≡ 0 → list_all is_held_back ps ≡ true
all_held ps none = sym (all_held-counted ps) ∙ ap (λ n. eqb n 0) none

pub not_all_held : (ps : List Processor) → count_by is_away ps ≢ 0 → list_all is_held_back ps ≡ false
not_all_held ps some = sym (all_held-counted ps) ∙ other (count_by is_away ps) some
  where
    other : (n : ℕ) → n ≢ 0 → eqb n 0 ≡ false
    other n some = grind arith

none_held-counted : (ps : List Processor) → eqb (count_by is_held_back ps) 0 ≡ not (list_any is_held_back ps)
none_held-counted ps = sum_by-zero (λ p. cond (is_held_back p) 1 0) ps ∙ none_passes is_held_back ps

pub none_held : (ps : List Processor) → count_by is_held_back ps ≡ 0 → list_any is_held_back ps ≡ false
none_held ps none = of_not (list_any is_held_back ps) (sym (none_held-counted ps) ∙ ap (λ n. eqb n 0) none)
  where
    of_not : (b : Bool) → not b ≡ true → b ≡ false
    of_not true e = grind arith
    of_not false e = refl

pub some_held : (ps : List Processor) → count_by is_held_back ps ≢ 0 → list_any is_held_back ps ≡ true
some_held ps some = of_not (list_any is_held_back ps) (sym (none_held-counted ps) ∙ other (count_by is_held_back ps) some)
  where
    other : (n : ℕ) → n ≢ 0 → eqb n 0 ≡ false
    other n some = grind arith

    of_not : (b : Bool) → not b ≡ false → b ≡ true
    of_not true e = refl
    of_not false e = grind arith

-- nobody is held: the stage is open
pub opened : (c : Resource) → count_by is_held_back c.processors ≡ 0 → record c { stage = Open } ≡ reopened_core c
opened c none = rw (none_held c.processors none)

-- somebody is held: the stage stays
pub kept : (c : Resource) → count_by is_held_back c.processors ≢ 0 → c ≡ reopened_core c
kept c some = rw (some_held c.processors some)
