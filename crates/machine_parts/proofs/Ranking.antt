-- The earliest of some actions, one by one.
use Rattle.std.proofs.Common.{◌≡◌, ◌≤◌, ◌<◌, ℕ, zero, suc, Bool, true, false, List, ◌∷◌, length, drop, get_or, ◌-◌, ap, sym, ◌∙◌, refl, arith, subst, cond}
use Rattle.std.specs.Prelude.{Option, Some, None, IfNone, nat_le}
use Rattle.std.specs.Option.{ForSome}
use Rattle.std.proofs.Math.Seq.{drop-cons}
use Rattle.std.proofs.lemmas.Bool.Decides.{nat_tests}
use Rattle.sched_model.specs.declared.action.Action.{Action}
use Rattle.sched_model.specs.declared.action.Action.TheVariants.{Stall, Xl, Moved, DomMoved, Wake, Block, Slice, Repl, Refill, Arrive, Decide, Leave, Save}
use Rattle.sched_model.specs.Places.{at_place}
use Rattle.pool_laws.specs.Order.{IsNotAfter, index_place, kind_place, subject_place}
use Rattle.pool_laws.proofs.ActionOrder.{not_after_itself}
use Rattle.composition_laws.specs.WholeFirst.{ComesEarliest, IsEarliest}
use Rattle.composition_laws.proofs.WholeLemmas.{not_after_both}
use Rattle.machine_parts.specs.Ranks.{IsSmall, rank_of, earlier_action}

-- the items from a place on are the one before them and the rest
pub one_before : {X : Type 0} (xs : List X) (i : ℕ) (d x : X) → 0 < i → i ≤ length xs → get_or xs (i - 1) d ≡ x → x ∷ drop i xs ≡ drop (i - 1) xs
one_before {X} xs i d x some inside is =
    let low : i - 1 < length xs = omega arith in
    let next : suc (i - 1) ≡ i = omega arith in
    ap (λ (y : X). y ∷ drop i xs) (sym is) ∙ ap (λ (n : ℕ). get_or xs (i - 1) d ∷ drop n xs) (sym next) ∙ sym (drop-cons xs (i - 1) d low)

pub lower : (a b : Action) → IsSmall a → IsSmall b → rank_of a ≤ rank_of b → IsNotAfter a b
lower a b small other le =
    let s = small.0 in
    let i = small.1 in
    let r = other.0 in
    let j = other.1 in
    record { by_kind = omega (arith, s, i, r, j, le); then_by_subject = λ k. omega (arith, s, i, r, j, le, k); then_by_index = λ k e. omega (arith, s, i, r, j, le, k, e) }

pub nothing_more : (firsts : List (Option Action)) (found : Option Action) → IsEarliest firsts found → IsEarliest (None ∷ firsts) found
nothing_more firsts None all = λ i. elim i as (λ (k : ℕ). at_place (None ∷ firsts) k ≡ None) [ zero ↦ refl | suc k ↦ all k ]
nothing_more firsts (Some a) found = record { place = suc found.place; at = found.at; first = later }
  where
    later : (i : ℕ) (other : Action) → at_place (None ∷ firsts) i ≡ Some other → IsNotAfter a other
    later zero other at = absurd (cc)
    later (suc i) other at = found.first i other at

-- the action comes first, before all that there are
comes_first : (a : Action) (firsts : List (Option Action)) → ((i : ℕ) (other : Action) → at_place firsts i ≡ Some other → IsNotAfter a other) → ComesEarliest (Some a ∷ firsts) a
comes_first a firsts before = record { place = 0; at = refl; first = later }
  where
    later : (i : ℕ) (other : Action) → at_place (Some a ∷ firsts) i ≡ Some other → IsNotAfter a other
    later zero other at = (let same : a ≡ other = cc in subst (λ (x : Action). IsNotAfter a x) same (not_after_itself a))
    later (suc i) other at = before i other at

-- what was found goes on before one action more
goes_before : (a b : Action) (firsts : List (Option Action)) → IsNotAfter b a → ComesEarliest firsts b → ComesEarliest (Some a ∷ firsts) b
goes_before a b firsts before found = record { place = suc found.place; at = found.at; first = later }
  where
    later : (i : ℕ) (other : Action) → at_place (Some a ∷ firsts) i ≡ Some other → IsNotAfter b other
    later zero other at = (let same : a ≡ other = cc in subst (λ (x : Action). IsNotAfter b x) same before)
    later (suc i) other at = found.first i other at

pub one_more : (o : Option Action) (firsts : List (Option Action)) (found : Option Action) → ForSome o IsSmall → ForSome found IsSmall → IsEarliest firsts found → IsEarliest (o ∷ firsts) (earlier_action o found)
one_more None firsts found small others all = nothing_more firsts found all
one_more (Some a) firsts None small others all = comes_first a firsts (λ i other at. absurd (let none = all i in cc))
one_more (Some a) firsts (Some b) small others found = by_rank (nat_le (rank_of a) (rank_of b)) refl
  where
    low : IsSmall b
    low = others b refl

    by_rank : (le : Bool) → nat_le (rank_of a) (rank_of b) ≡ le → IsEarliest (Some a ∷ firsts) (cond le (Some a) (Some b))
    by_rank true is = comes_first a firsts (λ i other at. not_after_both a b other (lower a b (small a refl) low (grind (arith, is))) (found.first i other at))
    by_rank false is = goes_before a b firsts (lower b a low (small a refl) (grind (arith, is))) found

few_kinds : (action : Action) → kind_place action < 256
few_kinds Stall = omega arith
few_kinds Xl = omega arith
few_kinds (Moved r) = omega arith
few_kinds (DomMoved d) = omega arith
few_kinds (Wake v) = omega arith
few_kinds (Block p) = omega arith
few_kinds (Slice r) = omega arith
few_kinds (Repl u) = omega arith
few_kinds (Refill d) = omega arith
few_kinds (Arrive p) = omega arith
few_kinds (Decide r) = omega arith
few_kinds (Leave p) = omega arith
few_kinds (Save r) = omega arith

-- the earliest of the actions from the place i on, with its place and its rank; where there are none, a rank that no action has
abbrev pub IsLeastFrom : ℕ → List (Option Action) → ℕ → Option (ℕ × Action) → Type 0
IsLeastFrom i firsts least None = IsEarliest (drop i firsts) None × (least ≡ 4294967295)
IsLeastFrom i firsts least (Some found) = IsEarliest (drop i firsts) (Some found.1) × (rank_of found.1 ≡ least) × IsSmall found.1 × (at_place firsts found.0 ≡ Some found.1)

-- nothing stands at the place before
pub least_passes : (i : ℕ) (firsts : List (Option Action)) (least : ℕ) (found : Option (ℕ × Action)) → 0 < i → i ≤ length firsts → at_place firsts (i - 1) ≡ None
    → IsLeastFrom i firsts least found → IsLeastFrom (i - 1) firsts least found
least_passes i firsts least None some inside none so_far =
    (subst (λ (rest : List (Option Action)). IsEarliest rest None) (one_before firsts i None None some inside none) (nothing_more (drop i firsts) None so_far.0), so_far.1)
least_passes i firsts least (Some found) some inside none so_far =
    (subst (λ (rest : List (Option Action)). IsEarliest rest (Some found.1)) (one_before firsts i None None some inside none) (nothing_more (drop i firsts) (Some found.1) so_far.0), so_far.1, so_far.2, so_far.3)

module _ (i : ℕ) (firsts : List (Option Action)) (action : Action) (some : 0 < i) (inside : i ≤ length firsts) (is : at_place firsts (i - 1) ≡ Some action) (small : IsSmall action) where
  small_first : ForSome (Some action) IsSmall
  small_first x same = let e : action ≡ x = cc in subst IsSmall e small

  more : (found : Option Action) → ForSome found IsSmall → IsEarliest (drop i firsts) found → IsEarliest (drop (i - 1) firsts) (earlier_action (Some action) found)
  more found others so_far =
      subst (λ (rest : List (Option Action)). IsEarliest rest (earlier_action (Some action) found)) (one_before firsts i None (Some action) some inside is)
      (one_more (Some action) (drop i firsts) found small_first others so_far)

  small_other : (other : Action) → IsSmall other → ForSome (Some other) IsSmall
  small_other other few x same = let e : other ≡ x = cc in subst IsSmall e few

  -- an action of no greater rank comes first
  pub least_taken : (least : ℕ) (found : Option (ℕ × Action)) → rank_of action ≤ least → IsLeastFrom i firsts least found → IsLeastFrom (i - 1) firsts (rank_of action) (Some (i - 1, action))
  least_taken least None le so_far = (more None (λ x none. absurd (cc)) so_far.0, refl, small, is)
  least_taken least (Some found) le so_far =
      let before : nat_le (rank_of action) (rank_of found.1) ≡ true = (let rank = so_far.1 in grind (arith, nat_tests, le, rank)) in (
        subst (λ (b : Bool). IsEarliest (drop (i - 1) firsts) (cond b (Some action) (Some found.1))) before (more (Some found.1) (small_other found.1 so_far.2) so_far.0),
        refl,
        small,
        is,
      )

  -- one of a greater rank does not
  pub least_stays : (least : ℕ) (found : Option (ℕ × Action)) → least < rank_of action → IsLeastFrom i firsts least found → IsLeastFrom (i - 1) firsts least found
  least_stays least None gt so_far = absurd (let most = so_far.1 in let subject = small.0 in let index = small.1 in low most subject index)
    where
      low : least ≡ 4294967295 → subject_place action < 256 → index_place action < 256 → ⊥
      low most subject index = (let kinds = few_kinds action in omega (arith, most, subject, index, gt, kinds))
  least_stays least (Some found) gt so_far =
      let after : nat_le (rank_of action) (rank_of found.1) ≡ false = (let rank = so_far.1 in grind (arith, nat_tests, gt, rank)) in (
        subst (λ (b : Bool). IsEarliest (drop (i - 1) firsts) (cond b (Some action) (Some found.1))) after (more (Some found.1) (small_other found.1 so_far.2) so_far.0),
        so_far.1,
        so_far.2,
        so_far.3,
      )

-- where none was found among all, there are none
pub least_none : (firsts : List (Option Action)) (least : ℕ) (found : Option (ℕ × Action)) → IsLeastFrom 0 firsts least found → IfNone found (IsEarliest firsts None)
least_none firsts least None all = all.0
least_none firsts least (Some found) all = tt
