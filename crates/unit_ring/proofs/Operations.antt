-- What each call makes of the lists that callers see.
use Rattle.std.proofs.Common.{◌≡◌, ◌⊎◌, ℕ, ◌<◌, ◌≤◌, List, [], ◌∷◌, ◌++◌, length, true, refl, sym, ◌∙◌, ap, subst, inl, inr, arith}
use Rattle.std.proofs.lemmas.Bool.{or_cases}
use Rattle.sched_base.specs.declared.UnitId.{UnitId}
use Rattle.unit_ring.specs.Lists.{Lists, has_node, is_live}
use Rattle.unit_ring.specs.Chains.{link, Path, Distinct, IsChain, IsRing, chain, fenced_numbers, nodes_of, second_of, free_of, items, lists_of}
use Rattle.sched_base.specs.Lists.{Has}
use Rattle.unit_ring.proofs.Linking.{Below-Has}
use Rattle.unit_ring.proofs.Fences.{Parted, parted, high, Path-right, nodes_of-is, second_of-is, free_of-is}
use Rattle.sched_base.proofs.Lists.{Has-left, Has-right}
use Rattle.unit_ring.proofs.ItemLists.{has_node-Has}

-- what is known of a ring: its path, and how its lists stand apart
pub ring_path : (f g : List ℕ) (us : List UnitId) → IsRing f g us → Path f g 0 (fenced_numbers (nodes_of f) (second_of f) (free_of f))
ring_path f g us ring = subst (Path f g 0) ring.parts ring.whole.path

pub ring_parted : (f g : List ℕ) (us : List UnitId) → IsRing f g us → Parted (nodes_of f) (second_of f) (free_of f)
ring_parted f g us ring =
    parted (nodes_of f) (second_of f) (free_of f) (subst (λ (ws : List ℕ). Distinct (0 ∷ ws)) ring.parts ring.whole.distinct)

-- the chain has the fences, and what one of the lists has
pub chain_has_1 : (f g : List ℕ) (us : List UnitId) → IsRing f g us → Has 1 (chain f)
chain_has_1 f g us ring = subst (Has 1) (sym ring.parts) (Has-right 1 (nodes_of f) (1 ∷ (second_of f ++ 2 ∷ (free_of f ++ 3 ∷ []))) (inl refl))

pub chain_has_2 : (f g : List ℕ) (us : List UnitId) → IsRing f g us → Has 2 (chain f)
chain_has_2 f g us ring =
    subst (Has 2) (sym ring.parts)
    (Has-right 2 (nodes_of f) (1 ∷ (second_of f ++ 2 ∷ (free_of f ++ 3 ∷ [])))
    (inr (Has-right 2 (second_of f) (2 ∷ (free_of f ++ 3 ∷ [])) (inl refl))))

pub chain_has_3 : (f g : List ℕ) (us : List UnitId) → IsRing f g us → Has 3 (chain f)
chain_has_3 f g us ring =
    subst (Has 3) (sym ring.parts)
    (Has-right 3 (nodes_of f) (1 ∷ (second_of f ++ 2 ∷ (free_of f ++ 3 ∷ [])))
    (inr (Has-right 3 (second_of f) (2 ∷ (free_of f ++ 3 ∷ [])) (inr (Has-right 3 (free_of f) (3 ∷ []) (inl refl))))))

pub chain_has_first : (f g : List ℕ) (us : List UnitId) (n : ℕ) → IsRing f g us → Has n (nodes_of f) → Has n (chain f)
chain_has_first f g us n ring has =
    subst (Has n) (sym ring.parts) (Has-left n (nodes_of f) (1 ∷ (second_of f ++ 2 ∷ (free_of f ++ 3 ∷ []))) has)

pub chain_has_second : (f g : List ℕ) (us : List UnitId) (n : ℕ) → IsRing f g us → Has n (second_of f) → Has n (chain f)
chain_has_second f g us n ring has =
    subst (Has n) (sym ring.parts)
    (Has-right n (nodes_of f) (1 ∷ (second_of f ++ 2 ∷ (free_of f ++ 3 ∷ [])))
    (inr (Has-left n (second_of f) (2 ∷ (free_of f ++ 3 ∷ [])) has)))

pub chain_has_free : (f g : List ℕ) (us : List UnitId) (n : ℕ) → IsRing f g us → Has n (free_of f) → Has n (chain f)
chain_has_free f g us n ring has =
    subst (Has n) (sym ring.parts)
    (Has-right n (nodes_of f) (1 ∷ (second_of f ++ 2 ∷ (free_of f ++ 3 ∷ [])))
    (inr (Has-right n (second_of f) (2 ∷ (free_of f ++ 3 ∷ [])) (inr (Has-left n (free_of f) (3 ∷ []) has)))))

pub live_in : (f : List ℕ) (us : List UnitId) (n : ℕ) → is_live (lists_of f us) n ≡ true → Has n (nodes_of f) ⊎ Has n (second_of f)
live_in f us n live =
    elim (or_cases (has_node n (items us (nodes_of f))) (has_node n (items us (second_of f))) live) [
      | inl first ↦ inl (has_node-Has us n (nodes_of f) first)
      | inr second ↦ inr (has_node-Has us n (second_of f) second)
    ]

pub live_has : (f g : List ℕ) (us : List UnitId) (n : ℕ) → IsRing f g us → is_live (lists_of f us) n ≡ true → Has n (chain f)
live_has f g us n ring live =
    elim (live_in f us n live) [
      | inl first ↦ chain_has_first f g us n ring first
      | inr second ↦ chain_has_second f g us n ring second
    ]

pub live_high : (f g : List ℕ) (us : List UnitId) (n : ℕ) → IsRing f g us → is_live (lists_of f us) n ≡ true → 4 ≤ n
live_high f g us n ring live =
    let parts = ring_parted f g us ring in
    elim (live_in f us n live) [
      | inl first ↦ high (nodes_of f) parts.first n first
      | inr second ↦ high (second_of f) parts.second n second
    ]

pub live_below : (f g : List ℕ) (us : List UnitId) (n : ℕ) → IsRing f g us → is_live (lists_of f us) n ≡ true → n < length f
live_below f g us n ring live = Below-Has (length f) n (chain f) ring.whole.below.1 (live_has f g us n ring live)

-- the first free node is where the link of fence 2 leads
pub record FirstFree (f : List ℕ) (n : ℕ) : Type 0 where
  pub has : Has n (free_of f)
  pub rest : List ℕ
  pub is : free_of f ≡ n ∷ rest

pub second_path : (f g : List ℕ) (us : List UnitId) → IsRing f g us → Path f g 1 (second_of f ++ 2 ∷ (free_of f ++ 3 ∷ []))
second_path f g us ring = Path-right f g 0 1 (nodes_of f) (second_of f ++ 2 ∷ (free_of f ++ 3 ∷ [])) (ring_path f g us ring)

free_path : (f g : List ℕ) (us : List UnitId) → IsRing f g us → Path f g 2 (free_of f ++ 3 ∷ [])
free_path f g us ring =
    Path-right f g 1 2 (second_of f) (free_of f ++ 3 ∷ []) (second_path f g us ring)

first_of_path : (f g zs : List ℕ) → Path f g 2 (zs ++ 3 ∷ []) → 0 < length zs → (rest : List ℕ) × (zs ≡ link f 2 ∷ rest)
first_of_path f g [] path some = absurd (omega (arith, some))
first_of_path f g (z ∷ zs) path some = (zs, ap (λ (k : ℕ). k ∷ zs) (sym path.0))

pub first_free : (f g : List ℕ) (us : List UnitId) → IsRing f g us → 0 < length (free_of f) → FirstFree f (link f 2)
first_free f g us ring some =
    let first = first_of_path f g (free_of f) (free_path f g us ring) some in
    record { has = subst (Has (link f 2)) (sym first.1) (inl refl); rest = first.0; is = first.1 }

-- the node that the call takes is the first free one
pub taken_node : (f g : List ℕ) (us : List UnitId) (lists : Lists) (f2 : List ℕ) (n : ℕ) → IsRing f g us → lists_of f us ≡ lists → 0 < lists.spare
    → f2 ≡ f → n ≡ link f2 2 → FirstFree f n
taken_node f g us lists f2 n ring view room same is =
    let some : 0 < length (free_of f) = subst (λ (ls : Lists). 0 < ls.spare) (sym view) room in
    subst (FirstFree f) (sym (is ∙ ap (λ (h : List ℕ). link h 2) same)) (first_free f g us ring some)

-- the links hold these three lists now
pub record Made (f g : List ℕ) (us : List UnitId) (xs ys zs : List ℕ) : Type 0 where
  pub ring : IsRing f g us
  pub lists : lists_of f us ≡ record { first = items us xs; second = items us ys; spare = length zs }

pub made : (f g : List ℕ) (us : List UnitId) (xs ys zs : List ℕ) → IsChain f g (chain f) → chain f ≡ fenced_numbers xs ys zs
    → length us ≡ length f → Made f g us xs ys zs
made f g us xs ys zs whole parts places =
    let p = parted xs ys zs (subst (λ (ws : List ℕ). Distinct (0 ∷ ws)) parts whole.distinct) in
    let first = nodes_of-is f xs ys zs parts p.first in
    let second = second_of-is f xs ys zs parts p.first p.second in
    let free = free_of-is f xs ys zs parts p.first p.second p.free in
    record {
      ring = record {
        whole = whole;
        parts = parts ∙ ap (λ (ws : List ℕ). fenced_numbers ws ys zs) (sym first) ∙ ap (λ (ws : List ℕ). fenced_numbers (nodes_of f) ws zs) (sym second) ∙ ap (fenced_numbers (nodes_of f) (second_of f)) (sym free);
        places = places;
      };
      lists = ap (λ (ws : List ℕ). record { first = items us ws; second = items us (second_of f); spare = length (free_of f) }) first
          ∙ ap (λ (ws : List ℕ). record { first = items us xs; second = items us ws; spare = length (free_of f) }) second
          ∙ ap (λ (ws : List ℕ). record { first = items us xs; second = items us ys; spare = length ws }) free;
    }
