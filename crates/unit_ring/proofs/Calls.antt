-- The calls that move a node, each as what callers see of it.
use Rattle.std.proofs.Common.{◌≡◌, ℕ, zero, suc, ◌+◌, ◌-◌, ◌<◌, ◌≤◌, List, [], ◌∷◌, ◌++◌, length, set, Bool, true, false, refl, sym, ◌∙◌, ap, subst, inl, inr, arith, length-set, length-append}
use Rattle.std.specs.Prelude.{◌==◌, ◌||◌, if◌then◌else◌, None}
use Rattle.std.proofs.lemmas.List.{get_or-set_same}
use Rattle.sched_base.specs.declared.UnitId.{UnitId}
use Rattle.unit_ring.specs.Lists as l
use Rattle.unit_ring.specs.Lists.{Item, Lists, item, no_unit, has_node, is_live, unit_of, unit_in, list_of, first_in, next_in, next_of, last_in, prev_from, prev_of, after_take, after_give, after_append, room_of}
use Rattle.unit_ring.specs.Chains.{Lacks, Path, Below, Distinct, IsChain, IsRing, chain, fenced_numbers, nodes_of, second_of, free_of, numbers_without, put_before, unit_at, items, lists_of, link, as_node, nodes_up_to, after_with, before_with}
use Rattle.sched_base.specs.Lists.{Has}
use Rattle.unit_ring.proofs.Linking.{IsChain-put_before, chain-is, length-chain, without-same, without-lacks, put_before-lacks, Lacks-Has, Below-Has, Lacks-without}
use Rattle.unit_ring.proofs.Fences.{Lacks-append, Plain, high, fenced-without, fenced-put_before, fenced-first_end, fenced-second_end, fenced-free_end}
use Rattle.sched_base.proofs.Lists.{Has-right}
use Rattle.unit_ring.proofs.ItemLists.{items-append, items-set, items-without, items-put_before, has_node-lacks, Has-has_node, unit_in-items, as_node-fence, first_in-items, next_in-items, last_from-items, prev_from-items}
use Rattle.unit_ring.proofs.Operations.{ring_parted, live_in, live_high, FirstFree, Made, made, chain_has_free, chain_has_1, chain_has_2, ring_path, second_path, live_has}
use Rattle.unit_ring.proofs.Shifting.{below, before_below, after_below}

Plain-tail : (n : ℕ) (xs : List ℕ) → Plain (n ∷ xs) → Plain xs
Plain-tail n xs p = record { no_0 = p.no_0.1; no_1 = p.no_1.1; no_2 = p.no_2.1; no_3 = p.no_3.1 }

Plain-without : (n : ℕ) (xs : List ℕ) → Plain xs → Plain (numbers_without n xs)
Plain-without n xs p = record {
  no_0 = Lacks-without 0 n xs p.no_0;
  no_1 = Lacks-without 1 n xs p.no_1;
  no_2 = Lacks-without 2 n xs p.no_2;
  no_3 = Lacks-without 3 n xs p.no_3;
}

-- a free node is in no list, and its number is that of a node
pub free_high : (f g : List ℕ) (us : List UnitId) (n : ℕ) → IsRing f g us → FirstFree f n → 4 ≤ n
free_high f g us n ring first = high (free_of f) (ring_parted f g us ring).free n first.has

pub free_below : (f g : List ℕ) (us : List UnitId) (n : ℕ) → IsRing f g us → FirstFree f n → n < length f
free_below f g us n ring first =
    Below-Has (length f) n (chain f) ring.whole.below.1 (chain_has_free f g us n ring first.has)

pub free_fresh : (f g : List ℕ) (us : List UnitId) (n : ℕ) → IsRing f g us → FirstFree f n → is_live (lists_of f us) n ≡ false
free_fresh f g us n ring first =
    let lacks = (ring_parted f g us ring).free_only n first.has in
    ap (λ (t : Bool). t || has_node n (items us (second_of f))) (has_node-lacks us n (nodes_of f) lacks.0)
    ∙ has_node-lacks us n (second_of f) lacks.1

-- a live node is not a free one
pub live_not_free : (f g : List ℕ) (us : List UnitId) (n at : ℕ) → IsRing f g us → FirstFree f n
    → is_live (lists_of f us) at ≡ true → at ≡ n → ⊥
live_not_free f g us n at ring first live e =
    let lacks = (ring_parted f g us ring).free_only n first.has in
    elim (live_in f us at live) [
      | inl has ↦ Lacks-Has n at (nodes_of f) lacks.0 has (sym e)
      | inr has ↦ Lacks-Has n at (second_of f) lacks.1 has (sym e)
    ]

-- the chain without the first free node, and without a live one
without_free : (f g : List ℕ) (us : List UnitId) (n : ℕ) → IsRing f g us → (first : FirstFree f n)
    → numbers_without n (chain f) ≡ fenced_numbers (nodes_of f) (second_of f) first.rest
without_free f g us n ring first =
    let parts = ring_parted f g us ring in
    let lacks = parts.free_only n first.has in
    let gone : numbers_without n (free_of f) ≡ first.rest =
    ap (numbers_without n) first.is
    ∙ without-same n n first.rest refl
    ∙ without-lacks n first.rest (subst (λ (zs : List ℕ). Distinct zs) first.is parts.free_distinct).0
    in
    ap (numbers_without n) ring.parts
    ∙ fenced-without n (nodes_of f) (second_of f) (free_of f) (free_high f g us n ring first)
    ∙ ap (λ (ws : List ℕ). fenced_numbers ws (numbers_without n (second_of f)) (numbers_without n (free_of f))) (without-lacks n (nodes_of f) lacks.0)
    ∙ ap (λ (ws : List ℕ). fenced_numbers (nodes_of f) ws (numbers_without n (free_of f))) (without-lacks n (second_of f) lacks.1)
    ∙ ap (fenced_numbers (nodes_of f) (second_of f)) gone

live_lacks_free : (f g : List ℕ) (us : List UnitId) (n : ℕ) → IsRing f g us → is_live (lists_of f us) n ≡ true → Lacks n (free_of f)
live_lacks_free f g us n ring live =
    let parts = ring_parted f g us ring in
    elim (live_in f us n live) [ inl has ↦ (parts.first_only n has).1 | inr has ↦ (parts.second_only n has).1 ]

without_live : (f g : List ℕ) (us : List UnitId) (n : ℕ) → IsRing f g us → is_live (lists_of f us) n ≡ true
    → numbers_without n (chain f) ≡ fenced_numbers (numbers_without n (nodes_of f)) (numbers_without n (second_of f)) (free_of f)
without_live f g us n ring live =
    ap (numbers_without n) ring.parts
    ∙ fenced-without n (nodes_of f) (second_of f) (free_of f) (live_high f g us n ring live)
    ∙ ap (fenced_numbers (numbers_without n (nodes_of f)) (numbers_without n (second_of f))) (without-lacks n (free_of f) (live_lacks_free f g us n ring live))

-- what holds of list 0 and of list 1
of_lists : (P : ℕ → Type 0) → P 0 → P 1 → (k : ℕ) → k ≤ 1 → P k
of_lists P first second zero low = first
of_lists P first second (suc zero) low = second
of_lists P first second (suc (suc k)) low = absurd (omega (arith, low))

spare_less : (n : ℕ) (zs rest : List ℕ) → zs ≡ n ∷ rest → length rest ≡ length zs - 1
spare_less n zs rest e =
    let count : length zs ≡ length (n ∷ rest) = ap length e in omega (arith, count)

abbrev lists : List Item → List Item → ℕ → Lists
lists xs ys k = record { first = xs; second = ys; spare = k }

append_taken : (ls : Lists) (k : ℕ) (x : Item) → after_append (after_take ls) k x ≡ after_take (after_append ls k x)
append_taken ls k x =
    elim (k == 0) as (λ t. (if t then record (after_take ls) { first = ls.first ++ x ∷ [] } else record (after_take ls) { second = ls.second ++ x ∷ [] }) ≡ after_take (if t then record ls { first = ls.first ++ x ∷ [] } else record ls { second = ls.second ++ x ∷ [] })) [
      | true ↦ refl
      | false ↦ refl
    ]

-- what the links hold once a node went to the end of a list; the lists had these items before
module _ (f g : List ℕ) (us : List UnitId) (n : ℕ) (u : UnitId) (xs ys zs : List ℕ) (first second : List Item)
    (whole : IsChain f g (chain f)) (places : length us ≡ length f) (plain_first : Plain xs) (plain_second : Plain ys) (plain_free : Plain zs)
    (is_first : items us xs ≡ first) (is_second : items us ys ≡ second) (mine : unit_at us n ≡ u) where
  end_of : (ws : List ℕ) (before : List Item) → items us ws ≡ before → items us (ws ++ n ∷ []) ≡ before ++ item n u ∷ []
  end_of ws before is =
      items-append us ws (n ∷ []) ∙ ap (λ (vs : List Item). vs ++ item n (unit_at us n) ∷ []) is ∙ ap (λ (w : UnitId). before ++ item n w ∷ []) mine

  ended : (k : ℕ) → k ≤ 1 → chain f ≡ put_before (k + 1) n (fenced_numbers xs ys zs)
      → IsRing f g us × (lists_of f us ≡ after_append (lists first second (length zs)) k (item n u))
  ended = of_lists (λ k. chain f ≡ put_before (k + 1) n (fenced_numbers xs ys zs) → IsRing f g us × (lists_of f us ≡ after_append (lists first second (length zs)) k (item n u)))
      (λ moved. (let m = made f g us (xs ++ n ∷ []) ys zs whole (moved ∙ fenced-first_end n xs ys zs plain_first plain_second plain_free) places in (
        m.ring,
        m.lists
            ∙ ap (λ (vs : List Item). lists vs (items us ys) (length zs)) (end_of xs first is_first)
            ∙ ap (λ (vs : List Item). lists (first ++ item n u ∷ []) vs (length zs)) is_second,
      )))
      (λ moved. (let m = made f g us xs (ys ++ n ∷ []) zs whole (moved ∙ fenced-second_end n xs ys zs plain_first plain_second plain_free) places in (
        m.ring,
        m.lists
            ∙ ap (λ (vs : List Item). lists vs (items us (ys ++ n ∷ [])) (length zs)) is_first
            ∙ ap (λ (vs : List Item). lists first vs (length zs)) (end_of ys second is_second),
      )))

-- a call's links and units, as they are after the first free node went before another number
module _ (f g f2 g2 : List ℕ) (us : List UnitId) (n : ℕ) (u : UnitId) (ring : IsRing f g us) (first : FirstFree f n)
    (whole : IsChain f2 g2 (chain f2)) (size : length f2 ≡ length f) where
  places : length (set us n u) ≡ length f2
  places = length-set us n u ∙ ring.places ∙ sym size

  low : n < length us
  low = subst (λ (k : ℕ). n < k) (sym ring.places) (free_below f g us n ring first)

  -- at the end of either list
  pub pushed : (k : ℕ) → k ≤ 1 → chain f2 ≡ put_before (k + 1) n (numbers_without n (chain f))
      → IsRing f2 g2 (set us n u) × (lists_of f2 (set us n u) ≡ after_take (after_append (lists_of f us) k (item n u)))
  pushed k either moved =
      let parts = ring_parted f g us ring in
      let lacks = parts.free_only n first.has in
      let free : Plain first.rest = Plain-tail n first.rest (subst Plain first.is parts.free) in
      let e = ended f2 g2 (set us n u) n u (nodes_of f) (second_of f) first.rest (items us (nodes_of f)) (items us (second_of f)) whole places parts.first parts.second free
      (items-set us n u (nodes_of f) lacks.0) (items-set us n u (second_of f) lacks.1) (get_or-set_same us n u no_unit low) k either (moved ∙ ap (put_before (k + 1) n) (without_free f g us n ring first))
      in (
        e.0,
        e.1
            ∙ ap (λ (s : ℕ). after_append (lists (items us (nodes_of f)) (items us (second_of f)) s) k (item n u)) (spare_less n (free_of f) first.rest first.is)
            ∙ append_taken (lists_of f us) k (item n u),
      )

  pub inserted : (at : ℕ) → is_live (lists_of f us) at ≡ true → chain f2 ≡ put_before at n (numbers_without n (chain f))
      → IsRing f2 g2 (set us n u) × (lists_of f2 (set us n u) ≡ after_take (l.put_before (lists_of f us) at (item n u)))
  inserted at live moved =
      let parts = ring_parted f g us ring in
      let lacks = parts.free_only n first.has in
      let free_lacks : Lacks at first.rest = (subst (Lacks at) first.is (live_lacks_free f g us at ring live)).1 in
      let is : chain f2 ≡ fenced_numbers (put_before at n (nodes_of f)) (put_before at n (second_of f)) first.rest =
      moved
      ∙ ap (put_before at n) (without_free f g us n ring first)
      ∙ fenced-put_before at n (nodes_of f) (second_of f) first.rest (live_high f g us at ring live)
      ∙ ap (fenced_numbers (put_before at n (nodes_of f)) (put_before at n (second_of f))) (put_before-lacks at n first.rest free_lacks)
      in
      let m = made f2 g2 (set us n u) (put_before at n (nodes_of f)) (put_before at n (second_of f)) first.rest whole is places in (
        m.ring,
        m.lists
            ∙ ap (λ (xs : List Item). lists xs (items (set us n u) (put_before at n (second_of f))) (length first.rest)) (items-put_before us at n u (nodes_of f) lacks.0 low)
            ∙ ap (λ (ys : List Item). lists (l.put_before_in at (item n u) (items us (nodes_of f))) ys (length first.rest)) (items-put_before us at n u (second_of f) lacks.1 low)
            ∙ ap (lists (l.put_before_in at (item n u) (items us (nodes_of f))) (l.put_before_in at (item n u) (items us (second_of f)))) (spare_less n (free_of f) first.rest first.is),
      )

-- what is told of a live node is told by the list that has it
by_list : {X : Type 0} (f g : List ℕ) (us : List UnitId) (n : ℕ) → IsRing f g us → is_live (lists_of f us) n ≡ true → (told : List Item → X) (x : X)
    → (Has n (nodes_of f) → x ≡ told (items us (nodes_of f))) → (Has n (second_of f) → x ≡ told (items us (second_of f)))
    → x ≡ (if has_node n (items us (nodes_of f)) then told (items us (nodes_of f)) else told (items us (second_of f)))
by_list {X} f g us n ring live told x first second =
    let pick : Bool → X = λ t. if t then told (items us (nodes_of f)) else told (items us (second_of f)) in
    elim (live_in f us n live) [
      | inl has ↦ first has ∙ sym (ap pick (Has-has_node us n (nodes_of f) has))
      | inr has ↦ second has ∙ sym (ap pick (has_node-lacks us n (nodes_of f) ((ring_parted f g us ring).second_only n has).0))
    ]

-- the unit of a live node
pub unit_of_live : (f g : List ℕ) (us : List UnitId) (n : ℕ) → IsRing f g us → is_live (lists_of f us) n ≡ true
    → unit_at us n ≡ unit_of (lists_of f us) n
unit_of_live f g us n ring live =
    by_list f g us n ring live (unit_in n) (unit_at us n) (λ has. sym (unit_in-items us n (nodes_of f) has)) (λ has. sym (unit_in-items us n (second_of f) has))

-- a call's links, as they are after a live node went before a fence
module _ (f g f2 g2 : List ℕ) (us : List UnitId) (n : ℕ) (ring : IsRing f g us) (live : is_live (lists_of f us) n ≡ true)
    (whole : IsChain f2 g2 (chain f2)) (size : length f2 ≡ length f) where
  kept_places : length us ≡ length f2
  kept_places = ring.places ∙ sym size

  first_without : Plain (numbers_without n (nodes_of f))
  first_without = Plain-without n (nodes_of f) (ring_parted f g us ring).first

  second_without : Plain (numbers_without n (second_of f))
  second_without = Plain-without n (second_of f) (ring_parted f g us ring).second

  pub unlinked : chain f2 ≡ put_before 3 n (numbers_without n (chain f))
      → IsRing f2 g2 us × (lists_of f2 us ≡ after_give (l.lists_without (lists_of f us) n))
  unlinked moved =
      let is : chain f2 ≡ fenced_numbers (numbers_without n (nodes_of f)) (numbers_without n (second_of f)) (free_of f ++ n ∷ []) =
      moved
      ∙ ap (put_before 3 n) (without_live f g us n ring live)
      ∙ fenced-free_end n (numbers_without n (nodes_of f)) (numbers_without n (second_of f)) (free_of f) first_without second_without (ring_parted f g us ring).free
      in
      let m = made f2 g2 us (numbers_without n (nodes_of f)) (numbers_without n (second_of f)) (free_of f ++ n ∷ []) whole is kept_places in
      let more : length (free_of f ++ n ∷ []) ≡ length (free_of f) + 1 = length-append (free_of f) (n ∷ []) in (
        m.ring,
        m.lists
            ∙ ap (λ (xs : List Item). lists xs (items us (numbers_without n (second_of f))) (length (free_of f ++ n ∷ []))) (items-without us n (nodes_of f))
            ∙ ap (λ (ys : List Item). lists (l.without_in n (items us (nodes_of f))) ys (length (free_of f ++ n ∷ []))) (items-without us n (second_of f))
            ∙ ap (lists (l.without_in n (items us (nodes_of f))) (l.without_in n (items us (second_of f)))) more,
      )

  -- to the end of either list
  pub shifted : (k : ℕ) → k ≤ 1 → chain f2 ≡ put_before (k + 1) n (numbers_without n (chain f))
      → IsRing f2 g2 us × (lists_of f2 us ≡ after_append (l.lists_without (lists_of f us) n) k (item n (unit_of (lists_of f us) n)))
  shifted k either moved =
      ended f2 g2 us n (unit_of (lists_of f us) n) (numbers_without n (nodes_of f)) (numbers_without n (second_of f)) (free_of f)
      (l.without_in n (items us (nodes_of f))) (l.without_in n (items us (second_of f))) whole kept_places first_without second_without (ring_parted f g us ring).free
      (items-without us n (nodes_of f)) (items-without us n (second_of f)) (unit_of_live f g us n ring live) k either (moved ∙ ap (put_before (k + 1) n) (without_live f g us n ring live))

-- the chain has the fence after either list
pub chain_has_end : (f g : List ℕ) (us : List UnitId) (k : ℕ) → IsRing f g us → k ≤ 1 → Has (k + 1) (chain f)
chain_has_end f g us k ring = of_lists (λ j. Has (j + 1) (chain f)) (chain_has_1 f g us ring) (chain_has_2 f g us ring) k

-- where the links lead from the fence before a list, and from a live node
pub first_is : (f g : List ℕ) (us : List UnitId) (k : ℕ) → IsRing f g us → k ≤ 1
    → as_node (link f k) ≡ first_in (list_of (lists_of f us) k)
first_is f g us k ring =
    let parts = ring_parted f g us ring in
    of_lists (λ j. as_node (link f j) ≡ first_in (list_of (lists_of f us) j))
    (first_in-items f g us 0 1 (nodes_of f) (second_of f ++ 2 ∷ (free_of f ++ 3 ∷ [])) (ring_path f g us ring) (high (nodes_of f) parts.first) (omega arith))
    (first_in-items f g us 1 2 (second_of f) (free_of f ++ 3 ∷ []) (second_path f g us ring) (high (second_of f) parts.second) (omega arith)) k

pub next_is : (f g : List ℕ) (us : List UnitId) (n : ℕ) → IsRing f g us → is_live (lists_of f us) n ≡ true
    → as_node (link f n) ≡ next_of (lists_of f us) n
next_is f g us n ring live =
    let parts = ring_parted f g us ring in
    by_list f g us n ring live (next_in n) (as_node (link f n))
    (next_in-items f g us 0 n 1 (nodes_of f) (second_of f ++ 2 ∷ (free_of f ++ 3 ∷ [])) (ring_path f g us ring) parts.first_distinct (high (nodes_of f) parts.first) (omega arith))
    (next_in-items f g us 1 n 2 (second_of f) (free_of f ++ 3 ∷ []) (second_path f g us ring) parts.second_distinct (high (second_of f) parts.second) (omega arith))

-- the same back: from the fence after a list, and from a live node
pub last_is : (f g : List ℕ) (us : List UnitId) (k : ℕ) → IsRing f g us → k ≤ 1
    → as_node (link g (k + 1)) ≡ last_in (list_of (lists_of f us) k)
last_is f g us k ring =
    let parts = ring_parted f g us ring in
    of_lists (λ j. as_node (link g (j + 1)) ≡ last_in (list_of (lists_of f us) j))
    (last_from-items f g us 0 1 None (nodes_of f) (second_of f ++ 2 ∷ (free_of f ++ 3 ∷ [])) (ring_path f g us ring) (high (nodes_of f) parts.first) (as_node-fence 0 (omega arith)))
    (last_from-items f g us 1 2 None (second_of f) (free_of f ++ 3 ∷ []) (second_path f g us ring) (high (second_of f) parts.second) (as_node-fence 1 (omega arith))) k

pub prev_is : (f g : List ℕ) (us : List UnitId) (n : ℕ) → IsRing f g us → is_live (lists_of f us) n ≡ true
    → as_node (link g n) ≡ prev_of (lists_of f us) n
prev_is f g us n ring live =
    let parts = ring_parted f g us ring in
    by_list f g us n ring live (prev_from None n) (as_node (link g n))
    (prev_from-items f g us 0 n 1 None (nodes_of f) (second_of f ++ 2 ∷ (free_of f ++ 3 ∷ [])) (ring_path f g us ring) (high (nodes_of f) parts.first) (as_node-fence 0 (omega arith)))
    (prev_from-items f g us 1 n 2 None (second_of f) (free_of f ++ 3 ∷ []) (second_path f g us ring) (high (second_of f) parts.second) (as_node-fence 1 (omega arith)))

-- what is read at a live node
pub read_unit : (f g : List ℕ) (us : List UnitId) (lists : Lists) (n : ℕ) (u : UnitId) → IsRing f g us → lists_of f us ≡ lists
    → is_live lists n ≡ true → u ≡ unit_at us n → u ≡ unit_of lists n
read_unit f g us lists n u ring view live read =
    let live_here : is_live (lists_of f us) n ≡ true = subst (λ (ls : Lists). is_live ls n ≡ true) (sym view) live in
    read
    ∙ unit_of_live f g us n ring live_here
    ∙ ap (λ (ls : Lists). unit_of ls n) view

-- the numbers of nodes so far: what they lack, and how many there are
Lacks-up_to : (m k : ℕ) → ((j : ℕ) → j < k → m ≡ 4 + j → ⊥) → Lacks m (nodes_up_to k)
Lacks-up_to m zero none = tt
Lacks-up_to m (suc k) none =
    Lacks-append m (nodes_up_to k) ((4 + k) ∷ []) (Lacks-up_to m k (λ j low. none j (omega (arith, low)))) (none k (omega arith), tt)

pub Plain-up_to : (k : ℕ) → Plain (nodes_up_to k)
Plain-up_to k = record {
  no_0 = Lacks-up_to 0 k (λ j low e. omega (arith, e));
  no_1 = Lacks-up_to 1 k (λ j low e. omega (arith, e));
  no_2 = Lacks-up_to 2 k (λ j low e. omega (arith, e));
  no_3 = Lacks-up_to 3 k (λ j low e. omega (arith, e));
}

pub length-up_to : (k : ℕ) → length (nodes_up_to k) ≡ k
length-up_to zero = refl
length-up_to (suc k) =
    let more : length (nodes_up_to k ++ (4 + k) ∷ []) ≡ length (nodes_up_to k) + 1 = length-append (nodes_up_to k) ((4 + k) ∷ []) in
    omega (arith, more, length-up_to k)

-- the next number is not in the chain of those before it
pub next_lacks : (k : ℕ) → Lacks (4 + k) (0 ∷ fenced_numbers [] [] (nodes_up_to k))
next_lacks k = (
  (λ e. omega (arith, e)),
  ((λ e. omega (arith, e)), ((λ e. omega (arith, e)), Lacks-append (4 + k) (nodes_up_to k) (3 ∷ []) (Lacks-up_to (4 + k) k (λ j low e. omega (arith, low, e))) ((λ e. omega (arith, e)), tt))),
)

-- with the next number before the last fence
pub with_next : (f g : List ℕ) (k : ℕ) → IsChain f g (fenced_numbers [] [] (nodes_up_to k)) → 4 + k < length f
    → IsChain (after_with f g 3 (4 + k)) (before_with f g 3 (4 + k)) (fenced_numbers [] [] (nodes_up_to (suc k)))
with_next f g k c low =
    let has : Has 3 (fenced_numbers [] [] (nodes_up_to k)) = inr (inr (Has-right 3 (nodes_up_to k) (3 ∷ []) (inl refl))) in
    let none : Plain [] = record { no_0 = tt; no_1 = tt; no_2 = tt; no_3 = tt } in
    subst (IsChain (after_with f g 3 (4 + k)) (before_with f g 3 (4 + k)))
    (fenced-free_end (4 + k) [] [] (nodes_up_to k) none none (Plain-up_to k))
    (IsChain-put_before f g (fenced_numbers [] [] (nodes_up_to k)) 3 (4 + k) c has (next_lacks k) low)

-- what the chain of all numbers makes
pub opened : (f g : List ℕ) (us : List UnitId) (k : ℕ) → IsChain f g (fenced_numbers [] [] (nodes_up_to k)) → length f ≡ k + 4 → length us ≡ length f
    → Made f g us [] [] (nodes_up_to k)
opened f g us k c size places =
    let count : length (nodes_up_to k ++ 3 ∷ []) ≡ length (nodes_up_to k) + 1 = length-append (nodes_up_to k) (3 ∷ []) in
    let all : length (fenced_numbers [] [] (nodes_up_to k)) ≡ length (nodes_up_to k ++ 3 ∷ []) + 2 = omega arith in
    let is : chain f ≡ fenced_numbers [] [] (nodes_up_to k) = chain-is f g (fenced_numbers [] [] (nodes_up_to k)) c (omega (arith, size, count, all, length-up_to k)) in
    made f g us [] [] (nodes_up_to k) (subst (IsChain f g) (sym is) c) is places

-- there are as many numbers as nodes and fences
length-items : (us : List UnitId) (xs : List ℕ) → length (items us xs) ≡ length xs
length-items us [] = refl
length-items us (x ∷ xs) = ap suc (length-items us xs)

length-fenced : (xs ys zs : List ℕ) → length (fenced_numbers xs ys zs) ≡ length xs + length ys + length zs + 3
length-fenced xs ys zs =
    let free : length (zs ++ 3 ∷ []) ≡ length zs + 1 = length-append zs (3 ∷ []) in
    let second : length (ys ++ 2 ∷ (zs ++ 3 ∷ [])) ≡ length ys + length (2 ∷ (zs ++ 3 ∷ [])) = length-append ys (2 ∷ (zs ++ 3 ∷ [])) in
    let first : length (fenced_numbers xs ys zs) ≡ length xs + length (1 ∷ (ys ++ 2 ∷ (zs ++ 3 ∷ []))) = length-append xs (1 ∷ (ys ++ 2 ∷ (zs ++ 3 ∷ []))) in
    omega (arith, free, second, first)

pub room_is : (f g : List ℕ) (us : List UnitId) → IsRing f g us → room_of (lists_of f us) + 4 ≡ length f
room_is f g us ring =
    let all : length (chain f) ≡ length (nodes_of f) + length (second_of f) + length (free_of f) + 3 =
    ap length ring.parts ∙ length-fenced (nodes_of f) (second_of f) (free_of f)
    in
    let first = length-items us (nodes_of f) in
    let second = length-items us (second_of f) in
    omega (arith, all, first, second, length-chain f ring.whole.below.0)

pub free_number : (f g : List ℕ) (us : List UnitId) (lists : Lists) (n : ℕ) → IsRing f g us → lists_of f us ≡ lists → FirstFree f n
    → n < room_of lists + 4
free_number f g us lists n ring view first =
    subst (λ (ls : Lists). n < room_of ls + 4) view (omega (arith, free_below f g us n ring first, room_is f g us ring))

-- where the links of a ring lead is within it
first_below : (f g ys : List ℕ) (m : ℕ) → Path f g 0 ys → Below m ys → Has 1 ys → link f 0 < m
first_below f g [] m path low has = absurd has
first_below f g (y ∷ ys) m path low has = omega (arith, path.0, low.0)

pub list_low : (f g : List ℕ) (us : List UnitId) (k : ℕ) → IsRing f g us → k ≤ 1 → k < length f
list_low f g us k ring either =
    let one = below f g (chain f) ring.whole 1 (chain_has_1 f g us ring) in omega (arith, either, one)

pub list_below : (f g : List ℕ) (us : List UnitId) (k : ℕ) → IsRing f g us → k ≤ 1 → link f k < length f
list_below f g us k ring =
    of_lists (λ j. link f j < length f) (first_below f g (chain f) (length f) ring.whole.path ring.whole.below.1 (chain_has_1 f g us ring))
    (after_below f g (chain f) ring.whole 1 (chain_has_1 f g us ring) (λ e. omega (arith, e))) k

pub end_low : (f g : List ℕ) (us : List UnitId) (k : ℕ) → IsRing f g us → k ≤ 1 → k + 1 < length f
end_low f g us k ring either = below f g (chain f) ring.whole (k + 1) (chain_has_end f g us k ring either)

pub end_below : (f g : List ℕ) (us : List UnitId) (k : ℕ) → IsRing f g us → k ≤ 1 → link g (k + 1) < length f
end_below f g us k ring either = before_below f g (chain f) ring.whole (k + 1) (chain_has_end f g us k ring either)

pub live_prev : (f g : List ℕ) (us : List UnitId) (n : ℕ) → IsRing f g us → is_live (lists_of f us) n ≡ true → link g n < length f
live_prev f g us n ring live = before_below f g (chain f) ring.whole n (live_has f g us n ring live)

pub free_low : (f g : List ℕ) (us : List UnitId) → IsRing f g us → 2 < length f
free_low f g us ring = below f g (chain f) ring.whole 2 (chain_has_2 f g us ring)

pub free_next : (f g : List ℕ) (us : List UnitId) → IsRing f g us → link f 2 < length f
free_next f g us ring = after_below f g (chain f) ring.whole 2 (chain_has_2 f g us ring) (λ e. omega (arith, e))

pub live_next : (f g : List ℕ) (us : List UnitId) (n : ℕ) → IsRing f g us → is_live (lists_of f us) n ≡ true → link f n < length f
live_next f g us n ring live =
    let more = live_high f g us n ring live in
    after_below f g (chain f) ring.whole n (live_has f g us n ring live) (λ e. omega (arith, e, more))

-- the same ring, by other names of its lists
pub carried : (f g f2 g2 : List ℕ) (us us2 : List UnitId) (ls : Lists) → IsRing f g us × (lists_of f us ≡ ls) → f2 ≡ f → g2 ≡ g → us2 ≡ us
    → IsRing f2 g2 us2 × (lists_of f2 us2 ≡ ls)
carried f g f2 g2 us us2 ls both e h u = (
  subst (λ (p : List ℕ × (List ℕ × List UnitId)). IsRing p.0 p.1.0 p.1.1) (λ i. (sym e i, (sym h i, sym u i))) both.0,
  ap (λ (p : List ℕ × List UnitId). lists_of p.0 p.1) (λ i. (e i, u i)) ∙ both.1,
)
