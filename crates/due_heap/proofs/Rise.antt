-- A changed moment is carried up: what is right on the way, and when the rest is.
use Rattle.std.proofs.Common.{◌≡◌, ◌≢◌, ℕ, ◌+◌, ◌-◌, ◌*◌, ◌/◌, ◌^◌, ◌≤◌, ◌<◌, Option, List, length, set, Bool, true, false, refl, sym, ◌∙◌, ap, subst, inl, inr, arith}
use Rattle.std.specs.Prelude.{if◌then◌else◌}
use Rattle.std.proofs.lemmas.Bool.{cases_eq}
use Rattle.std.proofs.lemmas.List.{length-set}
use Rattle.sched_base.specs.declared.Moment.{Moment}
use Rattle.due_heap.specs.Dues.{armed_moment}
use Rattle.due_heap.specs.Winners.{is_due_before, sooner_id, node_winner, IsAncestor, IsFirstUnder, IsTree, IsTreeBut}
use Rattle.due_heap.proofs.Tree.{not_before-trans, is_before-same, precedes-either, precedes-not_both, ancestor-self, ancestor-trans, ancestor-parent, ancestor-le, ancestor-cases, ancestor-told, played, winner-set_same, winner-set_other}

-- the nodes that are neither k nor above it are right, and k and those above it stand as they did
pub record IsRising (id : ℕ) (moments before : List (Option Moment)) (winners : List ℕ) (k : ℕ) : Type 0 where
  pub few : length moments ≤ 2 ^ 16
  pub below : id < length moments
  pub size : length winners ≡ length moments
  pub size_before : length before ≡ length moments
  pub same : (other : ℕ) → other ≢ id → armed_moment before other ≡ armed_moment moments other
  pub inner : k < length moments
  pub path : 1 ≤ k → IsAncestor k (length moments + id)
  pub rest : (j : ℕ) → 1 ≤ j → j < length moments → (IsAncestor j k → ⊥) → IsFirstUnder moments j (node_winner winners j)
  pub above : (j : ℕ) → 1 ≤ j → j < length moments → IsAncestor j k → IsFirstUnder before j (node_winner winners j)

-- the first under a node stays so where neither it nor any other that is under it has changed
moved : (id : ℕ) (moments before : List (Option Moment)) → length before ≡ length moments
    → ((other : ℕ) → other ≢ id → armed_moment before other ≡ armed_moment moments other)
    → (k w : ℕ) → IsFirstUnder before k w → (IsAncestor k (length moments + id) → ⊥) → IsFirstUnder moments k w
moved id moments before size same k w was away =
    let under : IsAncestor k (length moments + w) = subst (λ (n : ℕ). IsAncestor k (n + w)) size was.under in
    let below = was.below in
    record {
      below = omega (arith, below, size);
      under = under;
      first = λ other inside a.
          sym (is_before-same before moments other w (same other (not_id other a)) (same w (not_id w under)))
          ∙ was.first other (omega (arith, inside, size)) (subst (λ (n : ℕ). IsAncestor k (n + other)) (sym size) a);
    }
  where
    not_id : (other : ℕ) → IsAncestor k (length moments + other) → other ≢ id
    not_id other a e = away (subst (λ (o : ℕ). IsAncestor k (length moments + o)) e a)

pub rise_begins : (id : ℕ) (moments : List (Option Moment)) (winners : List ℕ) → id < length moments → (but : IsTreeBut id moments winners)
    → IsRising id moments but.before winners ((length winners + id) / 2)
rise_begins id moments winners below but =
    let few = but.tree.few in
    let size_before = but.size in
    let size : length winners ≡ length moments = but.tree.size ∙ but.size in
    let leaf : length winners + id ≡ length moments + id = ap (λ (n : ℕ). n + id) size in
    record {
      few = omega (arith, few, size_before);
      below = below;
      size = size;
      size_before = size_before;
      same = but.same;
      inner = omega (arith, below, size);
      path = λ one. subst (λ (n : ℕ). IsAncestor ((length winners + id) / 2) n) leaf
          (ancestor-parent (length winners + id) (length winners + id) (ancestor-self (length winners + id)));
      rest = λ j one inside away.
          moved id moments but.before but.size but.same j (node_winner winners j) (but.tree.each j one (omega (arith, inside, size_before)))
          (λ a. elim (ancestor-cases j (length moments + id) a) [
            | inl e ↦ omega (arith, e, inside)
            | inr higher ↦ away (subst (λ (n : ℕ). IsAncestor j (n / 2)) (sym leaf) higher)
          ]);
      above = λ j one inside a. but.tree.each j one (omega (arith, inside, size_before));
    }

-- the sooner one of two is so in either order, and of a node and the one beside it
sooner-swap : (moments : List (Option Moment)) (a b : ℕ) → sooner_id moments a b ≡ sooner_id moments b a
sooner-swap moments a b = by (is_due_before moments b a) refl (is_due_before moments a b) refl
  where
    by : (p : Bool) → is_due_before moments b a ≡ p → (q : Bool) → is_due_before moments a b ≡ q → (if p then b else a) ≡ (if q then a else b)
    by true one true two = let no = precedes-not_both (armed_moment moments a) a (armed_moment moments b) b one in absurd (cc)
    by true one false two = refl
    by false one true two = refl
    by false one false two = precedes-either (armed_moment moments a) a (armed_moment moments b) b two one

pub beside : (moments : List (Option Moment)) (w : ℕ → ℕ) (k : ℕ)
    → sooner_id moments (w k) (w (4 * (k / 2) + 1 - k)) ≡ sooner_id moments (w (2 * (k / 2))) (w (2 * (k / 2) + 1))
beside moments w k =
    elim (cases_eq k (2 * (k / 2))) [
      | inl even ↦
          let other : 4 * (k / 2) + 1 - k ≡ 2 * (k / 2) + 1 = omega (arith, even) in
          ap (λ (j : ℕ). sooner_id moments (w k) (w j)) other ∙ ap (λ (j : ℕ). sooner_id moments (w j) (w (2 * (k / 2) + 1))) even
      | inr odd ↦
          let is : k ≡ 2 * (k / 2) + 1 = omega (arith, odd) in
          let other : 4 * (k / 2) + 1 - k ≡ 2 * (k / 2) = omega (arith, is) in
          ap (λ (j : ℕ). sooner_id moments (w k) (w j)) other
          ∙ ap (λ (j : ℕ). sooner_id moments (w j) (w (2 * (k / 2)))) is
          ∙ sooner-swap moments (w (2 * (k / 2) + 1)) (w (2 * (k / 2)))
    ]

-- the nodes after k are right
rise_later : (id : ℕ) (moments before : List (Option Moment)) (winners : List ℕ) (k : ℕ) → IsRising id moments before winners k
    → (j : ℕ) → k < j → j < length moments → IsFirstUnder moments j (node_winner winners j)
rise_later id moments before winners k rising j after inside =
    rising.rest j (omega (arith, after)) inside (λ a. let le = ancestor-le j k a in omega (arith, le, after))

rise_played : (id : ℕ) (moments before : List (Option Moment)) (winners : List ℕ) (k : ℕ) → IsRising id moments before winners k → 1 ≤ k
    → IsFirstUnder moments k (sooner_id moments (node_winner winners (2 * k)) (node_winner winners (2 * k + 1)))
rise_played id moments before winners k rising some =
    played moments winners k rising.size some rising.inner (rise_later id moments before winners k rising)

pub rise_on : (id : ℕ) (moments before : List (Option Moment)) (winners : List ℕ) (k : ℕ) → IsRising id moments before winners k → 1 ≤ k
    → IsRising id moments before (set winners k (sooner_id moments (node_winner winners (2 * k)) (node_winner winners (2 * k + 1)))) (k / 2)
rise_on id moments before winners k rising some =
    let w = sooner_id moments (node_winner winners (2 * k)) (node_winner winners (2 * k + 1)) in
    let size = rising.size in
    let inner = rising.inner in
    record {
      few = rising.few;
      below = rising.below;
      size = length-set winners k w ∙ size;
      size_before = rising.size_before;
      same = rising.same;
      inner = omega (arith, inner);
      path = λ one. ancestor-parent k (length moments + id) (rising.path some);
      rest = λ j one inside away. elim (cases_eq j k) [
        | inl e ↦
            subst (λ (i : ℕ). IsFirstUnder moments i (node_winner (set winners k w) i)) (sym e)
            (subst (λ (x : ℕ). IsFirstUnder moments k x) (sym (winner-set_same winners k w (omega (arith, size, inner))))
            (rise_played id moments before winners k rising some))
        | inr ne ↦
            subst (λ (x : ℕ). IsFirstUnder moments j x) (sym (winner-set_other winners k w j ne))
            (rising.rest j one inside (λ a. elim (ancestor-cases j k a) [
              | inl e ↦ ne e
              | inr higher ↦ away higher
            ]))
      ];
      above = λ j one inside a.
          let le = ancestor-le j (k / 2) a in
          subst (λ (x : ℕ). IsFirstUnder before j x) (sym (winner-set_other winners k w j (λ e. omega (arith, e, le, some))))
          (rising.above j one inside (ancestor-trans j (k / 2) k a (ancestor-parent k k (ancestor-self k))));
    }

pub rise_ends : (id : ℕ) (moments before : List (Option Moment)) (winners : List ℕ) (k : ℕ) → IsRising id moments before winners k → k ≡ 0
    → IsTree moments winners
rise_ends id moments before winners k rising end = record {
  few = rising.few;
  size = rising.size;
  each = λ j one inside. rising.rest j one inside (λ a. let le = ancestor-le j k a in omega (arith, le, end, one));
}

-- where the winner at k stays and is not the changed id, those above are right too
pub rise_rests : (id : ℕ) (moments before : List (Option Moment)) (winners : List ℕ) (k : ℕ) → IsRising id moments before winners k → 1 ≤ k
    → node_winner winners k ≡ sooner_id moments (node_winner winners (2 * k)) (node_winner winners (2 * k + 1)) → node_winner winners k ≢ id
    → IsTree moments winners
rise_rests id moments before winners k rising some stays other_id = record {
  few = rising.few;
  size = rising.size;
  each = λ j one inside. elim (ancestor-told k j k (omega arith) one) [
    | inl a ↦ high j one inside a
    | inr away ↦ rising.rest j one inside away
  ];
}
  where
    w : ℕ
    w = node_winner winners k

    now_first : IsFirstUnder moments k w
    now_first = subst (λ (x : ℕ). IsFirstUnder moments k x) (sym stays) (rise_played id moments before winners k rising some)

    high : (j : ℕ) → 1 ≤ j → j < length moments → IsAncestor j k → IsFirstUnder moments j (node_winner winners j)
    high j one inside a = record {
      below = below;
      under = under;
      first = λ other other_below other_under. elim (cases_eq other id) [
        | inl e ↦ subst (λ (o : ℕ). is_due_before moments o v ≡ false) (sym e)
            (not_before-trans moments v w id
            (sym (is_before-same before moments w v (rising.same w other_id) (rising.same v v_other)) ∙ w_after)
            (now_first.first id rising.below (rising.path some)))
        | inr ne ↦
            sym (is_before-same before moments other v (rising.same other ne) (rising.same v v_other))
            ∙ was.first other (omega (arith, other_below, size_before)) (to_before j other other_under)
      ];
    }
      where
        v : ℕ
        v = node_winner winners j

        size_before : length before ≡ length moments
        size_before = rising.size_before

        to_before : (i o : ℕ) → IsAncestor i (length moments + o) → IsAncestor i (length before + o)
        to_before i o a_was = subst (λ (n : ℕ). IsAncestor i (n + o)) (sym size_before) a_was

        was : IsFirstUnder before j v
        was = rising.above j one inside a

        below : v < length moments
        below = let b = was.below in omega (arith, b, size_before)

        under : IsAncestor j (length moments + v)
        under = subst (λ (n : ℕ). IsAncestor j (n + v)) size_before was.under

        w_after : is_due_before before w v ≡ false
        w_after =
            let b = now_first.below in
            was.first w (omega (arith, b, size_before))
            (to_before j w (ancestor-trans j k (length moments + w) a now_first.under))

        v_other : v ≢ id
        v_other e =
            let was_k = rising.above k some rising.inner (ancestor-self k) in
            let b = rising.below in
            let id_after : is_due_before before id w ≡ false = was_k.first id (omega (arith, b, size_before)) (to_before k id (rising.path some)) in
            let v_after : is_due_before before v w ≡ false = subst (λ (i : ℕ). is_due_before before i w ≡ false) (sym e) id_after in
            other_id (precedes-either (armed_moment before w) w (armed_moment before v) v w_after v_after ∙ e)
