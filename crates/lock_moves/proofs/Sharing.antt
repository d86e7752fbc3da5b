-- A seat is split in two, and two seats are view_joined.
use Rattle.std.proofs.Common.{◌≡◌, ℕ, zero, suc, ◌+◌, ◌<◌, ◌≤◌, ◌≢◌, true, true≢false, cond, eqb, leb, List, [], ◌∷◌, ◌++◌, length, set, Some, sym, refl, ap, ◌∙◌, subst, ⊎_elim, eq-eqb, ne_eqb, arith, lt_irrefl, le_of_lt, leb-true, leb-false}
use mathlib.Core.Logic.{dite}
use mathlib.Core.Option.{some, some-injective, some-ne-none}
use native.Mathlib.Decide.{ℕ_discrete}
use mathlib.Core.List.{IsPrefix}
use lib.ListN.{get_elem?}
use Rattle.atomic_table.specs.Table.{Splits, Joins}
use Rattle.atomic_table.proofs.Lists.{set_else, at_longer}
use Rattle.journal_core.specs.Parts.{StatePart}
use Rattle.sched_model.specs.declared.event.Entry.{Entry}
use Rattle.sched_model.specs.declared.machine.Machine.{Machine}
use Rattle.lock_moves.specs.SeatSight.{Known, View, find_lock, Holds, has_place, Rising, longer_history, view_lessened, view_newcomer, view_joined, spent_view}
use Rattle.lock_moves.specs.Agreement.{shares_of, Has, Agrees}
use Rattle.lock_moves.proofs.Finding.{never, set_there, set_all, set_some}
use Rattle.lock_moves.proofs.Moving.{Begins, Beside, beside_none, shares-set, fronts_same, has_moved, Names_of, names_of, names_none, names_viewed, Stages_of, stages_of, stages_viewed}
use Rattle.lock_moves.proofs.Prefix.{prefix_length}
use Rattle.std.proofs.Math.ListN.{drop_of_length-le}
use Rattle.std.proofs.lemmas.List.{append-nil}
use Rattle.lock_moves.proofs.Places.{case, both-rising, both-either, both-left, both-right}

module _ {A : Type 0} where
  snoc_all : (P : ℕ → A → Type 0) (l : List A) (a : A) → ((j : ℕ) (b : A) → get_elem? l j ≡ some b → P j b) → ((j : ℕ) → P j a) → (j : ℕ) (b : A) → get_elem? (l ++ a ∷ []) j ≡ some b → P j b
  snoc_all P [] a old new zero b e = subst (P zero) (some-injective a b e) (new zero)
  snoc_all P [] a old new (suc j) b e = absurd (some-ne-none b (sym e))
  snoc_all P (x ∷ xs) a old new zero b e = old zero b e
  snoc_all P (x ∷ xs) a old new (suc j) b e = snoc_all (λ j b. P (suc j) b) xs a (λ j b e. old (suc j) b e) (λ j. new (suc j)) j b e

shares-snoc : (l : List View) (v : View) → shares_of (l ++ v ∷ []) ≡ shares_of l + v.seen.shares
shares-snoc [] v = omega arith
shares-snoc (x ∷ xs) v = let r = shares-snoc xs v in omega (arith, r)

prefix_whole : (xs ys : List Entry) → IsPrefix xs ys → length ys ≤ length xs → xs ≡ ys
prefix_whole [] [] p l = refl
prefix_whole [] (y ∷ ys) p l = absurd (omega (arith, l))
prefix_whole (x ∷ xs) [] p l = absurd (omega (arith, ap length p.1))
prefix_whole (x ∷ xs) (y ∷ ys) p l = let t = prefix_whole xs ys (p.0, ap tail p.1) (omega (arith, l)) in λ i. first y (p.1 i) ∷ t i
  where
    first : Entry → List Entry → Entry
    first d [] = d
    first d (x ∷ xs) = x

    tail : List Entry → List Entry
    tail [] = []
    tail (x ∷ xs) = xs

-- of two beginnings of one history the shorter begins the longer
begins_longer : (xs ys h : List Entry) → IsPrefix xs h → IsPrefix ys h → length xs ≤ length ys → IsPrefix xs ys
begins_longer [] ys h p q l = (ys, refl)
begins_longer (x ∷ xs) [] h p q l = absurd (omega (arith, l))
begins_longer (x ∷ xs) (y ∷ ys) [] p q l = absurd (omega (arith, ap length p.1))
begins_longer (x ∷ xs) (y ∷ ys) (z ∷ h) p q l =
    let t = begins_longer xs ys h (p.0, ap tail p.1) (q.0, ap tail q.1) (omega (arith, l)) in
    let same : x ≡ y = ap (first z) p.1 ∙ sym (ap (first z) q.1) in
    (t.0, λ i. same i ∷ t.1 i)
  where
    first : Entry → List Entry → Entry
    first d [] = d
    first d (x ∷ xs) = x

    tail : List Entry → List Entry
    tail [] = []
    tail (x ∷ xs) = xs

longer-first : (xs ys : List Entry) → length ys ≤ length xs → longer_history xs ys ≡ xs
longer-first xs ys l = ap (λ (z : List Entry). xs ++ z) (drop_of_length-le ys l) ∙ append-nil xs

longer-second : (h xs ys : List Entry) → IsPrefix xs h → IsPrefix ys h → length xs ≤ length ys → longer_history xs ys ≡ ys
longer-second h [] ys p q l = refl
longer-second h (x ∷ xs) [] p q l = absurd (omega (arith, l))
longer-second [] (x ∷ xs) (y ∷ ys) p q l = absurd (omega (arith, ap length p.1))
longer-second (z ∷ h) (x ∷ xs) (y ∷ ys) p q l =
    let t = longer-second h xs ys (p.0, ap tail p.1) (q.0, ap tail q.1) (omega (arith, l)) in
    let same : x ≡ y = ap (first z) p.1 ∙ sym (ap (first z) q.1) in
    λ i. same i ∷ t i
  where
    first : Entry → List Entry → Entry
    first d [] = d
    first d (x ∷ xs) = x

    tail : List Entry → List Entry
    tail [] = []
    tail (x ∷ xs) = xs

-- what is true of two beginnings of one history is true of the longer
pub longer_case : (P : List Entry → Type 0) (h xs ys : List Entry) → IsPrefix xs h → IsPrefix ys h → (length ys ≤ length xs → P xs) → (length xs ≤ length ys → P ys) → P (longer_history xs ys)
longer_case P h xs ys p q left right = case (λ b. P (longer_history xs ys)) (leb (length xs) (length ys))
    (λ e. let l = leb-true (length xs) (length ys) e in subst P (sym (longer-second h xs ys p q l)) (right l))
    (λ e. let l = le_of_lt (leb-false (length xs) (length ys) e) in subst P (sym (longer-first xs ys l)) (left l))

abbrev passed : (ℕ → ℕ) → ℕ → ℕ → ℕ → ℕ
passed keeper other id p = cond (eqb (keeper p) other) id (keeper p)

passed_on : (keeper : ℕ → ℕ) (other id p : ℕ) → keeper p ≡ other → passed keeper other id p ≡ id
passed_on keeper other id p e = ap (λ b. cond b id (keeper p)) (eq-eqb (keeper p) other e)

passed_by : (keeper : ℕ → ℕ) (other id p : ℕ) → keeper p ≢ other → passed keeper other id p ≡ keeper p
passed_by keeper other id p ne = ap (λ b. cond b id (keeper p)) (ne_eqb (keeper p) other ne)

module _ {V : Type 0} (part : V → StatePart) (suits : Machine → ℕ → V → Type 0) (m : Machine) (limit base : ℕ) where
  pub splits : (id : ℕ) (v : View) → 1 < v.seen.shares → Splits (Agrees part suits m limit base) id v (view_lessened v) (view_newcomer v)
  splits id v two s r at = let f = r.fronts in let w : View = view_lessened v in let n : View = view_newcomer v in let l = set s.views id w in let left : 0 < v.seen.shares = omega (arith, two) in
      let g = fronts_same m limit base s.views r.history r.keeper r.latest id v w f at refl refl refl refl left (omega (arith, two)) in record {
        history = r.history;
        owner = r.owner;
        keeper = r.keeper;
        latest = r.latest;
        sound = r.sound;
        wide = r.wide;
        deep = r.deep;
        suited = r.suited;
        locks = record {
          free = r.locks.free;
          taken = λ k low nz. let t = set_some (λ u. Holds k u.seen) s.views id v w at (λ p. p) (r.owner k) (r.locks.taken k low nz) in (t.0, at_longer l (n ∷ []) (r.owner k) t.0 t.1, t.2);
          held = λ j u k x e q. snoc_all (λ j u. (k : ℕ) (x : Known) → find_lock k u.seen.held ≡ Some x → Has part m s.words s.homes r.history r.owner j u k x) l n
              (set_all (λ j u. (k : ℕ) (x : Known) → find_lock k u.seen.held ≡ Some x → Has part m s.words s.homes r.history r.owner j u k x) s.views id w
              (λ k x q. has_moved part m r.history s.words s.words s.homes s.homes r.owner r.owner id v w k x (r.locks.held id v k x at q) refl refl refl (λ _. refl) (λ q. q))
              (λ j u _ e k x q. r.locks.held j u k x e q))
              (λ j k x q. absurd (never x q)) j u e k x q;
        };
        names = names_viewed part m r.history s.words s.homes s.views (l ++ n ∷ []) r.names (snoc_all (λ _ u. Names_of part m r.history s.words u) l n
            (set_all (λ _ u. Names_of part m r.history s.words u) s.views id w (names_of part m r.history s.words s.homes s.views r.names id v at) (λ j u _ e. names_of part m r.history s.words s.homes s.views r.names j u e))
            (λ _. names_none part m r.history s.words n refl));
        stages = stages_viewed r.history s.words s.views (l ++ n ∷ []) r.stages (snoc_all (λ _ u. Stages_of r.history s.words u) l n
            (set_all (λ _ u. Stages_of r.history s.words u) s.views id w (stages_of r.history s.words s.views r.stages id v at) (λ j u _ e. stages_of r.history s.words s.views r.stages j u e))
            (λ _. ((λ x _ f _. absurd (never x f)), λ _. refl)));
        fronts = record {
          same = snoc_all (λ _ u. 0 < u.seen.shares → u.seen.input ≡ m) l n g.same (λ _ _. f.same id v at left);
          limits = snoc_all (λ _ u. 0 < u.seen.shares → u.seen.limit ≡ limit) l n g.limits (λ _ _. f.limits id v at left);
          begins = snoc_all (λ _ u. Begins r.history u) l n g.begins (λ _. f.begins id v at);
          own = λ j u p e q. snoc_all (λ j u. (p : ℕ) → has_place p u.seen.own ≡ true → (r.keeper p ≡ j) × (p < length u.seen.front)) l n (λ j u e p. g.own j u p e) (λ _ _ q. absurd (true≢false (sym q))) j u e p q;
          rising = snoc_all (λ _ u. Rising u.seen.own) l n g.rising (λ _. tt);
          covers = λ p b q. let t = g.covers p b q in (t.0, at_longer l (n ∷ []) (r.keeper p) t.0 t.1, t.2);
          newest = let t = g.newest in (t.0, at_longer l (n ∷ []) r.latest t.0 t.1, t.2, t.3);
          spent = snoc_all (λ _ u. u.seen.shares ≡ 0 → (u.seen.own ≡ []) × (u.seen.held ≡ [])) l n g.spent (λ _ _. (refl, refl));
        };
        beside = snoc_all (λ _ u. Beside u) l n (beside_none s.views id w refl r.beside) (λ _. (n.seen.front, refl));
        all_shares = let a = shares-snoc l n in let b = shares-set s.views id v w at in let d = r.all_shares in omega (arith, a, b, d, two);
      }

  pub joins : (id : ℕ) (v : View) (other : ℕ) (w : View) → w.seen.held ≡ [] → 0 < v.seen.shares → 0 < w.seen.shares → Joins (Agrees part suits m limit base) id v other w (view_joined v w) spent_view
  joins id v other w none_held left some_left s r at ne seen =
      let both : View = view_joined v w in let l1 = set s.views id both in let l2 = set l1 other spent_view in let f = r.fronts in let h : List Entry = r.history in
      let there : get_elem? s.views other ≡ some w = sym (set_else s.views id other both ne) ∙ seen in
      let pv = f.begins id v at in let pw = f.begins other w there in let lv = prefix_length v.seen.front h pv in let lw = prefix_length w.seen.front h pw in
      let more : 0 < both.seen.shares = omega (arith, left) in
      let at_both : get_elem? l2 id ≡ some both = set_else l1 other id spent_view (λ e. ne (sym e)) ∙ set_there s.views id both v at in
      let whole_left : v.seen.front ≡ h → both.seen.front ≡ h = λ e. longer_case (λ z. z ≡ h) h v.seen.front w.seen.front pv pw (λ _. e) (λ l. prefix_whole w.seen.front h pw (omega (arith, l, ap length e))) in
      let whole_right : w.seen.front ≡ h → both.seen.front ≡ h = λ e. longer_case (λ z. z ≡ h) h v.seen.front w.seen.front pv pw (λ l. prefix_whole v.seen.front h pv (omega (arith, l, ap length e))) (λ _. e) in
      let long_left : length v.seen.front ≤ length both.seen.front = longer_case (λ z. length v.seen.front ≤ length z) h v.seen.front w.seen.front pv pw (λ _. omega arith) (λ l. l) in
      let long_right : length w.seen.front ≤ length both.seen.front = longer_case (λ z. length w.seen.front ≤ length z) h v.seen.front w.seen.front pv pw (λ l. l) (λ _. omega arith) in record {
        history = h;
        owner = r.owner;
        keeper = passed r.keeper other id;
        latest = cond (eqb r.latest other) id r.latest;
        sound = r.sound;
        wide = r.wide;
        deep = r.deep;
        suited = r.suited;
        locks = record {
          free = r.locks.free;
          taken = λ k low nz. set_some (λ u. Holds k u.seen) l1 other w spent_view seen (λ p. absurd (never p.0 (sym (ap (find_lock k) none_held) ∙ p.1))) (r.owner k)
              (set_some (λ u. Holds k u.seen) s.views id v both at (λ p. p) (r.owner k) (r.locks.taken k low nz));
          held = λ j u k x e q. set_all (λ j u. (k : ℕ) (x : Known) → find_lock k u.seen.held ≡ Some x → Has part m s.words s.homes h r.owner j u k x) l1 other spent_view
              (λ k x q. absurd (never x q))
              (λ j u _ e. set_all (λ j u. (k : ℕ) (x : Known) → find_lock k u.seen.held ≡ Some x → Has part m s.words s.homes h r.owner j u k x) s.views id both
              (λ k x q. let o = r.locks.held id v k x at q in has_moved part m h s.words s.words s.homes s.homes r.owner r.owner id v both k x o refl refl refl (λ is. whole_left (o.book is) ∙ sym (o.book is)) (λ q. q))
              (λ j u _ e k x q. r.locks.held j u k x e q)
              j u e)
              j u e k x q;
        };
        names = names_viewed part m h s.words s.homes s.views l2 r.names (set_all (λ _ u. Names_of part m h s.words u) l1 other spent_view (names_none part m h s.words spent_view refl)
            (λ j u _ e. set_all (λ _ u. Names_of part m h s.words u) s.views id both (names_of part m h s.words s.homes s.views r.names id v at) (λ j u _ e. names_of part m h s.words s.homes s.views r.names j u e) j u e));
        stages = stages_viewed h s.words s.views l2 r.stages (set_all (λ _ u. Stages_of h s.words u) l1 other spent_view ((λ x _ f _. absurd (never x f)), λ _. refl)
            (λ j u _ e. set_all (λ _ u. Stages_of h s.words u) s.views id both (stages_of h s.words s.views r.stages id v at) (λ j u _ e. stages_of h s.words s.views r.stages j u e) j u e));
        fronts = record {
          same = set_all (λ _ u. 0 < u.seen.shares → u.seen.input ≡ m) l1 other spent_view (λ z. absurd (lt_irrefl 0 z)) (λ j u _ e. set_all (λ _ u. 0 < u.seen.shares → u.seen.input ≡ m) s.views id both (λ _. f.same id v at left) (λ j u _ e. f.same j u e) j u e);
          limits = set_all (λ _ u. 0 < u.seen.shares → u.seen.limit ≡ limit) l1 other spent_view (λ z. absurd (lt_irrefl 0 z)) (λ j u _ e. set_all (λ _ u. 0 < u.seen.shares → u.seen.limit ≡ limit) s.views id both (λ _. f.limits id v at left) (λ j u _ e. f.limits j u e) j u e);
          begins = set_all (λ _ u. Begins h u) l1 other spent_view (h, refl) (λ j u _ e. set_all (λ _ u. Begins h u) s.views id both (longer_case (λ z. IsPrefix z h) h v.seen.front w.seen.front pv pw (λ _. pv) (λ _. pw)) (λ j u _ e. f.begins j u e) j u e);
          own = λ j u p e q. set_all (λ j u. (p : ℕ) → has_place p u.seen.own ≡ true → (passed r.keeper other id p ≡ j) × (p < length u.seen.front)) l1 other spent_view
              (λ p q. absurd (true≢false (sym q)))
              (λ j u away e. set_all (λ j u. j ≢ other → (p : ℕ) → has_place p u.seen.own ≡ true → (passed r.keeper other id p ≡ j) × (p < length u.seen.front)) s.views id both
              (λ _ p q. ⊎_elim
              (λ a. let t = f.own id v p at a in (passed_by r.keeper other id p (λ e. ne (sym e ∙ t.0)) ∙ t.0, omega (arith, t.1, long_left)))
              (λ a. let t = f.own other w p there a in (passed_on r.keeper other id p t.0, omega (arith, t.1, long_right)))
              (both-either p v.seen.own w.seen.own (length both.seen.front) q))
              (λ j u _ e away p q. let t = f.own j u p e q in (passed_by r.keeper other id p (λ e. away (sym t.0 ∙ e)) ∙ t.0, t.1))
              j u e away)
              j u e p q;
          rising = set_all (λ _ u. Rising u.seen.own) l1 other spent_view tt (λ j u _ e. set_all (λ _ u. Rising u.seen.own) s.views id both (both-rising v.seen.own w.seen.own (length both.seen.front)) (λ j u _ e. f.rising j u e) j u e);
          covers = λ p b q. let t = f.covers p b q in dite (ℕ_discrete (r.keeper p) other)
              (λ is. let same : t.0 ≡ w = some-injective t.0 w (sym t.1 ∙ (ap (get_elem? s.views) is ∙ there)) in
              (both, ap (get_elem? l2) (passed_on r.keeper other id p is) ∙ at_both, let a = ap (λ (u : View). has_place p u.seen.own) (sym same) ∙ t.2 in both-right p v.seen.own w.seen.own (length both.seen.front) (let o = f.own other w p there a in omega (arith, o.1, long_right)) a))
              (λ away. let one = set_some (λ u. has_place p u.seen.own ≡ true) s.views id v both at (λ a. both-left p v.seen.own w.seen.own (length both.seen.front) (let o = f.own id v p at a in omega (arith, o.1, long_left)) a) (r.keeper p) t in
              (one.0, ap (get_elem? l2) (passed_by r.keeper other id p away) ∙ (set_else l1 other (r.keeper p) spent_view away ∙ one.1), one.2));
          newest = let t = f.newest in dite (ℕ_discrete r.latest other)
              (λ is. let same : t.0 ≡ w = some-injective t.0 w (sym t.1 ∙ (ap (get_elem? s.views) is ∙ there)) in
              (both, ap (get_elem? l2) (ap (λ b. cond b id r.latest) (eq-eqb r.latest other is)) ∙ at_both, whole_right (ap (λ (u : View). u.seen.front) (sym same) ∙ t.2), more))
              (λ away. let one = set_some (λ u. (u.seen.front ≡ h) × (0 < u.seen.shares)) s.views id v both at (λ a. (whole_left a.0, more)) r.latest (t.0, t.1, (t.2, t.3)) in
              (one.0, ap (get_elem? l2) (ap (λ b. cond b id r.latest) (ne_eqb r.latest other away)) ∙ (set_else l1 other r.latest spent_view away ∙ one.1), one.2.0, one.2.1));
          spent = set_all (λ _ u. u.seen.shares ≡ 0 → (u.seen.own ≡ []) × (u.seen.held ≡ [])) l1 other spent_view (λ _. (refl, refl))
              (λ j u _ e. set_all (λ _ u. u.seen.shares ≡ 0 → (u.seen.own ≡ []) × (u.seen.held ≡ [])) s.views id both (λ z. absurd (lt_irrefl 0 (subst (λ (n : ℕ). 0 < n) z more))) (λ j u _ e. f.spent j u e) j u e);
        };
        beside = beside_none l1 other spent_view refl (set_all (λ _ u. Beside u) s.views id both (longer_case (λ z. IsPrefix w.seen.front z) h v.seen.front w.seen.front pv pw (λ l. begins_longer w.seen.front v.seen.front h pw pv l) (λ _. ([], append-nil w.seen.front))) (λ j u _ e. r.beside j u e));
        all_shares = let a = shares-set s.views id v both at in let b = shares-set l1 other w spent_view seen in let d = r.all_shares in omega (arith, a, b, d);
      }
