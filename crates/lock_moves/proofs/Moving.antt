-- A step of one seat, at one lock, keeps the parts of the rule.
use Rattle.std.proofs.Common.{◌≡◌, ℕ, zero, suc, ◌+◌, ◌<◌, ◌≤◌, ◌≢◌, true, eqb, List, [], ◌∷◌, length, get_or, set, Some, None, sym, refl, ap, ◌∙◌, subst, ⊎_elim, arith, lt_irrefl, le_of_eq}
use Rattle.std.proofs.lemmas.Bool.{cases_eq}
use mathlib.Core.Logic.{dite}
use mathlib.Core.Option.{some, none, some-injective, some-ne-none}
use mathlib.Core.Option as maybe
use native.Mathlib.Decide.{ℕ_discrete}
use mathlib.Core.List.{IsPrefix}
use lib.ListN.{get_elem?}
use Rattle.journal_core.specs.Parts.{StatePart}
use Rattle.journal_core.specs.Parts.{lists}
use Rattle.journal_core.specs.Histories.{home_at, decides_at}
use Rattle.sched_model.specs.declared.event.Entry.{Entry}
use Rattle.sched_model.specs.declared.machine.Machine.{Machine}
use Rattle.lock_moves.specs.declared.content.Content.{Content}
use Rattle.lock_moves.specs.declared.content.Content.TheVariants.{Value}
use Rattle.lock_moves.specs.SeatSight.{Known, View, find_lock, Holds, has_place, Rising, raise}
use Rattle.lock_moves.specs.Agreement.{shares_of, Fronts, Fits, Has, Locks, Names, Stages, Suited}
use Rattle.lock_moves.proofs.Finding.{never, set_there, set_all, set_some}

pub shares-set : (l : List View) (i : ℕ) (v w : View) → get_elem? l i ≡ some v → shares_of (set l i w) + v.seen.shares ≡ shares_of l + w.seen.shares
shares-set [] i v w e = absurd (some-ne-none v (sym e))
shares-set (x ∷ xs) zero v w e = let is : x.seen.shares ≡ v.seen.shares = ap (λ (u : View). u.seen.shares) (some-injective x v e) in omega arith
shares-set (x ∷ xs) (suc i) v w e = let r = shares-set xs i v w e in omega arith

abbrev pub Begins : List Entry → View → Type 0
Begins h u = IsPrefix u.seen.front h

-- the front of the seat that was taken in begins the seat's own
abbrev pub Beside : View → Type 0
Beside u = IsPrefix u.beside u.seen.front

-- a step after which nothing stands beside the seat
pub beside_none : (views : List View) (id : ℕ) (w : View) → w.beside ≡ [] → ((j : ℕ) (u : View) → get_elem? views j ≡ some u → Beside u) → (j : ℕ) (u : View) → get_elem? (set views id w) j ≡ some u → Beside u
beside_none views id w empty all = set_all (λ _ u. Beside u) views id w (subst (λ (z : List Entry). IsPrefix z w.seen.front) (sym empty) (w.seen.front, refl)) (λ j u _ e. all j u e)

-- a seat whose front stays or becomes the history, and whose places stay
pub fronts_grown : (m : Machine) (limit base : ℕ) (views : List View) (h : List Entry) (keeper : ℕ → ℕ) (latest id : ℕ) (v w : View) → Fronts m limit base views h keeper latest → get_elem? views id ≡ some v
    → w.seen.input ≡ v.seen.input → w.seen.limit ≡ v.seen.limit → IsPrefix w.seen.front h → length v.seen.front ≤ length w.seen.front → (v.seen.front ≡ h → w.seen.front ≡ h) → w.seen.own ≡ v.seen.own → 0 < v.seen.shares → 0 < w.seen.shares → Fronts m limit base (set views id w) h keeper latest
fronts_grown m limit base views h keeper latest id v w f at input limited pre longer whole own old_left some_left = record {
  same = set_all (λ _ u. 0 < u.seen.shares → u.seen.input ≡ m) views id w (λ _. input ∙ f.same id v at old_left) (λ j u _ e. f.same j u e);
  limits = set_all (λ _ u. 0 < u.seen.shares → u.seen.limit ≡ limit) views id w (λ _. limited ∙ f.limits id v at old_left) (λ j u _ e. f.limits j u e);
  begins = set_all (λ _ u. Begins h u) views id w pre (λ j u _ e. f.begins j u e);
  own = λ j u p e. set_all (λ j u. (p : ℕ) → has_place p u.seen.own ≡ true → (keeper p ≡ j) × (p < length u.seen.front)) views id w
      (λ p is. let t = f.own id v p at (ap (has_place p) (sym own) ∙ is) in (t.0, omega (arith, t.1, longer)))
      (λ j u _ e p. f.own j u p e) j u e p;
  rising = set_all (λ _ u. Rising u.seen.own) views id w (subst Rising (sym own) (f.rising id v at)) (λ j u _ e. f.rising j u e);
  covers = λ p l g. set_some (λ u. has_place p u.seen.own ≡ true) views id v w at (λ is. ap (has_place p) own ∙ is) (keeper p) (f.covers p l g);
  newest = let t = set_some (λ u. (u.seen.front ≡ h) × (0 < u.seen.shares)) views id v w at (λ is. (whole is.0, some_left)) latest (f.newest.0, f.newest.1, (f.newest.2, f.newest.3)) in (t.0, t.1, t.2.0, t.2.1);
  spent = set_all (λ _ u. u.seen.shares ≡ 0 → (u.seen.own ≡ []) × (u.seen.held ≡ [])) views id w (λ none_left. absurd (lt_irrefl 0 (subst (λ (z : ℕ). 0 < z) none_left some_left))) (λ j u _ e. f.spent j u e);
}

-- a seat whose front and places stay
pub fronts_same : (m : Machine) (limit base : ℕ) (views : List View) (h : List Entry) (keeper : ℕ → ℕ) (latest id : ℕ) (v w : View) → Fronts m limit base views h keeper latest → get_elem? views id ≡ some v
    → w.seen.input ≡ v.seen.input → w.seen.limit ≡ v.seen.limit → w.seen.front ≡ v.seen.front → w.seen.own ≡ v.seen.own → 0 < v.seen.shares → 0 < w.seen.shares → Fronts m limit base (set views id w) h keeper latest
fronts_same m limit base views h keeper latest id v w f at input limited front own old_left some_left = fronts_grown m limit base views h keeper latest id v w f at input limited
    (subst (λ z. IsPrefix z h) (sym front) (f.begins id v at)) (le_of_eq (ap length (sym front))) (λ e. front ∙ e) own old_left some_left

pub shares_same : (l : List View) (i : ℕ) (v w : View) → get_elem? l i ≡ some v → w.seen.shares ≡ v.seen.shares → shares_of l ≡ 1024 → shares_of (set l i w) ≡ 1024
shares_same l i v w at is all = let sum = shares-set l i v w at in omega (arith, sum, is, all)

-- what the rule says of the stages that one view has
abbrev pub Stages_of : List Entry → List ℕ → View → Type 0
Stages_of h words u = ((x : Known) (r : ℕ) → find_lock 17 u.seen.held ≡ Some x → r < 64 → get_or words (147 + r) 0 ≡ decides_at h r + raise r u.seen) × (find_lock 17 u.seen.held ≡ None → u.seen.named ≡ 0)

pub stages_of : (h : List Entry) (words : List ℕ) (views : List View) → Stages words views h → (id : ℕ) (u : View) → get_elem? views id ≡ some u → Stages_of h words u
stages_of h words views s id u e = ((λ x r f l. s.raised id u x r e f l), λ f. s.nobody id u e f)

pub stages_viewed : (h : List Entry) (words : List ℕ) (views views' : List View) → Stages words views h → ((id : ℕ) (u : View) → get_elem? views' id ≡ some u → Stages_of h words u) → Stages words views' h
stages_viewed h words views views' s each = record { settled = s.settled; raised = λ id u x r e f l. (each id u e).0 x r f l; nobody = λ id u e f. (each id u e).1 f }

-- a step that leaves the stage words, and of which the seat's view after is known
pub stages_step : (h : List Entry) (words words' : List ℕ) (views : List View) (id : ℕ) (w : View) → Stages words views h → ((r : ℕ) → r < 64 → get_or words' (147 + r) 0 ≡ get_or words (147 + r) 0)
    → (get_or words' 17 0 ≡ 0 → get_or words 17 0 ≡ 0) → Stages_of h words w → Stages words' (set views id w) h
stages_step h words words' views id w s same shut mine = record {
  settled = λ z r l. same r l ∙ s.settled (shut z) r l;
  raised = λ i u x r e f l. same r l ∙ (set_all (λ _ u. Stages_of h words u) views id w mine (λ j u _ e. stages_of h words views s j u e) i u e).0 x r f l;
  nobody = λ i u e f. (set_all (λ _ u. Stages_of h words u) views id w mine (λ j u _ e. stages_of h words views s j u e) i u e).1 f;
}

-- a step that changes no lock but k, and not the moment
pub suited_step : {V : Type 0} (suits : Machine → ℕ → V → Type 0) (m : Machine) (words words' : List ℕ) (homes homes' : List (maybe.Option (Content V))) (k : ℕ) → Suited suits m words homes
    → ((j : ℕ) → j ≢ k → (get_or words' j 0 ≡ get_or words j 0) × (get_elem? homes' j ≡ get_elem? homes j)) → get_or words' 146 0 ≡ get_or words 146 0
    → ((y : V) → k < 17 → get_or words' k 0 ≡ 0 → get_elem? homes' k ≡ some (some (Value y)) → suits m (get_or words' 146 0) y)
    → Suited suits m words' homes'
suited_step {V} suits m words words' homes homes' k r others clock here = λ j y low z home. ⊎_elim
    (λ (is : j ≡ k). here y (subst (λ (q : ℕ). q < 17) is low) (ap (λ (q : ℕ). get_or words' q 0) (sym is) ∙ z) (ap (get_elem? homes') (sym is) ∙ home))
    (λ ne. let o = others j ne in subst (λ (t : ℕ). suits m t y) (sym clock) (r j y low (sym o.0 ∙ z) (sym o.1 ∙ home)))
    (cases_eq j k)

module _ {V : Type 0} (part : V → StatePart) (m : Machine) (h : List Entry) where
  abbrev Slots : Type 0
  Slots = List (maybe.Option (Content V))

  pub has_moved : (words words' : List ℕ) (homes homes' : Slots) (owner owner' : ℕ → ℕ) (id : ℕ) (v w : View) (j : ℕ) (x : Known) → Has part m words homes h owner id v j x
      → get_or words' j 0 ≡ get_or words j 0 → get_elem? homes' j ≡ get_elem? homes j → owner' j ≡ owner j → (j ≡ 17 → w.seen.front ≡ v.seen.front) → (w.out ≢ suc j → v.out ≢ suc j)
      → Has part m words' homes' h owner' id w j x
  has_moved words words' homes homes' owner owner' id v w j x r word home own front out = record {
    below = r.below;
    owned = own ∙ r.owned;
    shut = word ∙ r.shut;
    agrees = r.agrees;
    book = λ is. front is ∙ r.book is;
    slot = λ ne. home ∙ r.slot (out ne);
  }

  -- the lock k, the seat id and its view change, and no other lock
  pub locks_step : (limit : ℕ) (words words' : List ℕ) (homes homes' : Slots) (views : List View) (owner owner' : ℕ → ℕ) (k id : ℕ) (v w : View) → Locks part m limit words homes views h owner
      → get_elem? views id ≡ some v
      → ((j : ℕ) → j ≢ k → (get_or words' j 0 ≡ get_or words j 0) × (get_elem? homes' j ≡ get_elem? homes j) × (owner' j ≡ owner j) × (find_lock j w.seen.held ≡ find_lock j v.seen.held) × (j ≡ 17 → w.seen.front ≡ v.seen.front) × (v.out ≢ suc j))
      → ((j : ℕ) (u : View) (x : Known) → j ≢ id → get_elem? views j ≡ some u → find_lock k u.seen.held ≡ Some x → ⊥)
      → (k < 18 → get_or words' k 0 ≡ 0 → (y : Content V) × (get_elem? homes' k ≡ some (some y)) × Fits part m limit h k y)
      → (k < 18 → get_or words' k 0 ≢ 0 → (owner' k ≡ id) × Holds k w.seen)
      → ((x : Known) → find_lock k w.seen.held ≡ Some x → Has part m words' homes' h owner' id w k x)
      → Locks part m limit words' homes' (set views id w) h owner'
  locks_step limit words words' homes homes' views owner owner' k id v w r at others nobody free taken here = record {
    free = λ j l z. dite (ℕ_discrete j k)
        (λ is. subst (λ (n : ℕ). (y : Content V) × (get_elem? homes' n ≡ some (some y)) × Fits part m limit h n y) (sym is) (free (subst (λ (n : ℕ). n < 18) is l) (ap (λ (n : ℕ). get_or words' n 0) (sym is) ∙ z)))
        (λ ne. let o = others j ne in let t = r.free j l (sym o.0 ∙ z) in (t.0, o.1 ∙ t.1, t.2));
    taken = λ j l nz. dite (ℕ_discrete j k)
        (λ is. let t = taken (subst (λ (n : ℕ). n < 18) is l) (λ z. nz (ap (λ (n : ℕ). get_or words' n 0) is ∙ z)) in (
          w,
          ap (get_elem? (set views id w)) (ap owner' is ∙ t.0) ∙ set_there views id w v at,
          subst (λ (n : ℕ). Holds n w.seen) (sym is) t.1,
        ))
        (λ ne. let o = others j ne in let t = set_some (λ u. Holds j u.seen) views id v w at (λ p. (p.0, o.3 ∙ p.1)) (owner j) (r.taken j l (λ z. nz (o.0 ∙ z))) in
        (t.0, ap (get_elem? (set views id w)) o.2 ∙ t.1, t.2));
    held = λ i u j x e f. set_all (λ i u. (j : ℕ) (x : Known) → find_lock j u.seen.held ≡ Some x → Has part m words' homes' h owner' i u j x) views id w
        (λ j x f. dite (ℕ_discrete j k)
        (λ is. subst (λ (n : ℕ). Has part m words' homes' h owner' id w n x) (sym is) (here x (ap (λ (n : ℕ). find_lock n w.seen.held) (sym is) ∙ f)))
        (λ ne. let o = others j ne in has_moved words words' homes homes' owner owner' id v w j x (r.held id v j x at (sym o.3 ∙ f)) o.0 o.1 o.2 o.4 (λ _. o.5)))
        (λ i u other e j x f. dite (ℕ_discrete j k)
        (λ is. absurd (nobody i u x other e (ap (λ (n : ℕ). find_lock n u.seen.held) (sym is) ∙ f)))
        (λ ne. let o = others j ne in has_moved words words' homes homes' owner owner' i u u j x (r.held i u j x e f) o.0 o.1 o.2 (λ _. refl) (λ q. q)))
        i u e j x f;
  }

  pub names_step : (words words' : List ℕ) (homes homes' : Slots) (views : List View) (k id : ℕ) (v w : View) → Names part m words homes views h
      → get_elem? views id ≡ some v
      → ((j : ℕ) → j ≢ k → (get_or words' j 0 ≡ get_or words j 0) × (get_elem? homes' j ≡ get_elem? homes j) × (find_lock j w.seen.held ≡ find_lock j v.seen.held))
      → ((i : ℕ) → 18 ≤ i → i < 147 → get_or words' i 0 ≡ get_or words i 0)
      → ((y : V) (n : ℕ) → k < 17 → get_or words' k 0 ≡ 0 → get_elem? homes' k ≡ some (some (Value y)) → n < 128 → lists (part y) n ≡ eqb (get_or words (18 + n) 0) k)
      → ((x : Known) (n : ℕ) → find_lock k w.seen.held ≡ Some x → n < 128 → has_place n x.names ≡ eqb (get_or words (18 + n) 0) k)
      → ((j : ℕ) (x : Known) → find_lock j w.seen.held ≡ Some x → w.seen.now ≡ get_or words 146 0)
      → (get_or words' 17 0 ≡ 0 → get_or words 17 0 ≡ 0)
      → ((x : Known) (j n : ℕ) → find_lock 17 w.seen.held ≡ Some x → find_lock j w.seen.held ≡ None → n < 128 → eqb (get_or words (18 + n) 0) j ≡ eqb (home_at m h n) j)
      → Names part m words' homes' (set views id w) h
  names_step words words' homes homes' views k id v w r at others high free held moment shut moving =
      let word : (n : ℕ) → n < 128 → get_or words' (18 + n) 0 ≡ get_or words (18 + n) 0 = λ n l. high (18 + n) (omega arith) (omega (arith, l)) in
      let clock : get_or words' 146 0 ≡ get_or words 146 0 = high 146 (omega arith) (omega arith) in record {
        free = λ j y n low z home l. ⊎_elim
            (λ (is : j ≡ k). free y n (subst (λ (q : ℕ). q < 17) is low) (ap (λ (q : ℕ). get_or words' q 0) (sym is) ∙ z) (ap (get_elem? homes') (sym is) ∙ home) l ∙ (λ i. eqb (sym (word n l) i) (sym is i)))
            (λ ne. let o = others j ne in r.free j y n low (sym o.0 ∙ z) (sym o.1 ∙ home) l ∙ ap (λ (q : ℕ). eqb q j) (sym (word n l)))
            (cases_eq j k);
        held = λ i u j x n e f l. set_all (λ _ u. (j : ℕ) (x : Known) (n : ℕ) → find_lock j u.seen.held ≡ Some x → n < 128 → has_place n x.names ≡ eqb (get_or words' (18 + n) 0) j) views id w
            (λ j x n f l. ⊎_elim
            (λ (is : j ≡ k). held x n (ap (λ (q : ℕ). find_lock q w.seen.held) (sym is) ∙ f) l ∙ (λ i. eqb (sym (word n l) i) (sym is i)))
            (λ ne. r.held id v j x n at (sym (others j ne).2 ∙ f) l ∙ ap (λ (q : ℕ). eqb q j) (sym (word n l)))
            (cases_eq j k))
            (λ i u _ e j x n f l. r.held i u j x n e f l ∙ ap (λ (q : ℕ). eqb q j) (sym (word n l)))
            i u e j x n f l;
        moment = λ i u j x e f. set_all (λ _ u. (j : ℕ) (x : Known) → find_lock j u.seen.held ≡ Some x → u.seen.now ≡ get_or words' 146 0) views id w
            (λ j x f. moment j x f ∙ sym clock)
            (λ i u _ e j x f. r.moment i u j x e f ∙ sym clock)
            i u e j x f;
        settled = λ z. let t = r.settled (shut z) in ((λ n l. word n l ∙ t.0 n l), clock ∙ t.1);
        apart = λ n l e. r.apart n l (sym (word n l) ∙ e);
        moving = λ i u x j n e f q l. set_all (λ _ u. (x : Known) (j n : ℕ) → find_lock 17 u.seen.held ≡ Some x → find_lock j u.seen.held ≡ None → n < 128 → eqb (get_or words' (18 + n) 0) j ≡ eqb (home_at m h n) j) views id w
            (λ x j n f q l. ap (λ (p : ℕ). eqb p j) (word n l) ∙ moving x j n f q l)
            (λ i u _ e x j n f q l. ap (λ (p : ℕ). eqb p j) (word n l) ∙ r.moving i u x j n e f q l)
            i u e x j n f q l;
      }

  -- what the rule says of the names that one view has
  abbrev pub Names_of : List ℕ → View → Type 0
  Names_of words u = ((k : ℕ) (x : Known) (n : ℕ) → find_lock k u.seen.held ≡ Some x → n < 128 → has_place n x.names ≡ eqb (get_or words (18 + n) 0) k)
      × ((k : ℕ) (x : Known) → find_lock k u.seen.held ≡ Some x → u.seen.now ≡ get_or words 146 0)
      × ((x : Known) (j n : ℕ) → find_lock 17 u.seen.held ≡ Some x → find_lock j u.seen.held ≡ None → n < 128 → eqb (get_or words (18 + n) 0) j ≡ eqb (home_at m h n) j)

  pub names_of : (words : List ℕ) (homes : Slots) (views : List View) → Names part m words homes views h → (id : ℕ) (u : View) → get_elem? views id ≡ some u → Names_of words u
  names_of words homes views r id u e = ((λ k x n f l. r.held id u k x n e f l), (λ k x f. r.moment id u k x e f), λ x j n f q l. r.moving id u x j n e f q l)

  pub names_none : (words : List ℕ) (u : View) → u.seen.held ≡ [] → Names_of words u
  names_none words u none_held = (
    (λ k x n f _. absurd (never x (sym (ap (find_lock k) none_held) ∙ f))),
    (λ k x f. absurd (never x (sym (ap (find_lock k) none_held) ∙ f))),
    λ x j n f _ _. absurd (never x (sym (ap (find_lock 17) none_held) ∙ f)),
  )

  -- other views of the same words
  pub names_viewed : (words : List ℕ) (homes : Slots) (views views' : List View) → Names part m words homes views h → ((id : ℕ) (u : View) → get_elem? views' id ≡ some u → Names_of words u) → Names part m words homes views' h
  names_viewed words homes views views' r each = record {
    free = r.free;
    held = λ i u k x n e f l. (each i u e).0 k x n f l;
    moment = λ i u k x e f. (each i u e).1 k x f;
    settled = r.settled;
    apart = r.apart;
    moving = λ i u x j n e f q l. (each i u e).2 x j n f q l;
  }
