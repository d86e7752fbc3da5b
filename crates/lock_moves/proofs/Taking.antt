-- Taking a lock, and its slot going home empty and coming out again.
use Rattle.std.proofs.Common.{◌≡◌, ℕ, zero, suc, ◌+◌, ◌<◌, ◌≢◌, cond, eqb, List, [], ◌∷◌, get_or, set, Some, sym, refl, ap, ◌∙◌, subst, ⊎_elim, eq-eqb, ne_eqb, arith, length-set, get_or-set_same, get_or-set_other}
use Rattle.std.proofs.lemmas.Bool.{cases_eq}
use mathlib.Core.Logic.{dite}
use mathlib.Core.Option.{some, none}
use mathlib.Core.Option as maybe
use native.Mathlib.Decide.{ℕ_discrete}
use mathlib.Core.List.{IsPrefix}
use lib.ListN.{get_elem?}
use prog.Atomic.{either}
use Rattle.atomic_table.specs.Table.{State, Me, step, Act, keeps, takes, gives, Valid, stepped, carried_after, Allows}
use Rattle.atomic_table.proofs.Lists.{set_here, set_else}
use Rattle.journal_core.specs.Parts.{StatePart}
use Rattle.journal_core.specs.Parts.{lists}
use Rattle.journal_core.specs.Histories.{part_at, home_at, decides_at, IsSound}
use Rattle.sched_model.specs.declared.event.Entry.{Entry}
use Rattle.sched_model.specs.declared.machine.Machine.{Machine}
use Rattle.lock_moves.proofs.Finding.{lists-part}
use Rattle.lock_moves.specs.declared.content.Content.{Content}
use Rattle.lock_moves.specs.declared.content.Content.TheVariants.{Out, Value, Ledger, Told}
use Rattle.lock_moves.specs.SeatSight.{Known, View, known_part as known, has_place, find_lock, Holds, AllBelow, locks_without, view_took, view_turned_away, with_out, view_gave}
use Rattle.lock_moves.specs.Agreement.{Fits, Has, Agrees}
use Rattle.lock_moves.specs.Plays.{Lists, IsPartOfSome, tried, settled, fetched, put_back}
use Rattle.lock_moves.proofs.Finding.{find-head, find-tail, find-without-same, find-without-other, some_same, never, set_all, set_some, listed, listed-has}
use Rattle.lock_moves.proofs.Moving.{Beside, beside_none, suited_step, fronts_same, shares_same, has_moved, locks_step, names_step, stages_step, stages_of}

abbrev pub owned_by : (ℕ → ℕ) → ℕ → ℕ → ℕ → ℕ
owned_by owner k id j = cond (eqb j k) id (owner j)

pub owned_here : (owner : ℕ → ℕ) (k id : ℕ) → owned_by owner k id k ≡ id
owned_here owner k id = ap (λ b. cond b id (owner k)) (eq-eqb k k refl)

pub owned_else : (owner : ℕ → ℕ) (k id j : ℕ) → j ≢ k → owned_by owner k id j ≡ owner j
owned_else owner k id j ne = ap (λ b. cond b id (owner j)) (ne_eqb j k ne)

-- a word that is written as it was
set_found : (l : List ℕ) (i j : ℕ) → get_or (set l i (get_or l i 0)) j 0 ≡ get_or l j 0
set_found [] i j = refl
set_found (x ∷ xs) zero zero = refl
set_found (x ∷ xs) zero (suc j) = refl
set_found (x ∷ xs) (suc i) zero = refl
set_found (x ∷ xs) (suc i) (suc j) = set_found xs i j

-- what is still held was held before
pub still : (k j : ℕ) (xs : List (ℕ × Known)) (x : Known) → find_lock j (locks_without k xs) ≡ Some x → find_lock j xs ≡ Some x
still k j xs x f = dite (ℕ_discrete j k)
    (λ e. absurd (never x (sym (ap (λ (n : ℕ). find_lock n (locks_without k xs)) e ∙ find-without-same k xs) ∙ f)))
    (λ ne. sym (find-without-other k j xs ne) ∙ f)

module _ {V : Type 0} where
  abbrev pub value_in : V → maybe.Option (maybe.Option (Content V)) → V
  value_in d (some (some (Value y))) = y
  value_in d _ = d

  pub value_same : (x y : V) → some (some (Value x)) ≡ some (some (Value y)) → x ≡ y
  value_same x y e = ap (value_in x) e

module _ {V : Type 0} (part : V → StatePart) (suits : Machine → ℕ → V → Type 0) (m : Machine) (limit base : ℕ) where
  abbrev St : Type 0
  St = State (Content V) View

  abbrev Mine : Type 0
  Mine = Me (Content V) View

  -- what a step answers
  abbrev Goes : St → ℕ → ℕ → ℕ → Mine → (Mine → Type 0) → Type 0
  Goes s k n id me then = (w : View) × (a : Act (Content V)) × Valid s.homes me.1 a × Agrees part suits m limit base (stepped s k n id me.1 w a) × then (w, carried_after me.1 a)

  gains : (s : St) (r : Agrees part suits m limit base s) (id : ℕ) (me : Mine) (k : ℕ) (y : Content V) → k < 17 → AllBelow k me.0.seen.held → me.0.out ≡ 0 → 0 < me.0.seen.shares
      → get_elem? s.views id ≡ some me.0 → get_or s.words k 0 ≡ 0 → get_elem? s.homes k ≡ some (some y) → Fits part m limit r.history k y
      → Goes s k 1 id me (λ m'. (x : V) × (names : List ℕ) × (t : ℕ) × (m' ≡ (view_took k (part x) names t me.0, (k, Value x) ∷ me.1)) × Lists (part x) names × suits me.0.seen.input t x × ((j : ℕ) (y : Known) → find_lock j me.0.seen.held ≡ Some y → t ≡ me.0.seen.now) × IsPartOfSome k (part x) me.0.seen)
  gains s r id me k Out low above rest left at zero_there there fits = absurd fits
  gains s r id me k (Ledger b) low above rest left at zero_there there fits = absurd (omega (arith, fits.0, low))
  gains s r id me k (Told b) low above rest left at zero_there there fits = absurd fits
  gains s r id me k (Value x) low above rest left at zero_there there fits = let v : View = me.0 in let names : List ℕ = listed (lists (part x)) 128 in let now : ℕ = get_or s.words 146 0 in let w : View = view_took k (part x) names now v in let z' : Known = known (part x) names in let wide = r.wide in
      let part_of_some : IsPartOfSome k (part x) v.seen = subst (λ (q : Machine). (h : List Entry) × IsPrefix v.seen.front h × (part x ≡ part_at q h k) × IsSound q h) (sym (r.fronts.same id v at left)) (r.history, r.fronts.begins id v at, fits.1, r.sound) in
      let shut : get_or (set s.words k 1) k 0 ≡ 1 = get_or-set_same s.words k 1 0 (omega arith) in (
        w,
        takes k (Value x),
        there,
        record {
          history = r.history;
          owner = owned_by r.owner k id;
          keeper = r.keeper;
          latest = r.latest;
          sound = r.sound;
          wide = length-set s.words k 1 ∙ r.wide;
          deep = length-set s.homes k none ∙ r.deep;
          suited = suited_step suits m s.words (set s.words k 1) s.homes (set s.homes k none) k r.suited (λ j ne. (get_or-set_other s.words k j 1 0 ne, set_else s.homes k j none ne)) (get_or-set_other s.words k 146 1 0 (λ e. absurd (omega (arith, e, low)))) (λ y _ z _. absurd (omega (arith, shut, z)));
          locks = locks_step part m r.history limit s.words (set s.words k 1) s.homes (set s.homes k none) s.views r.owner (owned_by r.owner k id) k id v w r.locks at
              (λ j ne. (get_or-set_other s.words k j 1 0 ne, set_else s.homes k j none ne, owned_else r.owner k id j ne, find-tail j k z' v.seen.held ne, (λ _. refl), λ e. absurd (omega (arith, rest, e))))
              (λ j u z other e f. absurd (omega (arith, zero_there, (r.locks.held j u k z e f).shut)))
              (λ _ z. absurd (omega (arith, shut, z)))
              (λ _ _. (owned_here r.owner k id, (z', find-head k z' v.seen.held)))
              (λ z f. let same : z' ≡ z = some_same z' z (sym (find-head k z' v.seen.held) ∙ f) in record {
                below = omega arith;
                owned = owned_here r.owner k id;
                shut = shut;
                agrees = λ _. ap (λ (q : Known). q.part) (sym same) ∙ fits.1;
                book = λ e. absurd (omega (arith, e));
                slot = λ ne. absurd (ne refl);
              });
          names = names_step part m r.history s.words (set s.words k 1) s.homes (set s.homes k none) s.views k id v w r.names at
              (λ j ne. (get_or-set_other s.words k j 1 0 ne, set_else s.homes k j none ne, find-tail j k z' v.seen.held ne))
              (λ i l _. get_or-set_other s.words k i 1 0 (λ e. absurd (omega (arith, e, l, low))))
              (λ _ _ _ z _ _. absurd (omega (arith, shut, z)))
              (λ z n f l. ap (λ (q : Known). has_place n q.names) (some_same z z' (sym f ∙ find-head k z' v.seen.held)) ∙ (listed-has (lists (part x)) 128 n l ∙ r.names.free k x n low zero_there there l))
              (λ _ _ _. refl)
              (λ z. sym (get_or-set_other s.words k 17 1 0 (λ e. absurd (omega (arith, e, low)))) ∙ z)
              (λ z j n f _ _. let below = above 17 z (sym (find-tail 17 k z' v.seen.held (λ e. absurd (omega (arith, e, low)))) ∙ f) in absurd (omega (arith, below, low)));
          stages = stages_step r.history s.words (set s.words k 1) s.views id w r.stages (λ q l. get_or-set_other s.words k (147 + q) 1 0 (λ e. absurd (omega (arith, e, low))))
              (λ z. sym (get_or-set_other s.words k 17 1 0 (λ e. absurd (omega (arith, e, low)))) ∙ z) (
                (λ z q f l. let below = above 17 z (sym (find-tail 17 k z' v.seen.held (λ e. absurd (omega (arith, e, low)))) ∙ f) in absurd (omega (arith, below, low))),
                λ f. r.stages.nobody id v at (sym (find-tail 17 k z' v.seen.held (λ e. absurd (omega (arith, e, low)))) ∙ f),
              );
          fronts = fronts_same m limit base s.views r.history r.keeper r.latest id v w r.fronts at refl refl refl refl left left;
          beside = beside_none s.views id w refl r.beside;
          all_shares = shares_same s.views id v w at refl r.all_shares;
        },
        (x, names, now, refl, (λ n l. sym (listed-has (lists (part x)) 128 n l)), subst (λ (q : Machine). suits q now x) (sym (r.fronts.same id v at left)) (r.suited k x low zero_there there), (λ j y f. sym (r.names.moment id v j y at f)), part_of_some),
      )

  -- a step that finds a word, whatever it is, and leaves it: the view changes only in what no lock and no front depends on
  pub unmoved : (s : St) (r : Agrees part suits m limit base s) (id : ℕ) (v w : View) (i : ℕ) (carried : List (ℕ × Content V)) → get_elem? s.views id ≡ some v → 0 < v.seen.shares
      → w.seen.input ≡ v.seen.input → w.seen.limit ≡ v.seen.limit → w.seen.front ≡ v.seen.front → w.seen.own ≡ v.seen.own → w.seen.shares ≡ v.seen.shares → w.seen.held ≡ v.seen.held → w.out ≡ v.out → w.seen.now ≡ v.seen.now → w.seen.named ≡ v.seen.named → Beside w
      → Agrees part suits m limit base (stepped s i (get_or s.words i 0) id carried w keeps)
  unmoved s r id v w i carried at left input limited front own shares held out now named met = record {
    history = r.history;
    owner = r.owner;
    keeper = r.keeper;
    latest = r.latest;
    sound = r.sound;
    wide = length-set s.words i (get_or s.words i 0) ∙ r.wide;
    deep = r.deep;
    suited = λ j y low z home. subst (λ (t : ℕ). suits m t y) (sym (same 146)) (r.suited j y low (sym (same j) ∙ z) home);
    locks = record {
      free = λ j l z. r.locks.free j l (sym (same j) ∙ z);
      taken = λ j l nz. set_some (λ u. Holds j u.seen) s.views id v w at (λ p. (p.0, ap (find_lock j) held ∙ p.1)) (r.owner j) (r.locks.taken j l (λ z. nz (same j ∙ z)));
      held = λ j u k x e f. set_all (λ j u. (k : ℕ) (x : Known) → find_lock k u.seen.held ≡ Some x → Has part m (set s.words i (get_or s.words i 0)) s.homes r.history r.owner j u k x) s.views id w
          (λ k x f. has_moved part m r.history s.words (set s.words i (get_or s.words i 0)) s.homes s.homes r.owner r.owner id v w k x (r.locks.held id v k x at (ap (find_lock k) (sym held) ∙ f)) (same k) refl refl (λ _. front) (λ ne e. ne (out ∙ e)))
          (λ j u _ e k x f. has_moved part m r.history s.words (set s.words i (get_or s.words i 0)) s.homes s.homes r.owner r.owner j u u k x (r.locks.held j u k x e f) (same k) refl refl (λ _. refl) (λ q. q))
          j u e k x f;
    };
    names = names_step part m r.history s.words (set s.words i (get_or s.words i 0)) s.homes s.homes s.views 1000 id v w r.names at
        (λ j _. (same j, refl, ap (find_lock j) held))
        (λ j _ _. same j)
        (λ _ _ low _ _ _. absurd (omega (arith, low)))
        (λ x n f l. r.names.held id v 1000 x n at (ap (find_lock 1000) (sym held) ∙ f) l)
        (λ j x f. now ∙ r.names.moment id v j x at (ap (find_lock j) (sym held) ∙ f))
        (λ z. sym (same 17) ∙ z)
        (λ x j n f q l. r.names.moving id v x j n at (ap (find_lock 17) (sym held) ∙ f) (ap (find_lock j) (sym held) ∙ q) l);
    stages = stages_step r.history s.words (set s.words i (get_or s.words i 0)) s.views id w r.stages (λ q _. same (147 + q)) (λ z. sym (same 17) ∙ z)
        ((λ x q f l. r.stages.raised id v x q at (ap (find_lock 17) (sym held) ∙ f) l ∙ ap (λ (n : ℕ). decides_at r.history q + cond (eqb (suc q) n) 1 0) (sym named)), λ f. named ∙ r.stages.nobody id v at (ap (find_lock 17) (sym held) ∙ f));
    fronts = fronts_same m limit base s.views r.history r.keeper r.latest id v w r.fronts at input limited front own left (subst (λ (z : ℕ). 0 < z) (sym shares) left);
    beside = set_all (λ _ u. Beside u) s.views id w met (λ j u _ e. r.beside j u e);
    all_shares = shares_same s.views id v w at shares r.all_shares;
  }
    where
      same : (j : ℕ) → get_or (set s.words i (get_or s.words i 0)) j 0 ≡ get_or s.words j 0
      same j = set_found s.words i j

  pub tries : (slots id : ℕ) (me : Mine) (k : ℕ) → k < 17 → AllBelow k me.0.seen.held → me.0.out ≡ 0 → 0 < me.0.seen.shares
      → Allows (Agrees part suits m limit base) slots id me k (λ n. either (eqb n 0) 1 n) (tried part suits (step slots k 0 1 none) me)
  tries slots id me k low above rest left s r deep at small = let x : ℕ = get_or s.words k 0 in dite (ℕ_discrete x 0)
      (λ e. let f = r.locks.free k (omega arith) e in let t = gains s r id me k f.0 low above rest left at e f.1 f.2 in (
        t.0,
        t.1,
        t.2,
        subst (λ b. Agrees part suits m limit base (stepped s k (either b 1 x) id me.1 t.0 t.1)) (sym (eq-eqb x 0 e)) t.3,
        ((λ _. t.4), λ ne. absurd (ne e)),
      ))
      (λ ne. let w : View = view_turned_away k me.0 in (
        w,
        keeps,
        tt,
        subst (λ b. Agrees part suits m limit base (stepped s k (either b 1 x) id me.1 w keeps)) (sym (ne_eqb x 0 ne)) (unmoved s r id me.0 w k me.1 at left refl refl refl refl refl refl refl refl refl (w.seen.front, refl)),
        ((λ e. absurd (ne e)), λ _. refl),
      ))

  -- the slot of a lock that the seat holds is filled or emptied, and the lock's word stays
  pub shifts : (s : St) (r : Agrees part suits m limit base s) (id : ℕ) (v : View) (k out : ℕ) (slot : maybe.Option (Content V)) → Holds k v.seen → 0 < v.seen.shares → get_elem? s.views id ≡ some v → ((j : ℕ) → j ≢ k → v.out ≢ suc j) → (out ≢ suc k → slot ≡ some Out)
      → Agrees part suits m limit base (record { words = set s.words k (get_or s.words k 0); homes = set s.homes k slot; views = set s.views id (with_out out v) })
  shifts s r id v k out slot holds left at others filled = let x : ℕ = get_or s.words k 0 in let w : View = with_out out v in let old = r.locks.held id v k holds.0 at holds.1 in
      let here : get_or (set s.words k x) k 0 ≡ 1 = get_or-set_same s.words k x 0 (let wide = r.wide in omega (arith, wide, old.below)) ∙ old.shut in
      record {
        history = r.history;
        owner = r.owner;
        keeper = r.keeper;
        latest = r.latest;
        sound = r.sound;
        wide = length-set s.words k x ∙ r.wide;
        deep = length-set s.homes k slot ∙ r.deep;
        suited = suited_step suits m s.words (set s.words k x) s.homes (set s.homes k slot) k r.suited (λ j ne. (get_or-set_other s.words k j x 0 ne, set_else s.homes k j slot ne)) (set_found s.words k 146) (λ y _ z _. absurd (omega (arith, here, z)));
        locks = locks_step part m r.history limit s.words (set s.words k x) s.homes (set s.homes k slot) s.views r.owner r.owner k id v w r.locks at
            (λ j ne. (get_or-set_other s.words k j x 0 ne, set_else s.homes k j slot ne, refl, refl, (λ _. refl), others j ne))
            (λ j u z other e f. other (sym (r.locks.held j u k z e f).owned ∙ old.owned))
            (λ _ z. absurd (omega (arith, here, z)))
            (λ _ _. (old.owned, holds))
            (λ z f. let known = r.locks.held id v k z at f in record {
              below = known.below;
              owned = known.owned;
              shut = here;
              agrees = known.agrees;
              book = known.book;
              slot = λ ne. set_here s.homes k slot (omega (arith, r.deep, old.below)) ∙ ap some (filled ne);
            });
        names = names_step part m r.history s.words (set s.words k x) s.homes (set s.homes k slot) s.views k id v w r.names at
            (λ j ne. (set_found s.words k j, set_else s.homes k j slot ne, refl))
            (λ j _ _. set_found s.words k j)
            (λ _ _ _ z _ _. absurd (omega (arith, here, z)))
            (λ z n f l. r.names.held id v k z n at f l)
            (λ j z f. r.names.moment id v j z at f)
            (λ z. sym (set_found s.words k 17) ∙ z)
            (λ z j n f q l. r.names.moving id v z j n at f q l);
        stages = stages_step r.history s.words (set s.words k x) s.views id w r.stages (λ q _. set_found s.words k (147 + q)) (λ z. sym (set_found s.words k 17) ∙ z) (stages_of r.history s.words s.views r.stages id v at);
        fronts = fronts_same m limit base s.views r.history r.keeper r.latest id v w r.fronts at refl refl refl refl left left;
        beside = beside_none s.views id w refl r.beside;
        all_shares = shares_same s.views id v w at refl r.all_shares;
      }

  -- the empty slot goes home
  pub settles : (slots id : ℕ) (v : View) (k : ℕ) → v.out ≡ suc k → Holds k v.seen → 0 < v.seen.shares
      → Allows (Agrees part suits m limit base) slots id (v, (k, Out) ∷ []) k (λ n. n) (settled (step slots k 0 0 none) (v, (k, Out) ∷ []))
  settles slots id v k away holds left s r deep at small = (with_out 0 v, gives, tt, shifts s r id v k 0 (some Out) holds left at (λ j ne e. ne (omega (arith, away, e))) (λ _. refl), refl)

  -- it comes out again
  pub fetches : (slots id : ℕ) (v : View) (k : ℕ) → v.out ≡ 0 → Holds k v.seen → 0 < v.seen.shares
      → Allows (Agrees part suits m limit base) slots id (v, []) k (λ n. n) (fetched (step slots k 0 0 none) (v, []))
  fetches slots id v k rest holds left s r deep at small =
      let old = r.locks.held id v k holds.0 at holds.1 in
      (with_out (suc k) v, takes k Out, old.slot (λ e. absurd (omega (arith, rest, e))), shifts s r id v k (suc k) none holds left at (λ j ne e. absurd (omega (arith, rest, e))) (λ ne. absurd (ne refl)), refl)

  -- a value that is the part which the view has goes home, and the lock is free
  pub puts : (slots id : ℕ) (v : View) (k : ℕ) (y : V) (z : Known) → k < 17 → v.out ≡ suc k → find_lock k v.seen.held ≡ Some z → part y ≡ z.part → Lists z.part z.names → suits v.seen.input v.seen.now y → 0 < v.seen.shares
      → Allows (Agrees part suits m limit base) slots id (v, (k, Value y) ∷ []) k (λ _. 0) (λ _. put_back (step slots k 0 0 none) (v, (k, Value y) ∷ []) 0)
  puts slots id v k y z low away found is same fit left s r deep at small = let w : View = view_gave k v in let old = r.locks.held id v k z at found in let wide = r.wide in
      let here : get_or (set s.words k 0) k 0 ≡ 0 = get_or-set_same s.words k 0 0 (omega (arith, old.below)) in (
        w,
        gives,
        tt,
        record {
          history = r.history;
          owner = r.owner;
          keeper = r.keeper;
          latest = r.latest;
          sound = r.sound;
          wide = length-set s.words k 0 ∙ r.wide;
          deep = length-set s.homes k (some (Value y)) ∙ r.deep;
          suited = let clock : get_or (set s.words k 0) 146 0 ≡ get_or s.words 146 0 = get_or-set_other s.words k 146 0 0 (λ e. absurd (omega (arith, e, low))) in
              suited_step suits m s.words (set s.words k 0) s.homes (set s.homes k (some (Value y))) k r.suited (λ j ne. (get_or-set_other s.words k j 0 0 ne, set_else s.homes k j (some (Value y)) ne)) clock
              (λ y' _ _ q. subst (λ (e : V). suits m (get_or (set s.words k 0) 146 0) e) (sym (value_same y' y (sym q ∙ set_here s.homes k (some (Value y)) (omega (arith, r.deep, low)))))
              (subst (λ (t : ℕ). suits m t y) (r.names.moment id v k z at found ∙ sym clock) (subst (λ (q : Machine). suits q v.seen.now y) (r.fronts.same id v at left) fit)));
          locks = locks_step part m r.history limit s.words (set s.words k 0) s.homes (set s.homes k (some (Value y))) s.views r.owner r.owner k id v w r.locks at
              (λ j ne. (get_or-set_other s.words k j 0 0 ne, set_else s.homes k j (some (Value y)) ne, refl, find-without-other k j v.seen.held ne, (λ _. refl), λ e. ne (omega (arith, away, e))))
              (λ j u z other e f. other (sym (r.locks.held j u k z e f).owned ∙ old.owned))
              (λ _ _. (Value y, set_here s.homes k (some (Value y)) (omega (arith, r.deep, low)), (low, is ∙ old.agrees low)))
              (λ _ nz. absurd (nz here))
              (λ z f. absurd (never z (sym (find-without-same k v.seen.held) ∙ f)));
          names = names_step part m r.history s.words (set s.words k 0) s.homes (set s.homes k (some (Value y))) s.views k id v w r.names at
              (λ j ne. (get_or-set_other s.words k j 0 0 ne, set_else s.homes k j (some (Value y)) ne, find-without-other k j v.seen.held ne))
              (λ i l _. get_or-set_other s.words k i 0 0 (λ e. absurd (omega (arith, e, l, low))))
              (λ y' n _ _ q l. ap (λ (p : V). lists (part p) n) (value_same y' y (sym q ∙ set_here s.homes k (some (Value y)) (omega (arith, r.deep, low)))) ∙ (ap (λ (p : StatePart). lists p n) is ∙ (same n l ∙ r.names.held id v k z n at found l)))
              (λ x n f _. absurd (never x (sym (find-without-same k v.seen.held) ∙ f)))
              (λ j x f. r.names.moment id v j x at (still k j v.seen.held x f))
              (λ e. sym (get_or-set_other s.words k 17 0 0 (λ e. absurd (omega (arith, e, low)))) ∙ e)
              (λ x j n f q l. ⊎_elim
              (λ (e : j ≡ k). (λ i. eqb (get_or s.words (18 + n) 0) (e i)) ∙ (sym (r.names.held id v k z n at found l) ∙ (sym (same n l) ∙ (ap (λ (p : StatePart). lists p n) (old.agrees low) ∙ (lists-part m r.history k n low l r.sound.names ∙ (λ i. eqb (home_at m r.history n) (sym e i)))))))
              (λ ne. r.names.moving id v x j n at (still k 17 v.seen.held x f) (sym (find-without-other k j v.seen.held ne) ∙ q) l)
              (cases_eq j k));
          stages = stages_step r.history s.words (set s.words k 0) s.views id w r.stages (λ q l. get_or-set_other s.words k (147 + q) 0 0 (λ e. absurd (omega (arith, e, low))))
              (λ e. sym (get_or-set_other s.words k 17 0 0 (λ e. absurd (omega (arith, e, low)))) ∙ e)
              ((λ x q f l. r.stages.raised id v x q at (still k 17 v.seen.held x f) l), λ f. r.stages.nobody id v at (sym (find-without-other k 17 v.seen.held (λ e. absurd (omega (arith, e, low)))) ∙ f));
          fronts = fronts_same m limit base s.views r.history r.keeper r.latest id v w r.fronts at refl refl refl refl left left;
          beside = beside_none s.views id w refl r.beside;
          all_shares = shares_same s.views id v w at refl r.all_shares;
        },
        refl,
      )

  -- the same of a seat that is known by an equation
  pub settles_at : (slots id : ℕ) (me : Mine) (v : View) (k : ℕ) → me ≡ (v, (k, Out) ∷ []) → v.out ≡ suc k → Holds k v.seen → 0 < v.seen.shares
      → Allows (Agrees part suits m limit base) slots id me k (λ n. n) (settled (step slots k 0 0 none) me)
  settles_at slots id me v k is away holds left = subst (λ (z : Mine). Allows (Agrees part suits m limit base) slots id z k (λ n. n) (settled (step slots k 0 0 none) z)) (sym is) (settles slots id v k away holds left)

  pub fetches_at : (slots id : ℕ) (me : Mine) (v : View) (k : ℕ) → me ≡ (v, []) → v.out ≡ 0 → Holds k v.seen → 0 < v.seen.shares
      → Allows (Agrees part suits m limit base) slots id me k (λ n. n) (fetched (step slots k 0 0 none) me)
  fetches_at slots id me v k is rest holds left = subst (λ (z : Mine). Allows (Agrees part suits m limit base) slots id z k (λ n. n) (fetched (step slots k 0 0 none) z)) (sym is) (fetches slots id v k rest holds left)

  pub puts_at : (slots id : ℕ) (me : Mine) (v : View) (k : ℕ) (y : V) (z : Known) → me ≡ (v, (k, Value y) ∷ []) → k < 17 → v.out ≡ suc k → find_lock k v.seen.held ≡ Some z → part y ≡ z.part → Lists z.part z.names → suits v.seen.input v.seen.now y → 0 < v.seen.shares
      → Allows (Agrees part suits m limit base) slots id me k (λ _. 0) (λ _. put_back (step slots k 0 0 none) me 0)
  puts_at slots id me v k y z is low away found same lists fit left =
      subst (λ (q : Mine). Allows (Agrees part suits m limit base) slots id q k (λ _. 0) (λ _. put_back (step slots k 0 0 none) q 0)) (sym is) (puts slots id v k y z low away found same lists fit left)
