-- Taking the book, and putting it back with one entry more or none.
use Rattle.std.proofs.Common.{◌≡◌, ℕ, suc, ◌+◌, ◌<◌, cond, eqb, List, ◌∷◌, length, get_or, set, Some, None, sym, refl, ap, ◌∙◌, subst, eq-eqb, ne_eqb, arith, lt_irrefl, length-set, get_or-set_same, get_or-set_other}
use mathlib.Core.Logic.{dite}
use mathlib.Core.Option.{some, none, some-injective}
use native.Mathlib.Decide.{ℕ_discrete}
use mathlib.Core.List.{IsPrefix}
use lib.ListN.{get_elem?}
use prog.Atomic.{either}
use Rattle.atomic_table.specs.Table.{State, Me, step, Act, keeps, takes, Valid, stepped, carried_after, Allows}
use Rattle.atomic_table.proofs.Lists.{set_else}
use Rattle.journal_core.specs.Books.{Chronicle}
use Rattle.journal_core.specs.Parts.{StatePart}
use Rattle.journal_core.specs.Histories.{part_at, home_at, now_at, decides_at, IsSound}
use Rattle.sched_model.specs.declared.event.Entry.{Entry}
use Rattle.sched_model.specs.declared.machine.Machine.{Machine}
use Rattle.lock_moves.specs.declared.content.Content.{Content}
use Rattle.lock_moves.specs.declared.content.Content.TheVariants.{Out, Value, Ledger, Told}
use Rattle.lock_moves.specs.SeatSight.{Known, View, book_known, find_lock, AllBelow, has_place, took_book, view_took_book, view_turned_away, raise}
use Rattle.lock_moves.specs.Agreement.{Fits, Agrees}
use Rattle.lock_moves.specs.Plays.{Current, tried_book}
use Rattle.lock_moves.proofs.Finding.{find-head, find-tail, some_same, none_or, set_all}
use Rattle.lock_moves.proofs.Moving.{beside_none, suited_step, fronts_grown, shares_same, locks_step, names_step}
use Rattle.lock_moves.proofs.Closing.{two_of}
use Rattle.lock_moves.proofs.Prefix.{prefix_refl, prefix_length}
use Rattle.lock_moves.proofs.Taking.{owned_by, owned_here, owned_else, unmoved}

module _ {V : Type 0} (part : V → StatePart) (suits : Machine → ℕ → V → Type 0) (m : Machine) (limit base : ℕ) where
  abbrev St : Type 0
  St = State (Content V) View

  abbrev Mine : Type 0
  Mine = Me (Content V) View

  abbrev Tells : Mine → Mine → Type 0
  Tells me m' = (b : Chronicle) × (t : ℕ) × (m' ≡ (view_took_book b.history t me.0, (17, Ledger b) ∷ me.1)) × (b.input ≡ me.0.seen.input) × (b.limit ≡ me.0.seen.limit) × IsPrefix me.0.seen.front b.history × Current m'.0.seen
      × ((k : ℕ) (x : Known) → find_lock k me.0.seen.held ≡ Some x → t ≡ me.0.seen.now) × (me.0.seen.shares ≡ 1024 → b.history ≡ me.0.seen.front)

  -- a seat that does not hold the book names no core
  nobody_named : (s : St) (r : Agrees part suits m limit base s) (id : ℕ) (v : View) → AllBelow 17 v.seen.held → get_elem? s.views id ≡ some v → v.seen.named ≡ 0
  nobody_named s r id v above at = r.stages.nobody id v at (none_or (find_lock 17 v.seen.held) (λ x f. lt_irrefl 17 (above 17 x f)))

  -- the book is taken
  pub picks_up : (s : St) (r : Agrees part suits m limit base s) (id : ℕ) (v : View) (b : Chronicle) → AllBelow 17 v.seen.held → v.out ≡ 0 → 0 < v.seen.shares → get_elem? s.views id ≡ some v → get_or s.words 17 0 ≡ 0 → Fits part m limit r.history 17 (Ledger b)
      → Agrees part suits m limit base (record { words = set s.words 17 1; homes = set s.homes 17 none; views = set s.views id (view_took_book b.history (get_or s.words 146 0) v) })
  picks_up s r id v b above rest left at zero_there fits = let now : ℕ = get_or s.words 146 0 in let w : View = view_took_book b.history now v in let wide = r.wide in
      let shut : get_or (set s.words 17 1) 17 0 ≡ 1 = get_or-set_same s.words 17 1 0 (omega arith) in
      let begins = r.fronts.begins id v at in let long = prefix_length v.seen.front r.history begins in let len = ap length fits.2 in
      let unnamed = nobody_named s r id v above at in
      record {
        history = r.history;
        owner = owned_by r.owner 17 id;
        keeper = r.keeper;
        latest = r.latest;
        sound = r.sound;
        wide = length-set s.words 17 1 ∙ r.wide;
        deep = length-set s.homes 17 none ∙ r.deep;
        suited = suited_step suits m s.words (set s.words 17 1) s.homes (set s.homes 17 none) 17 r.suited (λ j ne. (get_or-set_other s.words 17 j 1 0 ne, set_else s.homes 17 j none ne)) (get_or-set_other s.words 17 146 1 0 (λ e. absurd (omega (arith, e)))) (λ y low. absurd (lt_irrefl 17 low));
        locks = locks_step part m r.history limit s.words (set s.words 17 1) s.homes (set s.homes 17 none) s.views r.owner (owned_by r.owner 17 id) 17 id v w r.locks at
            (λ j ne. (get_or-set_other s.words 17 j 1 0 ne, set_else s.homes 17 j none ne, owned_else r.owner 17 id j ne, find-tail j 17 (book_known) v.seen.held ne, (λ e. absurd (ne e)), λ e. absurd (omega (arith, rest, e))))
            (λ j u z other e f. absurd (omega (arith, zero_there, (r.locks.held j u 17 z e f).shut)))
            (λ _ z. absurd (omega (arith, shut, z)))
            (λ _ _. (owned_here r.owner 17 id, (book_known, find-head 17 (book_known) v.seen.held)))
            (λ z f. record {
              below = omega arith;
              owned = owned_here r.owner 17 id;
              shut = shut;
              agrees = λ e. absurd (lt_irrefl 17 e);
              book = λ _. fits.2;
              slot = λ ne. absurd (ne refl);
            });
        names = names_step part m r.history s.words (set s.words 17 1) s.homes (set s.homes 17 none) s.views 17 id v w r.names at
            (λ j ne. (get_or-set_other s.words 17 j 1 0 ne, set_else s.homes 17 j none ne, find-tail j 17 book_known v.seen.held ne))
            (λ i l _. get_or-set_other s.words 17 i 1 0 (λ e. absurd (omega (arith, e, l))))
            (λ _ _ low _ _ _. absurd (lt_irrefl 17 low))
            (λ z n f l. ap (λ (q : Known). has_place n q.names) (some_same z book_known (sym f ∙ find-head 17 book_known v.seen.held)) ∙ sym (ne_eqb (get_or s.words (18 + n) 0) 17 (r.names.apart n l)))
            (λ _ _ _. refl)
            (λ z. absurd (omega (arith, shut, z)))
            (λ z j n _ _ l. ap (λ (q : ℕ). eqb q j) ((r.names.settled zero_there).0 n l));
        stages = record {
          settled = λ z. absurd (omega (arith, shut, z));
          raised = λ i u x q e f l. set_all (λ _ u. (x : Known) → find_lock 17 u.seen.held ≡ Some x → get_or (set s.words 17 1) (147 + q) 0 ≡ decides_at r.history q + raise q u.seen) s.views id w
              (λ x f. get_or-set_other s.words 17 (147 + q) 1 0 (λ e. absurd (omega (arith, e))) ∙ (r.stages.settled zero_there q l ∙ omega (arith, ap (λ (n : ℕ). let z : ℕ = cond (eqb (suc q) n) 1 0 in z) unnamed, ap (λ b. let z : ℕ = cond b 1 0 in z) (ne_eqb (suc q) 0 (λ e. absurd (omega (arith, e)))))))
              (λ j u other e x f. absurd (omega (arith, zero_there, (r.locks.held j u 17 x e f).shut)))
              i u e x f;
          nobody = λ i u e f. set_all (λ _ u. find_lock 17 u.seen.held ≡ None → u.seen.named ≡ 0) s.views id w (λ _. unnamed) (λ j u _ e f. r.stages.nobody j u e f) i u e f;
        };
        fronts = fronts_grown m limit base s.views r.history r.keeper r.latest id v w r.fronts at refl refl
            (subst (λ z. IsPrefix z r.history) (sym fits.2) (prefix_refl r.history)) (omega (arith, long, len)) (λ _. fits.2) refl left left;
        beside = beside_none s.views id w refl r.beside;
        all_shares = shares_same s.views id v w at refl r.all_shares;
      }

  -- what the seat knows then is of the state to which it leads
  pub current_book : (s : St) (r : Agrees part suits m limit base s) (id : ℕ) (v : View) (b : Chronicle) → AllBelow 17 v.seen.held → 0 < v.seen.shares → get_elem? s.views id ≡ some v → get_or s.words 17 0 ≡ 0 → Fits part m limit r.history 17 (Ledger b)
      → Current (took_book b.history (get_or s.words 146 0) v.seen)
  current_book s r id v b above left at zero_there fits = let is_m : v.seen.input ≡ m = r.fronts.same id v at left in let unnamed = nobody_named s r id v above at in (
    (λ k x low f. let g : find_lock k v.seen.held ≡ Some x = sym (find-tail k 17 book_known v.seen.held (λ e. absurd (omega (arith, low, e)))) ∙ f in (
      (r.locks.held id v k x at g).agrees low ∙ (λ i. part_at (sym is_m i) (sym fits.2 i) k),
      λ n l. r.names.held id v k x n at g l ∙ (ap (λ (q : ℕ). eqb q k) ((r.names.settled zero_there).0 n l) ∙ (λ i. eqb (home_at (sym is_m i) (sym fits.2 i) n) k)),
    )),
    (r.names.settled zero_there).1 ∙ (λ i. now_at (sym is_m i) (sym fits.2 i)),
    unnamed,
    subst (λ (z : Machine × List Entry). IsSound z.0 z.1) (λ i. (sym is_m i, sym fits.2 i)) r.sound,
  )

  opens : (s : St) (r : Agrees part suits m limit base s) (id : ℕ) (me : Mine) (y : Content V) → AllBelow 17 me.0.seen.held → me.0.out ≡ 0 → 0 < me.0.seen.shares
      → get_elem? s.views id ≡ some me.0 → get_or s.words 17 0 ≡ 0 → get_elem? s.homes 17 ≡ some (some y) → Fits part m limit r.history 17 y
      → (w : View) × (a : Act (Content V)) × Valid s.homes me.1 a × Agrees part suits m limit base (stepped s 17 1 id me.1 w a) × Tells me (w, carried_after me.1 a)
  opens s r id me Out above rest left at zero_there there fits = absurd fits
  opens s r id me (Value x) above rest left at zero_there there fits = absurd (lt_irrefl 17 fits.0)
  opens s r id me (Told b) above rest left at zero_there there fits = absurd fits
  opens s r id me (Ledger b) above rest left at zero_there there fits = let v : View = me.0 in let now : ℕ = get_or s.words 146 0 in let is_m : v.seen.input ≡ m = r.fronts.same id v at left in (
    view_took_book b.history now v,
    takes 17 (Ledger b),
    there,
    picks_up s r id v b above rest left at zero_there fits,
    (
      b,
      now,
      refl,
      fits.1 ∙ sym is_m,
      fits.3 ∙ sym (r.fronts.limits id v at left),
      subst (λ z. IsPrefix v.seen.front z) (sym fits.2) (r.fronts.begins id v at),
      current_book s r id v b above left at zero_there fits,
      (λ k x f. sym (r.names.moment id v k x at f)),
      λ whole. let n = r.fronts.newest in
          let is : r.latest ≡ id = dite (ℕ_discrete id r.latest) (λ e. sym e) (λ ne. let two = two_of s.views id r.latest v n.0 ne at n.1 in let all = r.all_shares in absurd (omega (arith, two, all, whole, n.3))) in
          let same : n.0 ≡ v = some-injective n.0 v (sym n.1 ∙ (ap (get_elem? s.views) is ∙ at)) in
          fits.2 ∙ (sym n.2 ∙ ap (λ (u : View). u.seen.front) same),
    ),
  )

  pub tries_book : (slots id : ℕ) (me : Mine) → AllBelow 17 me.0.seen.held → me.0.out ≡ 0 → 0 < me.0.seen.shares
      → Allows (Agrees part suits m limit base) slots id me 17 (λ n. either (eqb n 0) 1 n) (tried_book (step slots 17 0 1 none) me)
  tries_book slots id me above rest left s r deep at small = let x : ℕ = get_or s.words 17 0 in dite (ℕ_discrete x 0)
      (λ e. let f = r.locks.free 17 (omega arith) e in let t = opens s r id me f.0 above rest left at e f.1 f.2 in (
        t.0,
        t.1,
        t.2,
        subst (λ b. Agrees part suits m limit base (stepped s 17 (either b 1 x) id me.1 t.0 t.1)) (sym (eq-eqb x 0 e)) t.3,
        ((λ _. t.4), λ ne. absurd (ne e)),
      ))
      (λ ne. let w : View = view_turned_away 17 me.0 in (
        w,
        keeps,
        tt,
        subst (λ b. Agrees part suits m limit base (stepped s 17 (either b 1 x) id me.1 w keeps)) (sym (ne_eqb x 0 ne)) (unmoved part suits m limit base s r id me.0 w 17 me.1 at left refl refl refl refl refl refl refl refl refl (w.seen.front, refl)),
        ((λ e. absurd (ne e)), λ _. refl),
      ))
