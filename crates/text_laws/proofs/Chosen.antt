-- Options are placed, where some words end them and each value can be given.
use Rattle.std.proofs.Common.{◌≡◌, ℕ, zero, suc, ◌+◌, ◌-◌, ◌<◌, ◌≤◌, Bool, true, false, List, [], ◌∷◌, ◌++◌, Option, Some, None, Result, Ok, length, take, refl, sym, ap, subst, ◌∙◌, arith}
use Rattle.sched_model.specs.declared.command.Syntax.{Syntax}
use Rattle.xl_words.specs.Options.{at, Rules, options}
use Rattle.xl_words.specs.Grammar.{◌>>=◌}
use Rattle.text_laws.proofs.Placed.{Facts, Reads, place_of}

module _ {G X : Type 0} (rules : Rules G) (finish : G → ℕ → Result X Syntax) where
  opt_given : (k : ℕ) (g h : G) (w : List ℕ) (ws : List (List ℕ)) → rules.alone g w ≡ Some h → options rules k g (w ∷ ws) ≡ options rules (k + 1) h ws
  opt_given k g h w [] e = rw (options, e) refl
  opt_given k g h w (v ∷ ws) e = rw (options, e) refl

  opt_refused : (k : ℕ) (g : G) (w : List ℕ) (ws : List (List ℕ)) → rules.alone g w ≡ None → rules.takes g w ≡ false → options rules k g (w ∷ ws) ≡ at k
  opt_refused k g w [] e f = rw (options, e, f) refl
  opt_refused k g w (v ∷ ws) e f = rw (options, e, f) refl

  opt_short : (k : ℕ) (g : G) (w : List ℕ) → rules.alone g w ≡ None → rules.takes g w ≡ true → options rules k g (w ∷ []) ≡ at (k + 1)
  opt_short k g w e f = rw (options, e, f) refl

  opt_bad : (k : ℕ) (g : G) (w v : List ℕ) (ws : List (List ℕ)) → rules.alone g w ≡ None → rules.takes g w ≡ true → rules.value g w v ≡ None → options rules k g (w ∷ v ∷ ws) ≡ at (k + 1)
  opt_bad k g w v ws e f b = rw (options, e, f, b) refl

  opt_valued : (k : ℕ) (g h : G) (w v : List ℕ) (ws : List (List ℕ)) → rules.alone g w ≡ None → rules.takes g w ≡ true → rules.value g w v ≡ Some h → options rules k g (w ∷ v ∷ ws) ≡ options rules (k + 2) h ws
  opt_valued k g h w v ws e f b = rw (options, e, f, b) refl

  -- the options, and what is made of them
  abbrev pub all_read : ℕ → G → List (List ℕ) → Result X Syntax
  all_read k g ws = options rules k g ws >>= λ given. finish given.0 given.1

  -- what is missing is missed at the end, a value can be given to each option, and some words end the options
  pub record Ends : Type 0 where
    pub at_end : (g : G) (p q : ℕ) → finish g p ≡ at q → p ≡ q
    pub values : (g : G) (w : List ℕ) → rules.takes g w ≡ true → (v : List ℕ) × (h : G) × (rules.value g w v ≡ Some h)
    pub ends : (k : ℕ) (g : G) → Reads (all_read k g)

  shift_settled : (k p : ℕ) (g h : G) (w : List ℕ) (ws : List (List ℕ)) → rules.alone g w ≡ Some h → Facts (k + 1) (all_read (k + 1) h) ws p → (n : ℕ) (more : List (List ℕ)) → p < k + n → n ≤ length (w ∷ ws) → all_read k g (take n (w ∷ ws) ++ more) ≡ at p
  shift_settled k p g h w ws e facts zero more low fits = absurd (omega (arith, facts.low))
  shift_settled k p g h w ws e facts (suc n) more low fits =
      ap (λ r. r >>= λ given. finish given.0 given.1) (opt_given k g h w (take n ws ++ more) e) ∙ facts.settled n more (omega arith) (omega arith)

  shift_one : (k p : ℕ) (g h : G) (w : List ℕ) (ws : List (List ℕ)) → rules.alone g w ≡ Some h → Facts (k + 1) (all_read (k + 1) h) ws p → Facts k (all_read k g) (w ∷ ws) p
  shift_one k p g h w ws e facts =
      let c = facts.completes in
      let one : p - k ≡ suc (p - (k + 1)) = omega (arith, facts.low) in
      record {
        low = omega (arith, facts.low);
        high = omega (arith, facts.high);
        settled = λ n more low fits. shift_settled k p g h w ws e facts n more low fits;
        completes = (c.0, c.1, rw one (ap (λ r. r >>= λ given. finish given.0 given.1) (opt_given k g h w (take (p - (k + 1)) ws ++ c.0) e) ∙ c.2));
      }

  two_settled : (k p : ℕ) (g h : G) (w v : List ℕ) (ws : List (List ℕ)) → rules.alone g w ≡ None → rules.takes g w ≡ true → rules.value g w v ≡ Some h → Facts (k + 2) (all_read (k + 2) h) ws p → (n : ℕ) (more : List (List ℕ)) → p < k + n → n ≤ length (w ∷ v ∷ ws) → all_read k g (take n (w ∷ v ∷ ws) ++ more) ≡ at p
  two_settled k p g h w v ws e f b facts zero more low fits = absurd (omega (arith, facts.low))
  two_settled k p g h w v ws e f b facts (suc zero) more low fits = absurd (omega (arith, facts.low))
  two_settled k p g h w v ws e f b facts (suc (suc n)) more low fits =
      ap (λ r. r >>= λ given. finish given.0 given.1) (opt_valued k g h w v (take n ws ++ more) e f b) ∙ facts.settled n more (omega arith) (omega arith)

  shift_two : (k p : ℕ) (g h : G) (w v : List ℕ) (ws : List (List ℕ)) → rules.alone g w ≡ None → rules.takes g w ≡ true → rules.value g w v ≡ Some h → Facts (k + 2) (all_read (k + 2) h) ws p → Facts k (all_read k g) (w ∷ v ∷ ws) p
  shift_two k p g h w v ws e f b facts =
      let c = facts.completes in
      let two : p - k ≡ suc (suc (p - (k + 2))) = omega (arith, facts.low) in
      record {
        low = omega (arith, facts.low);
        high = omega (arith, facts.high);
        settled = λ n more low fits. two_settled k p g h w v ws e f b facts n more low fits;
        completes = (c.0, c.1, rw two (ap (λ r. r >>= λ given. finish given.0 given.1) (opt_valued k g h w v (take (p - (k + 2)) ws ++ c.0) e f b) ∙ c.2));
      }

  ends_here : Ends → (k : ℕ) (g : G) (ws : List (List ℕ)) → (more : List (List ℕ)) × (x : X) × (all_read k g (take (k - k) ws ++ more) ≡ Ok x)
  ends_here ends k g ws =
      let none : k - k ≡ 0 = omega arith in
      let r = ends.ends k g in
      (r.0, r.1, rw none r.2)

  refused_settled : (k : ℕ) (g : G) (w : List ℕ) (ws : List (List ℕ)) → rules.alone g w ≡ None → rules.takes g w ≡ false → (n : ℕ) (more : List (List ℕ)) → k < k + n → all_read k g (take n (w ∷ ws) ++ more) ≡ at k
  refused_settled k g w ws e f zero more low = absurd (omega arith)
  refused_settled k g w ws e f (suc n) more low = ap (λ r. r >>= λ given. finish given.0 given.1) (opt_refused k g w (take n ws ++ more) e f)

  refused : Ends → (k : ℕ) (g : G) (w : List ℕ) (ws : List (List ℕ)) → rules.alone g w ≡ None → rules.takes g w ≡ false → Facts k (all_read k g) (w ∷ ws) k
  refused ends k g w ws e f = record {
    low = omega arith;
    high = omega arith;
    settled = λ n more low fits. refused_settled k g w ws e f n more low;
    completes = ends_here ends k g (w ∷ ws);
  }

  value_wanted : Ends → (k : ℕ) (g : G) (w : List ℕ) (ws : List (List ℕ)) → rules.alone g w ≡ None → rules.takes g w ≡ true → (more : List (List ℕ)) × (x : X) × (all_read k g (take (k + 1 - k) (w ∷ ws) ++ more) ≡ Ok x)
  value_wanted ends k g w ws e f =
      let one : k + 1 - k ≡ suc 0 = omega arith in
      let v = ends.values g w f in
      let r = ends.ends (k + 2) v.1 in
      (v.0 ∷ r.0, r.1, rw one (ap (λ r. r >>= λ given. finish given.0 given.1) (opt_valued k g v.1 w v.0 r.0 e f v.2) ∙ r.2))

  bad_settled : (k : ℕ) (g : G) (w v : List ℕ) (ws : List (List ℕ)) → rules.alone g w ≡ None → rules.takes g w ≡ true → rules.value g w v ≡ None → (n : ℕ) (more : List (List ℕ)) → k + 1 < k + n → all_read k g (take n (w ∷ v ∷ ws) ++ more) ≡ at (k + 1)
  bad_settled k g w v ws e f b zero more low = absurd (omega arith)
  bad_settled k g w v ws e f b (suc zero) more low = absurd (omega arith)
  bad_settled k g w v ws e f b (suc (suc n)) more low = ap (λ r. r >>= λ given. finish given.0 given.1) (opt_bad k g w v (take n ws ++ more) e f b)

  bad_value : Ends → (k : ℕ) (g : G) (w v : List ℕ) (ws : List (List ℕ)) → rules.alone g w ≡ None → rules.takes g w ≡ true → rules.value g w v ≡ None → Facts k (all_read k g) (w ∷ v ∷ ws) (k + 1)
  bad_value ends k g w v ws e f b = record {
    low = omega arith;
    high = omega arith;
    settled = λ n more low fits. bad_settled k g w v ws e f b n more low;
    completes = value_wanted ends k g w (v ∷ ws) e f;
  }

  short : Ends → (k : ℕ) (g : G) (w : List ℕ) → rules.alone g w ≡ None → rules.takes g w ≡ true → Facts k (all_read k g) (w ∷ []) (k + 1)
  short ends k g w e f = record {
    low = omega arith;
    high = omega arith;
    settled = λ n more low fits. absurd (omega arith);
    completes = value_wanted ends k g w [] e f;
  }

  no_word : Ends → (k p : ℕ) (g : G) → finish g k ≡ at p → Facts k (all_read k g) [] p
  no_word ends k p g e =
      subst (Facts k (all_read k g) []) (ends.at_end g k p e) (record {
        low = omega arith;
        high = omega arith;
        settled = λ n more low fits. absurd (omega arith);
        completes = ends_here ends k g [];
      })

  -- what a fault of the words behind is, for the two readers that go on
  abbrev Later : List (List ℕ) → Type 0
  Later ws = (k p : ℕ) (g : G) → all_read k g ws ≡ at p → Facts k (all_read k g) ws p

  one_word : Ends → (k p : ℕ) (g : G) (w : List ℕ) (o : Option G) (t : Bool) → rules.alone g w ≡ o → rules.takes g w ≡ t → all_read k g (w ∷ []) ≡ at p → Facts k (all_read k g) (w ∷ []) p
  one_word ends k p g w (Some h) t e f fault =
      shift_one k p g h w [] e (no_word ends (k + 1) p h (sym (ap (λ r. r >>= λ given. finish given.0 given.1) (opt_given k g h w [] e)) ∙ fault))
  one_word ends k p g w None false e f fault =
      subst (Facts k (all_read k g) (w ∷ [])) (place_of k p (sym (ap (λ r. r >>= λ given. finish given.0 given.1) (opt_refused k g w [] e f)) ∙ fault)) (refused ends k g w [] e f)
  one_word ends k p g w None true e f fault =
      subst (Facts k (all_read k g) (w ∷ [])) (place_of (k + 1) p (sym (ap (λ r. r >>= λ given. finish given.0 given.1) (opt_short k g w e f)) ∙ fault)) (short ends k g w e f)

  two_words : Ends → (k p : ℕ) (g : G) (w v : List ℕ) (ws : List (List ℕ)) → Later (v ∷ ws) → Later ws → (o : Option G) (t : Bool) (b : Option G) → rules.alone g w ≡ o → rules.takes g w ≡ t → rules.value g w v ≡ b → all_read k g (w ∷ v ∷ ws) ≡ at p → Facts k (all_read k g) (w ∷ v ∷ ws) p
  two_words ends k p g w v ws near far (Some h) t b e f d fault =
      shift_one k p g h w (v ∷ ws) e (near (k + 1) p h (sym (ap (λ r. r >>= λ given. finish given.0 given.1) (opt_given k g h w (v ∷ ws) e)) ∙ fault))
  two_words ends k p g w v ws near far None false b e f d fault =
      subst (Facts k (all_read k g) (w ∷ v ∷ ws)) (place_of k p (sym (ap (λ r. r >>= λ given. finish given.0 given.1) (opt_refused k g w (v ∷ ws) e f)) ∙ fault)) (refused ends k g w (v ∷ ws) e f)
  two_words ends k p g w v ws near far None true None e f d fault =
      subst (Facts k (all_read k g) (w ∷ v ∷ ws)) (place_of (k + 1) p (sym (ap (λ r. r >>= λ given. finish given.0 given.1) (opt_bad k g w v ws e f d)) ∙ fault)) (bad_value ends k g w v ws e f d)
  two_words ends k p g w v ws near far None true (Some h) e f d fault =
      shift_two k p g h w v ws e f d (far (k + 2) p h (sym (ap (λ r. r >>= λ given. finish given.0 given.1) (opt_valued k g h w v ws e f d)) ∙ fault))

  -- the options are placed
  pub placed_options : Ends → (ws : List (List ℕ)) → Later ws
  placed_options ends [] k p g fault = no_word ends k p g fault
  placed_options ends (w ∷ []) k p g fault = one_word ends k p g w (rules.alone g w) (rules.takes g w) refl refl fault
  placed_options ends (w ∷ v ∷ ws) k p g fault =
      two_words ends k p g w v ws (placed_options ends (v ∷ ws)) (placed_options ends ws) (rules.alone g w) (rules.takes g w) (rules.value g w v) refl refl refl fault
