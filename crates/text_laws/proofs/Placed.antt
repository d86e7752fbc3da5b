-- Readers whose faults stand at the furthest place, and how they are put together.
use Rattle.std.proofs.Common.{◌≡◌, ℕ, zero, suc, ◌+◌, ◌-◌, ◌<◌, ◌≤◌, List, [], ◌∷◌, ◌++◌, Option, Some, None, Result, Ok, Err, length, take, refl, sym, ap, subst, ◌∙◌, arith}
use Rattle.sched_model.specs.declared.command.Syntax.{Syntax}
use Rattle.xl_words.specs.Options.{at}
use Rattle.xl_words.specs.Grammar.{field, nothing_more, ◌>>=◌}

-- what is known of a fault at the place p, where the first of the words has the place k
pub record Facts {X : Type 0} (k : ℕ) (f : List (List ℕ) → Result X Syntax) (ws : List (List ℕ)) (p : ℕ) : Type 0 where
  pub low : k ≤ p
  pub high : p ≤ k + length ws
  pub settled : (n : ℕ) (more : List (List ℕ)) → p < k + n → n ≤ length ws → f (take n ws ++ more) ≡ at p
  pub completes : (more : List (List ℕ)) × (x : X) × (f (take (p - k) ws ++ more) ≡ Ok x)

-- each fault of the reader is so
abbrev pub IsPlaced : {X : Type 0} → ℕ → (List (List ℕ) → Result X Syntax) → Type 0
IsPlaced k f = (ws : List (List ℕ)) (p : ℕ) → f ws ≡ at p → Facts k f ws p

-- some words are read
abbrev pub Reads : {X : Type 0} → (List (List ℕ) → Result X Syntax) → Type 0
Reads {X} f = (more : List (List ℕ)) × (x : X) × (f more ≡ Ok x)

-- the place of a fault
abbrev pub place_in : {X : Type 0} → Result X Syntax → ℕ
place_in (Ok x) = 0
place_in (Err s) = s.place

-- one fault has one place
pub place_of : {X : Type 0} (k p : ℕ) → at {X = X} k ≡ at p → k ≡ p
place_of k p e = ap place_in e

take_none : (n : ℕ) → take {A = List ℕ} n [] ≡ []
take_none zero = refl
take_none (suc n) = refl

reads_by : {X : Type 0} (k : ℕ) (f : List (List ℕ) → Result X Syntax) (r : Result X Syntax) → f [] ≡ r → IsPlaced k f → Reads f
reads_by k f (Ok x) e placed = ([], x, e)
reads_by k f (Err s) e placed =
    let facts = placed [] s.place e in
    let c = facts.completes in
    (c.0, c.1, ap (λ front. f (front ++ c.0)) (sym (take_none (s.place - k))) ∙ c.2)

-- a reader that is placed reads some words
pub reads_some : {X : Type 0} (k : ℕ) (f : List (List ℕ) → Result X Syntax) → IsPlaced k f → Reads f
reads_some k f placed = reads_by k f (f []) refl placed

end_settled : {X : Type 0} (k : ℕ) (c : X) (w : List ℕ) (ws : List (List ℕ)) (n : ℕ) (more : List (List ℕ)) → k < k + n → (nothing_more k (take n (w ∷ ws) ++ more) >>= λ end. Ok c) ≡ at k
end_settled k c w ws zero more h = absurd (omega arith)
end_settled k c w ws (suc n) more h = refl

-- no word follows
pub placed_end : {X : Type 0} (k : ℕ) (c : X) → IsPlaced k (λ ws. nothing_more k ws >>= λ end. Ok c)
placed_end k c [] p e = absurd cc
placed_end k c (w ∷ ws) p e =
    let none : k - k ≡ 0 = omega arith in
    subst (Facts k (λ words. nothing_more k words >>= λ end. Ok c) (w ∷ ws)) (place_of k p e) (record {
      low = omega arith;
      high = omega arith;
      settled = λ n more h fits. end_settled k c w ws n more h;
      completes = ([], c, rw none refl);
    })

-- what a word gives
abbrev pub found : {X : Type 0} → ℕ → List (List ℕ) → Option X → Result (X × List (List ℕ)) Syntax
found k ws None = at k
found k ws (Some x) = Ok (x, ws)

module _ {X Y : Type 0} (k : ℕ) (read : List ℕ → Option X) (g : X → List (List ℕ) → Result Y Syntax) where
  -- a word, and what follows it
  abbrev pub then_read : List (List ℕ) → Result Y Syntax
  then_read ws = field read k ws >>= λ got. g got.0 got.1

  step_some : (w : List ℕ) (ws : List (List ℕ)) (x : X) → read w ≡ Some x → then_read (w ∷ ws) ≡ g x ws
  step_some w ws x e = ap (λ o. found k ws o >>= λ got. g got.0 got.1) e

  step_none : (w : List ℕ) (ws : List (List ℕ)) → read w ≡ None → then_read (w ∷ ws) ≡ at k
  step_none w ws e = ap (λ o. found k ws o >>= λ got. g got.0 got.1) e

  -- some word is read, and what follows a word that is read is placed
  pub record Goes : Type 0 where
    pub word : List ℕ
    pub value : X
    pub reads : read word ≡ Some value
    pub placed : (w : List ℕ) (x : X) → read w ≡ Some x → IsPlaced (suc k) (g x)

  here : Goes → (ws : List (List ℕ)) → (more : List (List ℕ)) × (y : Y) × (then_read (take (k - k) ws ++ more) ≡ Ok y)
  here goes ws =
      let none : k - k ≡ 0 = omega arith in
      let r = reads_some (suc k) (g goes.value) (goes.placed goes.word goes.value goes.reads) in
      (goes.word ∷ r.0, r.1, rw none (step_some goes.word r.0 goes.value goes.reads ∙ r.2))

  none_settled : (w : List ℕ) (ws : List (List ℕ)) → read w ≡ None → (n : ℕ) (more : List (List ℕ)) → k < k + n → then_read (take n (w ∷ ws) ++ more) ≡ at k
  none_settled w ws e zero more h = absurd (omega arith)
  none_settled w ws e (suc n) more h = step_none w (take n ws ++ more) e

  some_settled : (w : List ℕ) (ws : List (List ℕ)) (x : X) (p : ℕ) → read w ≡ Some x → Facts (suc k) (g x) ws p → (n : ℕ) (more : List (List ℕ)) → p < k + n → n ≤ length (w ∷ ws) → then_read (take n (w ∷ ws) ++ more) ≡ at p
  some_settled w ws x p e facts zero more h fits = absurd (omega (arith, facts.low))
  some_settled w ws x p e facts (suc n) more h fits = step_some w (take n ws ++ more) x e ∙ facts.settled n more (omega arith) (omega arith)

  word_facts : Goes → (w : List ℕ) (ws : List (List ℕ)) (p : ℕ) (o : Option X) → read w ≡ o → then_read (w ∷ ws) ≡ at p → Facts k then_read (w ∷ ws) p
  word_facts goes w ws p None e fault =
      subst (Facts k then_read (w ∷ ws)) (place_of k p (sym (step_none w ws e) ∙ fault)) (record {
        low = omega arith;
        high = omega arith;
        settled = λ n more h fits. none_settled w ws e n more h;
        completes = here goes (w ∷ ws);
      })
  word_facts goes w ws p (Some x) e fault =
      let facts = goes.placed w x e ws p (sym (step_some w ws x e) ∙ fault) in
      let c = facts.completes in
      let more : p - k ≡ suc (p - suc k) = omega (arith, facts.low) in
      record {
        low = omega (arith, facts.low);
        high = omega (arith, facts.high);
        settled = λ n behind h fits. some_settled w ws x p e facts n behind h fits;
        completes = (c.0, c.1, rw more (step_some w (take (p - suc k) ws ++ c.0) x e ∙ c.2));
      }

  -- a word, and what follows it, are placed
  pub placed_field : Goes → IsPlaced k then_read
  placed_field goes [] p e =
      subst (Facts k then_read []) (place_of k p e) (record {
        low = omega arith;
        high = omega arith;
        settled = λ n more h fits. absurd (omega arith);
        completes = here goes [];
      })
  placed_field goes (w ∷ ws) p e = word_facts goes w ws p (read w) refl e
