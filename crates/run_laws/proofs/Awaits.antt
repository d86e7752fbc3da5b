-- Tests of a moment that wait for moments: once passed they stay passed, and they come to be passed at a moment of a list.
use Rattle.std.proofs.Common.{◌≡◌, ℕ, ◌≤◌, ◌<◌, Bool, true, false, List, [], ◌∷◌, refl, sym, ◌∙◌, arith, inl, inr}
use Rattle.std.specs.Prelude.{Option, Some, None, nat_le, ◌&&◌, ◌||◌}
use Rattle.std.specs.List.{list_any}
use Rattle.std.proofs.lemmas.Bool.{leb-true, le-leb, false≢true, cases_Bool, or_right, or_parts, or_cases, and_from}
use Rattle.std.proofs.lemmas.Bool.Decides.{leb_tells}
use Rattle.sched_base.proofs.Bools.{and_left, and_right, or_more}
use Rattle.sched_base.specs.Lists.{Has}

-- a moment of the list, after t and not after u, at which the test passes
pub record Begins (moments : List ℕ) (test : ℕ → Bool) (t u : ℕ) : Type 0 where
  pub at : ℕ
  pub named : Has at moments
  pub later : t < at
  pub soon : at ≤ u
  pub passes : test at ≡ true

-- the test stays passed, and comes to be passed at a moment of the list
pub record Awaits (moments : List ℕ) (test : ℕ → Bool) : Type 0 where
  pub stays : (t u : ℕ) → t ≤ u → test t ≡ true → test u ≡ true
  pub begins : (t u : ℕ) → test t ≡ false → test u ≡ true → Begins moments test t u

pub Awaits-fixed : (moments : List ℕ) (b : Bool) → Awaits moments (λ t. b)
Awaits-fixed moments b = record { stays = λ t u h is. is; begins = λ t u off on. absurd (false≢true (cc)) }

pub Awaits-moment : (moments : List ℕ) (n : ℕ) → Has n moments → Awaits moments (λ t. nat_le n t)
Awaits-moment moments n named = record {
  stays = λ t u h is. le-leb n u (omega (arith, leb-true n t is));
  begins = λ t u off on. record { at = n; named = named; later = grind (arith, leb_tells); soon = leb-true n u on; passes = le-leb n n (omega arith) };
}

-- the same test, written in another way
pub Awaits-same : (moments : List ℕ) (f g : ℕ → Bool) → ((t : ℕ) → f t ≡ g t) → Awaits moments f → Awaits moments g
Awaits-same moments f g same w = record {
  stays = λ t u h is. sym (same u) ∙ w.stays t u h (same t ∙ is);
  begins = λ t u off on. (let b = w.begins t u (same t ∙ off) (same u ∙ on) in record { at = b.at; named = b.named; later = b.later; soon = b.soon; passes = sym (same b.at) ∙ b.passes });
}

pub Awaits-wider : (moments more : List ℕ) (test : ℕ → Bool) → ((n : ℕ) → Has n moments → Has n more) → Awaits moments test → Awaits more test
Awaits-wider moments more test wider w = record {
  stays = w.stays;
  begins = λ t u off on. (let b = w.begins t u off on in record { at = b.at; named = wider b.at b.named; later = b.later; soon = b.soon; passes = b.passes });
}

and-false : (a b : Bool) → a ≡ true → (a && b) ≡ false → b ≡ false
and-false true b h k = k
and-false false b h k = absurd (false≢true h)

-- where the first test passes already, the second one begins
begins-second : (moments : List ℕ) (f g : ℕ → Bool) → Awaits moments f → Awaits moments g → (t u : ℕ) → f t ≡ true → (f t && g t) ≡ false → (f u && g u) ≡ true → Begins moments (λ n. f n && g n) t u
begins-second moments f g w v t u passed off on =
    let b = v.begins t u (and-false (f t) (g t) passed off) (and_right (f u) (g u) on) in
    record { at = b.at; named = b.named; later = b.later; soon = b.soon; passes = and_from (f b.at) (g b.at) (w.stays t b.at (omega (arith, b.later)) passed) b.passes }

-- where it does not, the first one begins, and the second one then or later
begins-first : (moments : List ℕ) (f g : ℕ → Bool) → Awaits moments f → Awaits moments g → (t u : ℕ) → f t ≡ false → (f u && g u) ≡ true → Begins moments (λ n. f n && g n) t u
begins-first moments f g w v t u off on =
    let b = w.begins t u off (and_left (f u) (g u) on) in
    elim (cases_Bool (g b.at)) [
      | inl there ↦ record { at = b.at; named = b.named; later = b.later; soon = b.soon; passes = and_from (f b.at) (g b.at) b.passes there }
      | inr later ↦
          let c = v.begins b.at u later (and_right (f u) (g u) on) in
          record { at = c.at; named = c.named; later = omega (arith, b.later, c.later); soon = c.soon; passes = and_from (f c.at) (g c.at) (w.stays b.at c.at (omega (arith, c.later)) b.passes) c.passes }
    ]

pub Awaits-and : (moments : List ℕ) (f g : ℕ → Bool) → Awaits moments f → Awaits moments g → Awaits moments (λ t. f t && g t)
Awaits-and moments f g w v = record {
  stays = λ t u h is. and_from (f u) (g u) (w.stays t u h (and_left (f t) (g t) is)) (v.stays t u h (and_right (f t) (g t) is));
  begins = λ t u off on. (elim (cases_Bool (f t)) [ inl passed ↦ begins-second moments f g w v t u passed off on | inr not_yet ↦ begins-first moments f g w v t u not_yet on ]);
}

pub Awaits-or : (moments : List ℕ) (f g : ℕ → Bool) → Awaits moments f → Awaits moments g → Awaits moments (λ t. f t || g t)
Awaits-or moments f g w v = record {
  stays = λ t u h is. (elim (or_cases (f t) (g t) is) [ inl a ↦ or_more (f u) (g u) (w.stays t u h a) | inr b ↦ or_right (f u) (g u) (v.stays t u h b) ]);
  begins = λ t u off on. (
      let none = or_parts (f t) (g t) off in
      elim (or_cases (f u) (g u) on) [
        | inl a ↦ (let b = w.begins t u none.0 a in record { at = b.at; named = b.named; later = b.later; soon = b.soon; passes = or_more (f b.at) (g b.at) b.passes })
        | inr c ↦ (let b = v.begins t u none.1 c in record { at = b.at; named = b.named; later = b.later; soon = b.soon; passes = or_right (f b.at) (g b.at) b.passes })
      ]);
}

-- a test that some element passes
pub Awaits-any : {X : Type 0} (moments : List ℕ) (test : ℕ → X → Bool) (xs : List X) → ((x : X) → Awaits moments (λ t. test t x)) → Awaits moments (λ t. list_any (test t) xs)
Awaits-any moments test [] h = Awaits-fixed moments false
Awaits-any moments test (x ∷ xs) h = Awaits-or moments (λ t. test t x) (λ t. list_any (test t) xs) (h x) (Awaits-any moments test xs h)

-- a test of something, where it is there
pub Awaits-there : {X : Type 0} (moments : List ℕ) (test : ℕ → X → Bool) (o : Option X) → ((x : X) → o ≡ Some x → Awaits moments (λ t. test t x)) → Awaits moments (λ t. elim o [ None ↦ false | Some x ↦ test t x ])
Awaits-there moments test None h = Awaits-fixed moments false
Awaits-there moments test (Some x) h = h x refl
