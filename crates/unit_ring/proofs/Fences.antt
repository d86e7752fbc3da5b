-- The three lists between the fences of a chain.
use Rattle.std.proofs.Common.{◌≡◌, ℕ, ◌≤◌, List, [], ◌∷◌, ◌++◌, Bool, refl, sym, ◌∙◌, ap, subst, inl, inr, arith, append_assoc}
use Rattle.std.specs.Prelude.{if◌then◌else◌}
use Rattle.std.proofs.lemmas.Bool.{cases_eq, eq-eqb, ne_eqb}
use Rattle.unit_ring.specs.Chains.{Path, Lacks, Distinct, chain, numbers_before, numbers_after, fenced_numbers, nodes_of, second_of, free_of, numbers_without, put_before}
use Rattle.sched_base.specs.Lists.{Has}
use Rattle.unit_ring.proofs.Linking.{without-same, without-other, put_before-same, put_before-other, put_before-lacks, Lacks-Has}
use Rattle.sched_base.proofs.Lists.{Has-left, Has-right}

pub Lacks-left : (m : ℕ) (xs ws : List ℕ) → Lacks m (xs ++ ws) → Lacks m xs
Lacks-left m [] ws lacks = tt
Lacks-left m (x ∷ xs) ws lacks = (lacks.0, Lacks-left m xs ws lacks.1)

pub Lacks-right : (m : ℕ) (xs ws : List ℕ) → Lacks m (xs ++ ws) → Lacks m ws
Lacks-right m [] ws lacks = lacks
Lacks-right m (x ∷ xs) ws lacks = Lacks-right m xs ws lacks.1

-- of a list without repeats: what one part has, the other lacks
pub apart_left : (m : ℕ) (xs ws : List ℕ) → Distinct (xs ++ ws) → Has m ws → Lacks m xs
apart_left m [] ws distinct has = tt
apart_left m (x ∷ xs) ws distinct has =
    ((λ e. Lacks-Has x m (xs ++ ws) distinct.0 (Has-right m xs ws has) (sym e)), apart_left m xs ws distinct.1 has)

pub apart_right : (m : ℕ) (xs ws : List ℕ) → Distinct (xs ++ ws) → Has m xs → Lacks m ws
apart_right m [] ws distinct has = absurd has
apart_right m (x ∷ xs) ws distinct has =
    elim has [
      | inl is ↦ subst (λ (k : ℕ). Lacks k ws) (sym is) (Lacks-right x xs ws distinct.0)
      | inr later ↦ apart_right m xs ws distinct.1 later
    ]

pub Distinct-left : (xs ws : List ℕ) → Distinct (xs ++ ws) → Distinct xs
Distinct-left [] ws distinct = tt
Distinct-left (x ∷ xs) ws distinct = (Lacks-left x xs ws distinct.0, Distinct-left xs ws distinct.1)

pub Distinct-right : (xs ws : List ℕ) → Distinct (xs ++ ws) → Distinct ws
Distinct-right [] ws distinct = distinct
Distinct-right (x ∷ xs) ws distinct = Distinct-right xs ws distinct.1

pub Path-right : (f g : List ℕ) (x m : ℕ) (xs ws : List ℕ) → Path f g x (xs ++ m ∷ ws) → Path f g m ws
Path-right f g x m [] ws path = path.2
Path-right f g x m (y ∷ xs) ws path = Path-right f g y m xs ws path.2

pub without-append : (n : ℕ) (xs ys : List ℕ) → numbers_without n (xs ++ ys) ≡ numbers_without n xs ++ numbers_without n ys
without-append n [] ys = refl
without-append n (x ∷ xs) ys =
    elim (cases_eq x n) [
      | inl is ↦
          without-same n x (xs ++ ys) is
          ∙ without-append n xs ys
          ∙ ap (λ (zs : List ℕ). zs ++ numbers_without n ys) (sym (without-same n x xs is))
      | inr other ↦
          without-other n x (xs ++ ys) other
          ∙ ap (λ (zs : List ℕ). x ∷ zs) (without-append n xs ys)
          ∙ ap (λ (zs : List ℕ). zs ++ numbers_without n ys) (sym (without-other n x xs other))
    ]

pub put_before-append : (at n : ℕ) (xs ys : List ℕ) → put_before at n (xs ++ ys) ≡ put_before at n xs ++ put_before at n ys
put_before-append at n [] ys = refl
put_before-append at n (x ∷ xs) ys =
    elim (cases_eq x at) [
      | inl is ↦
          put_before-same at n x (xs ++ ys) is
          ∙ ap (λ (zs : List ℕ). n ∷ x ∷ zs) (put_before-append at n xs ys)
          ∙ ap (λ (zs : List ℕ). zs ++ put_before at n ys) (sym (put_before-same at n x xs is))
      | inr other ↦
          put_before-other at n x (xs ++ ys) other
          ∙ ap (λ (zs : List ℕ). x ∷ zs) (put_before-append at n xs ys)
          ∙ ap (λ (zs : List ℕ). zs ++ put_before at n ys) (sym (put_before-other at n x xs other))
    ]

pub until-append : (m : ℕ) (xs ys : List ℕ) → Lacks m xs → numbers_before m (xs ++ m ∷ ys) ≡ xs
until-append m [] ys lacks = ap (λ (t : Bool). if t then [] else m ∷ numbers_before m ys) (eq-eqb m m refl)
until-append m (x ∷ xs) ys lacks =
    ap (λ (t : Bool). if t then [] else x ∷ numbers_before m (xs ++ m ∷ ys)) (ne_eqb x m (λ e. lacks.0 (sym e)))
    ∙ ap (λ (zs : List ℕ). x ∷ zs) (until-append m xs ys lacks.1)

pub past-append : (m : ℕ) (xs ys : List ℕ) → Lacks m xs → numbers_after m (xs ++ m ∷ ys) ≡ ys
past-append m [] ys lacks = ap (λ (t : Bool). if t then ys else numbers_after m ys) (eq-eqb m m refl)
past-append m (x ∷ xs) ys lacks =
    ap (λ (t : Bool). if t then xs ++ m ∷ ys else numbers_after m (xs ++ m ∷ ys)) (ne_eqb x m (λ e. lacks.0 (sym e)))
    ∙ past-append m xs ys lacks.1

-- a list has none of the fences
pub record Plain (xs : List ℕ) : Type 0 where
  pub no_0 : Lacks 0 xs
  pub no_1 : Lacks 1 xs
  pub no_2 : Lacks 2 xs
  pub no_3 : Lacks 3 xs

-- its numbers are those of nodes
pub high : (xs : List ℕ) → Plain xs → (n : ℕ) → Has n xs → 4 ≤ n
high xs plain n has =
    let n0 = Lacks-Has 0 n xs plain.no_0 has in
    let n1 = Lacks-Has 1 n xs plain.no_1 has in
    let n2 = Lacks-Has 2 n xs plain.no_2 has in
    let n3 = Lacks-Has 3 n xs plain.no_3 has in
    omega (arith, n0, n1, n2, n3)

-- the lists of a chain have no fence, no number twice and none in common
pub record Parted (xs ys zs : List ℕ) : Type 0 where
  pub first : Plain xs
  pub second : Plain ys
  pub free : Plain zs
  pub first_distinct : Distinct xs
  pub second_distinct : Distinct ys
  pub free_distinct : Distinct zs
  pub first_only : (n : ℕ) → Has n xs → Lacks n ys × Lacks n zs
  pub second_only : (n : ℕ) → Has n ys → Lacks n xs × Lacks n zs
  pub free_only : (n : ℕ) → Has n zs → Lacks n xs × Lacks n ys

pub parted : (xs ys zs : List ℕ) → Distinct (0 ∷ fenced_numbers xs ys zs) → Parted xs ys zs
parted xs ys zs distinct =
    let free : List ℕ = zs ++ 3 ∷ [] in
    let second : List ℕ = ys ++ 2 ∷ free in
    let from_1 : Distinct (1 ∷ second) = Distinct-right xs (1 ∷ second) distinct.1 in
    let from_2 : Distinct (2 ∷ free) = Distinct-right ys (2 ∷ free) from_1.1 in
    let not_0 : Lacks 0 (1 ∷ second) = Lacks-right 0 xs (1 ∷ second) distinct.0 in
    let not_0_free : Lacks 0 (2 ∷ free) = Lacks-right 0 ys (2 ∷ free) not_0.1 in
    let not_1_free : Lacks 1 (2 ∷ free) = Lacks-right 1 ys (2 ∷ free) from_1.0 in
    let has_3 : Has 3 free = Has-right 3 zs (3 ∷ []) (inl refl) in
    let has_2 : Has 2 second = Has-right 2 ys (2 ∷ free) (inl refl) in
    record {
      first = record {
        no_0 = Lacks-left 0 xs (1 ∷ second) distinct.0;
        no_1 = apart_left 1 xs (1 ∷ second) distinct.1 (inl refl);
        no_2 = apart_left 2 xs (1 ∷ second) distinct.1 (inr has_2);
        no_3 = apart_left 3 xs (1 ∷ second) distinct.1 (inr (Has-right 3 ys (2 ∷ free) (inr has_3)));
      };
      second = record {
        no_0 = Lacks-left 0 ys (2 ∷ free) not_0.1;
        no_1 = Lacks-left 1 ys (2 ∷ free) from_1.0;
        no_2 = apart_left 2 ys (2 ∷ free) from_1.1 (inl refl);
        no_3 = apart_left 3 ys (2 ∷ free) from_1.1 (inr has_3);
      };
      free = record {
        no_0 = Lacks-left 0 zs (3 ∷ []) not_0_free.1;
        no_1 = Lacks-left 1 zs (3 ∷ []) not_1_free.1;
        no_2 = Lacks-left 2 zs (3 ∷ []) from_2.0;
        no_3 = apart_left 3 zs (3 ∷ []) from_2.1 (inl refl);
      };
      first_distinct = Distinct-left xs (1 ∷ second) distinct.1;
      second_distinct = Distinct-left ys (2 ∷ free) from_1.1;
      free_distinct = Distinct-left zs (3 ∷ []) from_2.1;
      first_only = λ n has.
          let rest : Lacks n (1 ∷ second) = apart_right n xs (1 ∷ second) distinct.1 has in
          (Lacks-left n ys (2 ∷ free) rest.1, Lacks-left n zs (3 ∷ []) (Lacks-right n ys (2 ∷ free) rest.1).1);
      second_only = λ n has.
          let rest : Lacks n (2 ∷ free) = apart_right n ys (2 ∷ free) from_1.1 has in
          (apart_left n xs (1 ∷ second) distinct.1 (inr (Has-left n ys (2 ∷ free) has)), Lacks-left n zs (3 ∷ []) rest.1);
      free_only = λ n has.
          let later : Has n free = Has-left n zs (3 ∷ []) has in (
            apart_left n xs (1 ∷ second) distinct.1 (inr (Has-right n ys (2 ∷ free) (inr later))),
            apart_left n ys (2 ∷ free) from_1.1 (inr later),
          );
    }

-- the lists that callers see are those between the fences
pub nodes_of-is : (f xs ys zs : List ℕ) → chain f ≡ fenced_numbers xs ys zs → Plain xs → nodes_of f ≡ xs
nodes_of-is f xs ys zs e plain = ap (numbers_before 1) e ∙ until-append 1 xs (ys ++ 2 ∷ (zs ++ 3 ∷ [])) plain.no_1

pub second_of-is : (f xs ys zs : List ℕ) → chain f ≡ fenced_numbers xs ys zs → Plain xs → Plain ys → second_of f ≡ ys
second_of-is f xs ys zs e plain second =
    ap (λ (ws : List ℕ). numbers_before 2 (numbers_after 1 ws)) e
    ∙ ap (numbers_before 2) (past-append 1 xs (ys ++ 2 ∷ (zs ++ 3 ∷ [])) plain.no_1)
    ∙ until-append 2 ys (zs ++ 3 ∷ []) second.no_2

pub free_of-is : (f xs ys zs : List ℕ) → chain f ≡ fenced_numbers xs ys zs → Plain xs → Plain ys → Plain zs → free_of f ≡ zs
free_of-is f xs ys zs e plain second free =
    ap (λ (ws : List ℕ). numbers_before 3 (numbers_after 2 (numbers_after 1 ws))) e
    ∙ ap (λ (ws : List ℕ). numbers_before 3 (numbers_after 2 ws)) (past-append 1 xs (ys ++ 2 ∷ (zs ++ 3 ∷ [])) plain.no_1)
    ∙ ap (numbers_before 3) (past-append 2 ys (zs ++ 3 ∷ []) second.no_2)
    ∙ until-append 3 zs [] free.no_3

-- lists between the fences without a node
pub fenced-without : (n : ℕ) (xs ys zs : List ℕ) → 4 ≤ n
    → numbers_without n (fenced_numbers xs ys zs) ≡ fenced_numbers (numbers_without n xs) (numbers_without n ys) (numbers_without n zs)
fenced-without n xs ys zs high_n =
    let free : numbers_without n (zs ++ 3 ∷ []) ≡ numbers_without n zs ++ 3 ∷ [] =
    without-append n zs (3 ∷ []) ∙ ap (λ (ws : List ℕ). numbers_without n zs ++ ws) (without-other n 3 [] (λ e. omega (arith, e, high_n)))
    in
    let second : numbers_without n (ys ++ 2 ∷ (zs ++ 3 ∷ [])) ≡ numbers_without n ys ++ 2 ∷ (numbers_without n zs ++ 3 ∷ []) =
    without-append n ys (2 ∷ (zs ++ 3 ∷ []))
    ∙ ap (λ (ws : List ℕ). numbers_without n ys ++ ws) (without-other n 2 (zs ++ 3 ∷ []) (λ e. omega (arith, e, high_n)) ∙ ap (λ (ws : List ℕ). 2 ∷ ws) free)
    in
    without-append n xs (1 ∷ (ys ++ 2 ∷ (zs ++ 3 ∷ [])))
    ∙ ap (λ (ws : List ℕ). numbers_without n xs ++ ws)
    (without-other n 1 (ys ++ 2 ∷ (zs ++ 3 ∷ [])) (λ e. omega (arith, e, high_n)) ∙ ap (λ (ws : List ℕ). 1 ∷ ws) second)

-- lists between the fences with a number before another one
put_at : (at n m : ℕ) (xs ws us : List ℕ) → (m ≡ at → ⊥) → put_before at n ws ≡ us
    → put_before at n (xs ++ m ∷ ws) ≡ put_before at n xs ++ m ∷ us
put_at at n m xs ws us other e =
    put_before-append at n xs (m ∷ ws)
    ∙ ap (λ (vs : List ℕ). put_before at n xs ++ vs) (put_before-other at n m ws other ∙ ap (λ (vs : List ℕ). m ∷ vs) e)

-- before a fence is at the end of the list
put_end : (m n : ℕ) (xs ws : List ℕ) → Lacks m xs → Lacks m ws
    → put_before m n (xs ++ m ∷ ws) ≡ (xs ++ n ∷ []) ++ m ∷ ws
put_end m n xs ws lacks later =
    put_before-append m n xs (m ∷ ws)
    ∙ ap (λ (vs : List ℕ). vs ++ put_before m n (m ∷ ws)) (put_before-lacks m n xs lacks)
    ∙ ap (λ (vs : List ℕ). xs ++ vs) (put_before-same m n m ws refl ∙ ap (λ (vs : List ℕ). n ∷ m ∷ vs) (put_before-lacks m n ws later))
    ∙ sym (append_assoc xs (n ∷ []) (m ∷ ws))

pub Lacks-append : (m : ℕ) (xs ws : List ℕ) → Lacks m xs → Lacks m ws → Lacks m (xs ++ ws)
Lacks-append m [] ws lacks later = later
Lacks-append m (x ∷ xs) ws lacks later = (lacks.0, Lacks-append m xs ws lacks.1 later)

pub fenced-put_before : (at n : ℕ) (xs ys zs : List ℕ) → 4 ≤ at
    → put_before at n (fenced_numbers xs ys zs) ≡ fenced_numbers (put_before at n xs) (put_before at n ys) (put_before at n zs)
fenced-put_before at n xs ys zs high_at =
    put_at at n 1 xs (ys ++ 2 ∷ (zs ++ 3 ∷ [])) (put_before at n ys ++ 2 ∷ (put_before at n zs ++ 3 ∷ [])) (λ e. omega (arith, e, high_at))
    (put_at at n 2 ys (zs ++ 3 ∷ []) (put_before at n zs ++ 3 ∷ []) (λ e. omega (arith, e, high_at))
    (put_at at n 3 zs [] [] (λ e. omega (arith, e, high_at)) refl))

pub fenced-first_end : (n : ℕ) (xs ys zs : List ℕ) → Plain xs → Plain ys → Plain zs
    → put_before 1 n (fenced_numbers xs ys zs) ≡ fenced_numbers (xs ++ n ∷ []) ys zs
fenced-first_end n xs ys zs first second free =
    put_end 1 n xs (ys ++ 2 ∷ (zs ++ 3 ∷ [])) first.no_1
    (Lacks-append 1 ys (2 ∷ (zs ++ 3 ∷ [])) second.no_1 ((λ e. omega (arith, e)), Lacks-append 1 zs (3 ∷ []) free.no_1 ((λ e. omega (arith, e)), tt)))

pub fenced-second_end : (n : ℕ) (xs ys zs : List ℕ) → Plain xs → Plain ys → Plain zs
    → put_before 2 n (fenced_numbers xs ys zs) ≡ fenced_numbers xs (ys ++ n ∷ []) zs
fenced-second_end n xs ys zs first second free =
    put_at 2 n 1 xs (ys ++ 2 ∷ (zs ++ 3 ∷ [])) ((ys ++ n ∷ []) ++ 2 ∷ (zs ++ 3 ∷ [])) (λ e. omega (arith, e))
    (put_end 2 n ys (zs ++ 3 ∷ []) second.no_2 (Lacks-append 2 zs (3 ∷ []) free.no_2 ((λ e. omega (arith, e)), tt)))
    ∙ ap (λ (ws : List ℕ). ws ++ 1 ∷ ((ys ++ n ∷ []) ++ 2 ∷ (zs ++ 3 ∷ []))) (put_before-lacks 2 n xs first.no_2)

pub fenced-free_end : (n : ℕ) (xs ys zs : List ℕ) → Plain xs → Plain ys → Plain zs
    → put_before 3 n (fenced_numbers xs ys zs) ≡ fenced_numbers xs ys (zs ++ n ∷ [])
fenced-free_end n xs ys zs first second free =
    put_at 3 n 1 xs (ys ++ 2 ∷ (zs ++ 3 ∷ [])) (ys ++ 2 ∷ ((zs ++ n ∷ []) ++ 3 ∷ [])) (λ e. omega (arith, e))
    (put_at 3 n 2 ys (zs ++ 3 ∷ []) ((zs ++ n ∷ []) ++ 3 ∷ []) (λ e. omega (arith, e)) (put_end 3 n zs [] free.no_3 tt)
    ∙ ap (λ (ws : List ℕ). ws ++ 2 ∷ ((zs ++ n ∷ []) ++ 3 ∷ [])) (put_before-lacks 3 n ys second.no_3))
    ∙ ap (λ (ws : List ℕ). ws ++ 1 ∷ (ys ++ 2 ∷ ((zs ++ n ∷ []) ++ 3 ∷ []))) (put_before-lacks 3 n xs first.no_3)
