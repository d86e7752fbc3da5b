-- What a charge, a reset, a choice and a refill do to the record of one domain.
use Rattle.std.proofs.Common.{◌≡◌, ◌<◌, ◌≤◌, ◌-◌, ℕ, zero, suc, Bool, false, List, [], ◌∷◌, refl, arith, ap, subst, sym, ◌∙◌, cond, inl, inr}
use Rattle.std.specs.Prelude.{Option, Some, None, slice_get, map, ◌==◌, ℤ, pos, ◌+ℤ◌, ◌-ℤ◌}
use Rattle.std.proofs.lemmas.Int.{ints}
use Rattle.sched_base.specs.Credit2Numbers.{burned_credit, burned_residual}
use Rattle.sched_model.specs.declared.state.Credit2Unit.{Credit2Unit}
use Rattle.sched_model.specs.declared.state.Credit2Domain.{Credit2Domain}
use Rattle.sched_model.specs.Places.{change_item}
use Rattle.sched_model.specs.Credit2.{burned_unit, burned_domain}
use Rattle.sched_laws.proofs.Sound.{read_change_item}
use Rattle.term_laws.proofs.CapTracks.{Stops}

-- an element that is changed, and one that is not
pub item_at : {X : Type 0} (i : ℕ) (f : X → X) (xs : List X) (x : X) → slice_get xs i ≡ Some x → slice_get (change_item i f xs) i ≡ Some (f x)
item_at i f [] x at = absurd (cc)
item_at zero f (y ∷ xs) x at = (let e : y ≡ x = cc in ap (λ (z : _). Some (f z)) e)
item_at (suc i) f (y ∷ xs) x at = item_at i f xs x at

pub get_of_map : {X : Type 0} (f : X → X) (xs : List X) (n : ℕ) (x : X) → slice_get xs n ≡ Some x → slice_get (map f xs) n ≡ Some (f x)
get_of_map f [] n x at = absurd (cc)
get_of_map f (y ∷ xs) zero x at = (let e : y ≡ x = cc in ap (λ (z : _). Some (f z)) e)
get_of_map f (y ∷ xs) (suc n) x at = get_of_map f xs n x at

-- no unit was charged after t
abbrev pub ArePast : ℕ → List Credit2Unit → Type 0
ArePast t units = (n b : ℕ) (z : Credit2Unit) → slice_get units n ≡ Some z → z.burned ≡ Some b → b ≤ t

pub past_item : (t i : ℕ) (f : Credit2Unit → Credit2Unit) (units : List Credit2Unit) → ((y : Credit2Unit) (b : ℕ) → slice_get units i ≡ Some y → (f y).burned ≡ Some b → b ≤ t) → ArePast t units → ArePast t (change_item i f units)
past_item t i f units here past n b z at is = elim (read_change_item i n f units z at) [
  | inl was ↦ past n b z was.1 is
  | inr r ↦ here r.0 b r.1 (ap (λ (w : Credit2Unit). w.burned) r.3 ∙ is)
]

-- a running unit charged up to t
abbrev pub burned_from : ℕ → ℕ → ℕ → Credit2Domain → Credit2Unit → Credit2Unit
burned_from most t from d u = record u {
  credit = burned_credit u.credit u.residual d.weight most (t - from);
  residual = burned_residual u.residual d.weight most (t - from);
  held = cond (d.cap == 0) u.held (u.held -ℤ pos (t - from));
  burned = Some t;
}

pub burn_some : (most t b : ℕ) (d : Credit2Domain) (u : Credit2Unit) → u.burned ≡ Some b → burned_unit most t d u ≡ burned_from most t b d u
burn_some most t b d u is = ap (λ (o : Option ℕ). elim o as (λ _. Credit2Unit) [ None ↦ u | Some from ↦ burned_from most t from d u ]) is

pub burn_none : (most t : ℕ) (d : Credit2Domain) (u : Credit2Unit) → u.burned ≡ None → burned_unit most t d u ≡ u
burn_none most t d u is = ap (λ (o : Option ℕ). elim o as (λ _. Credit2Unit) [ None ↦ u | Some from ↦ burned_from most t from d u ]) is

-- a unit that is charged up to t was charged last at t
pub burned_now : (most t b : ℕ) (d : Credit2Domain) (u : Credit2Unit) → (burned_unit most t d u).burned ≡ Some b → b ≡ t
burned_now most t b d u is = go u.burned refl
  where
    go : (o : Option ℕ) → u.burned ≡ o → b ≡ t
    go None none = absurd (let e : None ≡ Some b = sym none ∙ sym (ap (λ (z : Credit2Unit). z.burned) (burn_none most t d u none)) ∙ is in cc)
    go (Some from) some = (let e : Some t ≡ Some b = sym (ap (λ (z : Credit2Unit). z.burned) (burn_some most t from d u some)) ∙ is in cc)

pub is_capped : (n : ℕ) → 0 < n → (n == 0) ≡ false
is_capped n some = grind (arith, some)

-- what the unit holds then
pub held_after : (most t b : ℕ) (d : Credit2Domain) (u : Credit2Unit) → 0 < d.cap → u.burned ≡ Some b → (burned_unit most t d u).held ≡ u.held -ℤ pos (t - b)
held_after most t b d u some is = ap (λ (z : Credit2Unit). z.held) (burn_some most t b d u is) ∙ ap (λ (c : Bool). cond c u.held (u.held -ℤ pos (t - b))) (is_capped d.cap some)

-- a unit that runs goes on, and where the domain is capped its end stays
pub record Kept (x y : Credit2Domain) (n : ℕ) : Type 0 where
  pub goes : (stop : ℤ) → Stops x n stop → (stop2 : ℤ) × Stops y n stop2 × (0 < x.cap → stop2 ≡ stop)

pub kept_same : (x y : Credit2Domain) (n : ℕ) → slice_get y.units n ≡ slice_get x.units n → Kept x y n
kept_same x y n same = record { goes = λ stop s. (stop, record { unit = s.unit; at = same ∙ s.at; from = s.from; burned = s.burned; sum = s.sum }, λ some. refl) }

pub kept_trans : (x y z : Credit2Domain) (n : ℕ) → y.cap ≡ x.cap → Kept x y n → Kept y z n → Kept x z n
kept_trans x y z n same a b = record {
  goes = λ stop s. (
      let p = a.goes stop s in
      let q = b.goes p.0 p.1 in
      (q.0, q.1, λ some. q.2 (subst (λ k. 0 < k) (sym same) some) ∙ p.2 some));
}

-- each unit of which only the credit or the residual changes
pub kept_map : (f : Credit2Unit → Credit2Unit) (x : Credit2Domain) (n : ℕ) → ((y : Credit2Unit) → ((f y).held ≡ y.held) × ((f y).burned ≡ y.burned)) → Kept x (record x { units = map f x.units }) n
kept_map f x n same = record {
  goes = λ stop s. (
    stop,
    record {
      unit = f s.unit;
      at = get_of_map f x.units n s.unit s.at;
      from = s.from;
      burned = (same s.unit).1 ∙ s.burned;
      sum = ap (λ (h : ℤ). pos s.from +ℤ h) (same s.unit).0 ∙ s.sum;
    },
    λ some. refl,
  );
}

charged_sum : (b t : ℕ) (held stop : ℤ) → b ≤ t → pos b +ℤ held ≡ stop → pos t +ℤ (held -ℤ pos (t - b)) ≡ stop
charged_sum b t held stop past sum = omega (arith, ints, past, sum)

-- all running units charged
pub kept_burned : (most t : ℕ) (x : Credit2Domain) (n : ℕ) → ArePast t x.units → Kept x (burned_domain most t x) n
kept_burned most t x n past = record {
  goes = λ stop s. (
    pos t +ℤ (burned_unit most t x s.unit).held,
    record {
      unit = burned_unit most t x s.unit;
      at = get_of_map (burned_unit most t x) x.units n s.unit s.at;
      from = t;
      burned = ap (λ (z : Credit2Unit). z.burned) (burn_some most t s.from x s.unit s.burned);
      sum = refl;
    },
    λ some. ap (λ (h : ℤ). pos t +ℤ h) (held_after most t s.from x s.unit some s.burned) ∙ charged_sum s.from t s.unit.held stop (past n s.from s.unit s.at s.burned) s.sum,
  );
}
