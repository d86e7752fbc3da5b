-- The weights, caps and credits of a Credit2 pool, which a decision without a reset leaves as they are, and the greatest of some units.
use Rattle.std.proofs.Common.{◌≡◌, ◌≤◌, ◌+◌, ℕ, zero, suc, true, List, [], ◌∷◌, refl, ap, sym, ◌∙◌}
use Rattle.std.specs.Prelude.{Option, Some, None, ℤ, pos, int_lt, map, fold, max, option_map, slice_get}
use Rattle.sched_base.specs.declared.UnitId.{UnitId}
use Rattle.sched_model.specs.declared.state.Credit2Records.{Credit2Records}
use Rattle.sched_model.specs.declared.state.Credit2Domain.{Credit2Domain}
use Rattle.sched_model.specs.declared.state.Credit2Unit.{Credit2Unit}
use Rattle.sched_model.specs.declared.state.Records.TheVariants.{Credit2Pool}
use Rattle.sched_model.specs.Places.{at_place, change_at, change_item, numbered_items}
use Rattle.sched_model.specs.Credit2.{unit_credit}
use Rattle.sched_laws.specs.Counts.{total}
use Rattle.moment_laws.specs.Turns.{how_many, ahead}
use Rattle.sched_base.specs.Numbers.{one_if}
use Rattle.moment_laws.proofs.Sums.{count_no_more, count_less, total_no_more, total_less}
use Rattle.moment_laws.proofs.Credit2Numbers.{lt_irrefl, lt_trans}
use Rattle.moment_laws.specs.Stretches.{units}
use Rattle.moment_laws.specs.Credit2Turns.{Face, credits, face, Faces, faces, unit_total}

abbrev pub credit_in : List ℤ → ℕ → ℤ
credit_in cs n = elim (slice_get cs n) as (λ _. ℤ) [ None ↦ pos 0 | Some c ↦ c ]

abbrev pub credit_at : Faces → UnitId → ℤ
credit_at fs u = elim (at_place fs u.dom.0) as (λ _. ℤ) [ None ↦ pos 0 | Some f ↦ credit_in f.2 u.n ]

credit_get : (units : List Credit2Unit) (n : ℕ) → elim (slice_get units n) as (λ _. ℤ) [ None ↦ pos 0 | Some x ↦ x.credit ] ≡ credit_in (credits units) n
credit_get [] n = refl
credit_get (x ∷ units) zero = refl
credit_get (x ∷ units) (suc n) = credit_get units n

at_faces : (domains : List (Option Credit2Domain)) (d : ℕ) → at_place (faces domains) d ≡ option_map face (at_place domains d)
at_faces [] zero = refl
at_faces [] (suc d) = refl
at_faces (x ∷ domains) zero = refl
at_faces (x ∷ domains) (suc d) = at_faces domains d

pub credit_is : (records : Credit2Records) (u : UnitId) → unit_credit records u ≡ credit_at (faces records.domains) u
credit_is records u = by_domain (at_place records.domains u.dom.0) ∙ ap (λ (o : Option Face). elim o as (λ _. ℤ) [ None ↦ pos 0 | Some f ↦ credit_in f.2 u.n ]) (sym (at_faces records.domains u.dom.0))
  where
    by_domain : (o : Option Credit2Domain) → elim o as (λ _. ℤ) [ None ↦ pos 0 | Some d ↦ elim (slice_get d.units u.n) as (λ _. ℤ) [ None ↦ pos 0 | Some x ↦ x.credit ] ] ≡ elim (option_map face o) as (λ _. ℤ) [ None ↦ pos 0 | Some f ↦ credit_in f.2 u.n ]
    by_domain None = refl
    by_domain (Some d) = credit_get d.units u.n

-- how many credits are above one
abbrev pub above : ℤ → Faces → ℕ
above z fs = total (λ (f : Face). how_many (λ c. int_lt z c) f.2) fs

above_credits : (z : ℤ) (units : List Credit2Unit) → how_many (λ (x : Credit2Unit). int_lt z x.credit) units ≡ how_many (λ c. int_lt z c) (credits units)
above_credits z [] = refl
above_credits z (x ∷ units) = ap (λ n. one_if (int_lt z x.credit) + n) (above_credits z units)

above_faces : (z : ℤ) (domains : List (Option Credit2Domain)) → total (λ (d : Credit2Domain). how_many (λ (x : Credit2Unit). int_lt z x.credit) d.units) domains ≡ above z (faces domains)
above_faces z [] = refl
above_faces z (None ∷ domains) = above_faces z domains
above_faces z (Some d ∷ domains) = ap (λ n. n + total (λ (d : Credit2Domain). how_many (λ (x : Credit2Unit). int_lt z x.credit) d.units) domains) (above_credits z d.units) ∙ ap (λ n. how_many (λ c. int_lt z c) (credits d.units) + n) (above_faces z domains)

pub ahead_is : (records : Credit2Records) (u : UnitId) → ahead (Credit2Pool records) u ≡ above (credit_at (faces records.domains) u) (faces records.domains)
ahead_is records u = above_faces (unit_credit records u) records.domains ∙ ap (λ z. above z (faces records.domains)) (credit_is records u)

-- a change that keeps a face
pub credits_change : (n : ℕ) (f : Credit2Unit → Credit2Unit) (units : List Credit2Unit) → ((x : Credit2Unit) → (f x).credit ≡ x.credit) → credits (change_item n f units) ≡ credits units
credits_change n f [] same = refl
credits_change zero f (x ∷ units) same = ap (λ c. c ∷ credits units) (same x)
credits_change (suc n) f (x ∷ units) same = ap (λ cs. x.credit ∷ cs) (credits_change n f units same)

pub faces_change : (d : ℕ) (f : Credit2Domain → Credit2Domain) (domains : List (Option Credit2Domain)) → ((x : Credit2Domain) → face (f x) ≡ face x) → faces (change_at d f domains) ≡ faces domains
faces_change d f [] same = refl
faces_change zero f (None ∷ domains) same = refl
faces_change zero f (Some x ∷ domains) same = ap (λ g. Some g ∷ faces domains) (same x)
faces_change (suc d) f (o ∷ domains) same = ap (λ gs. option_map face o ∷ gs) (faces_change d f domains same)

pub face_units : (d : Credit2Domain) (units : List Credit2Unit) → credits units ≡ credits d.units → face (record d { units = units }) ≡ face d
face_units d units same = ap (λ cs. (d.weight, d.cap, cs)) same

-- the greatest weight
weights_are : (n : ℕ) (domains : List (Option Credit2Domain)) → map (λ (e : ℕ × Credit2Domain). e.1.weight) (numbered_items n domains) ≡ map (λ (e : ℕ × Face). e.1.0) (numbered_items n (faces domains))
weights_are n [] = refl
weights_are n (None ∷ domains) = weights_are (suc n) domains
weights_are n (Some d ∷ domains) = ap (λ ws. d.weight ∷ ws) (weights_are (suc n) domains)

pub same_most : (a b : List (Option Credit2Domain)) → faces a ≡ faces b → fold max 0 (map (λ (e : ℕ × Credit2Domain). e.1.weight) (numbered_items 0 a)) ≡ fold max 0 (map (λ (e : ℕ × Credit2Domain). e.1.weight) (numbered_items 0 b))
same_most a b same = ap (fold max 0) (weights_are 0 a ∙ ap (λ fs. map (λ (e : ℕ × Face). e.1.0) (numbered_items 0 fs)) same ∙ sym (weights_are 0 b))

-- fewer credits are above a greater one
pub fewer_above : (fs : Faces) (z : ℤ) (w : UnitId) (f : Face) (c : ℤ) → at_place fs w.dom.0 ≡ Some f → slice_get f.2 w.n ≡ Some c → int_lt z c ≡ true → above c fs + 1 ≤ above z fs
fewer_above fs z w f c at get greater =
    let to : (x : ℤ) → int_lt c x ≡ true → int_lt z x ≡ true = λ x y. lt_trans z c x greater y in
    total_less (λ (g : Face). how_many (λ x. int_lt c x) g.2) (λ (g : Face). how_many (λ x. int_lt z x) g.2) (λ g. count_no_more (λ x. int_lt c x) (λ x. int_lt z x) to g.2) fs w.dom.0 f at
    (count_less (λ x. int_lt c x) (λ x. int_lt z x) to f.2 w.n c get greater (lt_irrefl c))

pub some_behind : (fs : Faces) (w : UnitId) (f : Face) (c : ℤ) → at_place fs w.dom.0 ≡ Some f → slice_get f.2 w.n ≡ Some c → above c fs + 1 ≤ unit_total fs
some_behind fs w f c at get =
    total_less (λ (g : Face). how_many (λ x. int_lt c x) g.2) (λ (g : Face). how_many (λ x. true) g.2) (λ g. count_no_more (λ x. int_lt c x) (λ x. true) (λ x y. refl) g.2) fs w.dom.0 f at
    (count_less (λ x. int_lt c x) (λ x. true) (λ x y. refl) f.2 w.n c get refl (lt_irrefl c))

pub above_most : (z : ℤ) (fs : Faces) → above z fs ≤ unit_total fs
above_most z fs = total_no_more (λ (g : Face). how_many (λ x. int_lt z x) g.2) (λ (g : Face). how_many (λ x. true) g.2) (λ g. count_no_more (λ x. int_lt z x) (λ x. true) (λ x y. refl) g.2) fs

get_credits : (units : List Credit2Unit) (n : ℕ) (x : Credit2Unit) → slice_get units n ≡ Some x → slice_get (credits units) n ≡ Some x.credit
get_credits [] n x at = absurd (cc)
get_credits (y ∷ units) zero x at = (let e : y ≡ x = cc in ap (λ (z : Credit2Unit). Some z.credit) e)
get_credits (y ∷ units) (suc n) x at = get_credits units n x at

-- the credit of a unit that has a record, among the faces
pub face_of_unit : (domains : List (Option Credit2Domain)) (u : UnitId) (d : Credit2Domain) (x : Credit2Unit) → at_place domains u.dom.0 ≡ Some d → slice_get d.units u.n ≡ Some x
    → (at_place (faces domains) u.dom.0 ≡ Some (face d)) × (slice_get (face d).2 u.n ≡ Some x.credit) × (credit_at (faces domains) u ≡ x.credit)
face_of_unit domains u d x at get =
    let a : at_place (faces domains) u.dom.0 ≡ Some (face d) = at_faces domains u.dom.0 ∙ ap (option_map face) at in
    let b = get_credits d.units u.n x get in
    (a, b, ap (λ (o : Option Face). elim o as (λ _. ℤ) [ None ↦ pos 0 | Some f ↦ credit_in f.2 u.n ]) a ∙ ap (λ (o : Option ℤ). elim o as (λ _. ℤ) [ None ↦ pos 0 | Some c ↦ c ]) b)
