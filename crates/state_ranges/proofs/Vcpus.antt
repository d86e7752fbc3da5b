-- What a vCPU of a guest keeps: its place in its script, its moments and its work.
use Rattle.std.proofs.lemmas.Option.{slice_get_within}
use Rattle.std.proofs.Common.{◌≡◌, ◌<◌, ◌≤◌, ◌+◌, ◌-◌, ◌*◌, ◌%◌, ℕ, zero, suc, true, List, [], ◌∷◌, refl, arith, subst, sym, ◌∙◌, ap, ◌⊎◌, inl, inr, length}
use Rattle.std.specs.Prelude.{Option, Some, None, option_map, slice_get, slice_index_or}
use Rattle.std.specs.List.{AllByRecursion}
use Rattle.std.proofs.lemmas.List.Elements.{recursion_from_All}
use Rattle.std.proofs.lemmas.Nat.{mod-mul-add}
use Rattle.std.proofs.Math.Decide.{ℕ_discrete}
use Rattle.sched_base.specs.Numbers.{moment, span, has_moment_come}
use Rattle.sched_base.specs.declared.Moment.{Moment}
use Rattle.sched_base.specs.declared.Span.{Span}
use Rattle.sched_base.proofs.Lists.{each_get}
use Rattle.sched_model.specs.declared.state.Vcpu.{Vcpu}
use Rattle.sched_model.specs.Opening.{vcpu_at_opening}
use Rattle.sched_model.specs.Pool.{woken_vcpu, put_to_sleep, stopped_vcpu, done_moment}
use Rattle.sched_model.specs.CheckedMachine.{IsWithin, most_span, IsCheckedScript}
use Rattle.sched_laws.proofs.EachPlace.{by_option}

-- a vCPU that sleeps is at an odd place of its script and is not started; one that is awake is at an even one; one without a script never sleeps
pub record VcpuFits (t : ℕ) (script : List Span) (x : Vcpu) : Type 0 where
  pub follows : x.script ≡ script
  pub awake : x.asleep_until ≡ None → ((length script ≡ 0) × (x.place ≡ 0)) ⊎ ((x.place % 2 ≡ 0) × (x.place < length script))
  pub odd : (a : Moment) → x.asleep_until ≡ Some a → (x.place % 2 ≡ 1) × (x.place < length script)
  pub until : (a : Moment) → x.asleep_until ≡ Some a → a.0 ≤ t + most_span
  pub still : (a : Moment) → x.asleep_until ≡ Some a → x.started ≡ None
  pub work : (w : Span) → x.work_left ≡ Some w → w.0 ≤ most_span
  pub worth : (w : Span) → x.work_left ≡ Some w → 0 < length script
  pub started : (a : Moment) → x.started ≡ Some a → a.0 ≤ t

script_span : (script : List Span) → IsCheckedScript script → (n : ℕ) (w : Span) → slice_get script n ≡ Some w → w.0 ≤ most_span
script_span script checked n w at = (each_get (λ (s : Span). IsWithin 1 most_span s.0) script n w (recursion_from_All (λ (s : Span). IsWithin 1 most_span s.0) script checked.spans) at).most

span_or : (script : List Span) → IsCheckedScript script → (n : ℕ) → (slice_index_or script n (span 0)).0 ≤ most_span
span_or script checked n = of_spans script n (recursion_from_All (λ (s : Span). IsWithin 1 most_span s.0) script checked.spans)
  where
    of_spans : (xs : List Span) (n : ℕ) → AllByRecursion (λ (s : Span). IsWithin 1 most_span s.0) xs → (slice_index_or xs n (span 0)).0 ≤ most_span
    of_spans [] n each = grind arith
    of_spans (x ∷ xs) zero each = each.0.most
    of_spans (x ∷ xs) (suc n) each = of_spans xs n each.1

pub vcpu_fresh : (script : List Span) → IsCheckedScript script → VcpuFits 0 script (vcpu_at_opening script)
vcpu_fresh script checked = record {
  follows = refl;
  awake = λ is. by_script script;
  odd = λ a is. absurd (cc);
  until = λ a is. absurd (cc);
  still = λ a is. absurd (cc);
  work = λ w is. script_span script checked 0 w is;
  worth = λ w is. slice_get_within script 0 w is;
  started = λ a is. absurd (cc);
}
  where
    by_script : (xs : List Span) → ((length xs ≡ 0) × (◌≡◌ {A = ℕ} 0 0)) ⊎ ((◌≡◌ {A = ℕ} (0 % 2) 0) × (0 < length xs))
    by_script [] = inl (refl, refl)
    by_script (x ∷ xs) = inr (refl, omega arith)

-- the next place of a script of an even length, from an odd one
next_even : (p n : ℕ) → p % 2 ≡ 1 → p < n → n % 2 ≡ 0 → ((p + 1) % n % 2 ≡ 0) × ((p + 1) % n < n)
next_even p n odd inside even =
    elim (ℕ_discrete (p + 1) n) [
      | yes e ↦ (let z : (p + 1) % n ≡ 0 = subst (λ k. k % n ≡ 0) (sym e) (mod_self_zero n inside) in (rw z refl, rw z (omega (arith, inside))))
      | no other ↦ (let low : p + 1 < n = omega (arith, inside, other) in let z : (p + 1) % n ≡ p + 1 = mod_below (p + 1) n low in (rw z (omega (arith, odd)), rw z low))
    ]
  where
    mod_self_zero : (n : ℕ) → p < n → n % n ≡ 0
    mod_self_zero n some = (let e : 1 * n + 0 ≡ n = omega arith in subst (λ k. k % n ≡ 0) e (mod-mul-add 1 n 0 (omega (arith, some))))

    mod_below : (a n : ℕ) → a < n → a % n ≡ a
    mod_below a n low = (let e : 0 * n + a ≡ a = omega arith in subst (λ k. k % n ≡ a) e (mod-mul-add 0 n a low))

pub vcpu_woken : (t : ℕ) (script : List Span) (x : Vcpu) → IsCheckedScript script → has_moment_come t x.asleep_until ≡ true → VcpuFits t script x → VcpuFits t script (woken_vcpu x)
vcpu_woken t script x checked come fits = by_sleep x.asleep_until refl
  where
    by_sleep : (o : Option Moment) → x.asleep_until ≡ o → VcpuFits t script (woken_vcpu x)
    by_sleep None is = absurd (let e : has_moment_come t None ≡ true = subst (λ (o : Option Moment). has_moment_come t o ≡ true) is come in cc)
    by_sleep (Some a) is =
        let odd = fits.odd a is in
        let same : length x.script ≡ length script = ap length fits.follows in
        let next = next_even x.place (length script) odd.0 odd.1 checked.even in
        let still : x.started ≡ None = fits.still a is in
        record {
          follows = fits.follows;
          awake = λ e. inr (subst (λ k. ((x.place + 1) % k % 2 ≡ 0) × ((x.place + 1) % k < length script)) (sym same) next);
          odd = λ b e. absurd (cc);
          until = λ b e. absurd (cc);
          still = λ b e. absurd (cc);
          work = λ w e. script_span script checked ((x.place + 1) % length x.script) w (subst (λ (s : List Span). slice_get s ((x.place + 1) % length x.script) ≡ Some w) fits.follows e);
          worth = λ w e. (let o = odd.1 in omega (arith, o));
          started = λ b e. absurd (let f : None ≡ Some b = sym still ∙ e in cc);
        }

-- a vCPU whose work is done is awake, has a script, and sleeps for the next span
done_is : (x : Vcpu) (t : ℕ) → has_moment_come t (done_moment x) ≡ true → (from : Moment) × (work : Span) × (x.started ≡ Some from) × (x.work_left ≡ Some work)
done_is x t come = by_started x.started refl x.work_left refl come
  where
    by_started : (s : Option Moment) → x.started ≡ s → (w : Option Span) → x.work_left ≡ w → has_moment_come t (elim s as (λ _. Option Moment) [ None ↦ None | Some from ↦ elim w as (λ _. Option Moment) [ None ↦ None | Some work ↦ Some (moment (from.0 + work.0)) ] ]) ≡ true
        → (from : Moment) × (work : Span) × (x.started ≡ Some from) × (x.work_left ≡ Some work)
    by_started None is w is2 e = absurd (cc)
    by_started (Some from) is None is2 e = absurd (cc)
    by_started (Some from) is (Some work) is2 e = (from, work, is, is2)

pub vcpu_slept : (t : ℕ) (script : List Span) (x : Vcpu) → IsCheckedScript script → has_moment_come t (done_moment x) ≡ true → VcpuFits t script x → VcpuFits t script (put_to_sleep t x)
vcpu_slept t script x checked come fits =
    let done = done_is x t come in
    let awake : x.asleep_until ≡ None = is_none_if x.asleep_until (λ a is. (let e : None ≡ Some done.0 = sym (fits.still a is) ∙ done.2 in absurd (cc))) in
    let some = fits.worth done.1 done.3 in
    let place : (x.place % 2 ≡ 0) × (x.place < length script) = elim (fits.awake awake) [ inl none ↦ (let z = none.0 in absurd (omega (arith, z, some))) | inr even ↦ even ] in
    let even = checked.even in
    record {
      follows = fits.follows;
      awake = λ e. absurd (cc);
      odd = λ a e. (let p = place.0 in let q = place.1 in (omega (arith, p), omega (arith, p, q, even)));
      until = λ a e. (
          let s : (slice_index_or x.script (x.place + 1) (span 0)).0 ≤ most_span = subst (λ (xs : List Span). (slice_index_or xs (x.place + 1) (span 0)).0 ≤ most_span) (sym fits.follows) (span_or script checked (x.place + 1)) in
          let f : ◌≡◌ {A = Moment} (moment (t + (slice_index_or x.script (x.place + 1) (span 0)).0)) a = cc in
          subst (λ (b : Moment). b.0 ≤ t + most_span) f (omega (arith, s)));
      still = λ a e. refl;
      work = λ w e. (let f : ◌≡◌ {A = Span} (span 0) w = cc in subst (λ (b : Span). b.0 ≤ most_span) f (omega arith));
      worth = λ w e. some;
      started = λ a e. absurd (cc);
    }
  where
    is_none_if : (o : Option Moment) → ((a : Moment) → o ≡ Some a → ⊥) → o ≡ None
    is_none_if None none = refl
    is_none_if (Some a) none = absurd (none a refl)

pub vcpu_stopped : (t : ℕ) (script : List Span) (x : Vcpu) → VcpuFits t script x → VcpuFits t script (stopped_vcpu t x)
vcpu_stopped t script x fits =
    by_option (VcpuFits t script) x.started _ _ (λ is. fits)
    (λ from is. record {
      follows = fits.follows;
      awake = fits.awake;
      odd = fits.odd;
      until = fits.until;
      still = λ a e. refl;
      work = λ w e. (let r = less_work x.work_left (t - from.0) w e in let l = fits.work r.0 r.1 in let k = r.2 in omega (arith, l, k));
      worth = λ w e. (let r = less_work x.work_left (t - from.0) w e in fits.worth r.0 r.1);
      started = λ a e. absurd (cc);
    })
  where
    less_work : (o : Option Span) (done : ℕ) (w : Span) → option_map (λ (work : Span). span (work.0 - done)) o ≡ Some w → (v : Span) × (o ≡ Some v) × (w.0 ≤ v.0)
    less_work None done w e = absurd (cc)
    less_work (Some v) done w e = (let f : ◌≡◌ {A = Span} (span (v.0 - done)) w = cc in (v, refl, subst (λ (x : Span). x.0 ≤ v.0) f (omega arith)))

pub vcpu_started : (t : ℕ) (script : List Span) (x : Vcpu) → x.asleep_until ≡ None → VcpuFits t script x → VcpuFits t script (record x { started = Some (moment t) })
vcpu_started t script x awake fits = record {
  follows = fits.follows;
  awake = fits.awake;
  odd = fits.odd;
  until = fits.until;
  still = λ a e. absurd (let f : None ≡ Some a = sym awake ∙ e in cc);
  work = fits.work;
  worth = fits.worth;
  started = λ a e. (let f : ◌≡◌ {A = Moment} (moment t) a = cc in subst (λ (b : Moment). b.0 ≤ t) f (omega arith));
}

pub vcpu_later : (t next : ℕ) (script : List Span) (x : Vcpu) → t ≤ next → VcpuFits t script x → VcpuFits next script x
vcpu_later t next script x past fits = record {
  follows = fits.follows;
  awake = fits.awake;
  odd = fits.odd;
  until = λ a e. (let l = fits.until a e in omega (arith, l, past));
  still = fits.still;
  work = fits.work;
  worth = fits.worth;
  started = λ a e. (let l = fits.started a e in omega (arith, l, past));
}
