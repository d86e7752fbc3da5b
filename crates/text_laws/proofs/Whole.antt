-- All commands together are placed.
use Rattle.std.proofs.Common.{◌≡◌, ℕ, zero, suc, ◌+◌, ◌-◌, ◌<◌, ◌≤◌, max, Bool, true, false, List, [], ◌∷◌, ◌++◌, Option, Some, None, Result, Ok, Err, cond, length, take, refl, sym, ap, subst, ◌∙◌, arith, leb}
use Rattle.std.proofs.lemmas.Bool.{leb-true, leb-false}
use Rattle.std.specs.Prelude.{bytes_eq, codes, unwrap_or}
use Rattle.sched_model.specs.declared.command.Command.{Command}
use Rattle.sched_model.specs.declared.command.Command.TheVariants as command
use Rattle.sched_model.specs.declared.command.Syntax.{Syntax}
use Rattle.sched_model.specs.declared.command.Which.TheVariants.{Number}
use Rattle.xl_words.specs.Values.{which_of}
use Rattle.xl_words.specs.Options.{at}
use Rattle.xl_words.specs.Grammar.{◌>>=◌, field, nothing_more, pool_list, pool_create, pool_destroy, pool_rename, cpu_add, cpu_remove, migrate, pause, unpause, credit2_domain, credit2_pool, sched_rtds, arinc_set, vcpu_pin, either_form, reading}
use Rattle.text_laws.proofs.Placed.{Facts, IsPlaced, place_of, found, placed_end, placed_field, then_read}
use Rattle.text_laws.proofs.Forms as forms

-- a reader of the words behind a command's name
abbrev Reader : Type 0
Reader = List (List ℕ) → Result Command Syntax

either_right : (r : Result Command Syntax) (c : Command) → (x : Command) × (either_form r (Ok c) ≡ Ok x)
either_right (Ok d) c = (d, refl)
either_right (Err s) c = (c, refl)

module _ (k : ℕ) (f g : Reader) (one : IsPlaced k f) (two : IsPlaced k g) where
  abbrev both : Reader
  both ws = either_form (f ws) (g ws)

  furthest : (ws : List (List ℕ)) (s t : ℕ) → Facts k f ws s → Facts k g ws t → (b : Bool) → leb t s ≡ b → (more : List (List ℕ)) × (x : Command) × (both (take (max s t - k) ws ++ more) ≡ Ok x)
  furthest ws s t F G true e =
      let c = F.completes in
      let le = leb-true t s e in
      let most : max s t ≡ s = omega arith in
      (c.0, c.1, rw most (ap (λ r. either_form r (g (take (s - k) ws ++ c.0))) c.2))
  furthest ws s t F G false e =
      let c = G.completes in
      let le = leb-false t s e in
      let most : max s t ≡ t = omega arith in
      let r = either_right (f (take (t - k) ws ++ c.0)) c.1 in
      (c.0, r.0, rw most (ap (λ r. either_form (f (take (t - k) ws ++ c.0)) r) c.2 ∙ r.1))

  both_facts : (ws : List (List ℕ)) (p : ℕ) (q r : Result Command Syntax) → f ws ≡ q → g ws ≡ r → either_form q r ≡ at p → Facts k both ws p
  both_facts ws p (Ok c) r e d fault = absurd cc
  both_facts ws p (Err s) (Ok c) e d fault = absurd cc
  both_facts ws p (Err s) (Err t) e d fault =
      let F = one ws s.place e in
      let G = two ws t.place d in
      subst (Facts k both ws) (place_of (max s.place t.place) p fault) (record {
        low = omega (arith, F.low);
        high = omega (arith, F.high, G.high);
        settled = λ n more low fits.
            ap (λ r. either_form r (g (take n ws ++ more))) (F.settled n more (omega arith) fits) ∙ ap (λ r. either_form (at s.place) r) (G.settled n more (omega arith) fits);
        completes = furthest ws s.place t.place F G (leb t.place s.place) refl;
      })

  placed_both : IsPlaced k both
  placed_both ws p fault = both_facts ws p (f ws) (g ws) refl refl fault

-- a pool, or no word
abbrev one_pool : Reader
one_pool ws = field which_of 1 ws >>= λ pool. nothing_more 2 pool.1 >>= λ end. Ok (command.PoolList (Some pool.0))

list_completes : (w : List ℕ) (ws : List (List ℕ)) (p q : ℕ) → p - 1 ≡ q → Facts 1 one_pool (w ∷ ws) p → (more : List (List ℕ)) × (x : Command) × (pool_list (take (p - 1) (w ∷ ws) ++ more) ≡ Ok x)
unfolding pool_list
list_completes w ws p zero e facts = ([], command.PoolList None, rw e refl)
list_completes w ws p (suc q) e facts =
    let c = facts.completes in
    let h = rw e at c.2 in
    (c.0, c.1, rw e h)

list_settled : (w : List ℕ) (ws : List (List ℕ)) (p : ℕ) → Facts 1 one_pool (w ∷ ws) p → (n : ℕ) (more : List (List ℕ)) → p < 1 + n → n ≤ length (w ∷ ws) → pool_list (take n (w ∷ ws) ++ more) ≡ at p
unfolding pool_list
list_settled w ws p facts zero more low fits = absurd (omega (arith, facts.low))
list_settled w ws p facts (suc n) more low fits = facts.settled (suc n) more low fits

placed_one_pool : IsPlaced 1 one_pool
placed_one_pool = placed_field 1 which_of (λ pool ws. nothing_more 2 ws >>= λ end. Ok (command.PoolList (Some pool))) (record {
  word = 48 ∷ [];
  value = Number 0;
  reads = refl;
  placed = λ w x e. placed_end 2 (command.PoolList (Some x));
})

placed_list : IsPlaced 1 pool_list
unfolding pool_list
placed_list [] p e = absurd cc
placed_list (w ∷ ws) p e =
    let facts = placed_one_pool (w ∷ ws) p e in
    record {
      low = facts.low;
      high = facts.high;
      settled = λ n more low fits. list_settled w ws p facts n more low fits;
      completes = list_completes w ws p (p - 1) refl facts;
    }

-- the commands by their names
abbrev table : List (List ℕ × Reader)
table =
    (codes "cpupool-list", pool_list) ∷ (codes "cpupool-create", pool_create) ∷ (codes "cpupool-destroy", pool_destroy) ∷ (codes "cpupool-rename", pool_rename)
    ∷ (codes "cpupool-cpu-add", cpu_add) ∷ (codes "cpupool-cpu-remove", cpu_remove) ∷ (codes "cpupool-migrate", migrate)
    ∷ (codes "sched-credit2", λ ws. either_form (credit2_domain ws) (credit2_pool ws)) ∷ (codes "sched-rtds", sched_rtds) ∷ (codes "pause", pause) ∷ (codes "unpause", unpause)
    ∷ (codes "arinc-set", arinc_set) ∷ (codes "vcpu-pin", vcpu_pin) ∷ []

abbrev reader_of : List (List ℕ × Reader) → List ℕ → Option Reader
reader_of [] w = None
reader_of (e ∷ es) w = cond (bytes_eq w e.0) (Some e.1) (reader_of es w)

abbrev read_by : List (List ℕ × Reader) → List ℕ → Reader
read_by [] w ws = at 0
read_by (e ∷ es) w ws = cond (bytes_eq w e.0) (e.1 ws) (read_by es w ws)

abbrev AllPlaced : List (List ℕ × Reader) → Type 0
AllPlaced [] = Unit {0}
AllPlaced (e ∷ es) = IsPlaced 1 e.1 × AllPlaced es

choose : (b : Bool) (f : Reader) (o : Option Reader) (ws : List (List ℕ)) (r : Result Command Syntax) → r ≡ (found 0 ws o >>= λ got. got.0 got.1) → cond b (f ws) r ≡ (found 0 ws (cond b (Some f) o) >>= λ got. got.0 got.1)
choose true f o ws r e = refl
choose false f o ws r e = e

read_by_is : (es : List (List ℕ × Reader)) (w : List ℕ) (ws : List (List ℕ)) → read_by es w ws ≡ (found 0 ws (reader_of es w) >>= λ got. got.0 got.1)
read_by_is [] w ws = refl
read_by_is (e ∷ es) w ws = choose (bytes_eq w e.0) e.1 (reader_of es w) ws (read_by es w ws) (read_by_is es w ws)

placed_choice : (b : Bool) (f h : Reader) (o : Option Reader) → IsPlaced 1 f → (o ≡ Some h → IsPlaced 1 h) → cond b (Some f) o ≡ Some h → IsPlaced 1 h
placed_choice true f h o placed rest e = subst (IsPlaced 1) (ap (λ o. unwrap_or o f) e) placed
placed_choice false f h o placed rest e = rest e

placed_by : (es : List (List ℕ × Reader)) → AllPlaced es → (w : List ℕ) (h : Reader) → reader_of es w ≡ Some h → IsPlaced 1 h
placed_by [] all w h e = absurd cc
placed_by (x ∷ es) all w h e = placed_choice (bytes_eq w x.0) x.1 h (reader_of es w) all.0 (placed_by es all.1 w h) e

all_placed : AllPlaced table
all_placed = (
  placed_list,
  (
    forms.placed_create,
    (
      forms.placed_destroy,
      (
        forms.placed_rename,
        (
          forms.placed_add,
          (
            forms.placed_remove,
            (
              forms.placed_migrate,
              (placed_both 1 credit2_domain credit2_pool forms.placed_credit2_domain forms.placed_credit2_pool, (forms.placed_rtds, (forms.placed_pause, (forms.placed_unpause, (forms.placed_set, (forms.placed_pin, tt)))))),
            ),
          ),
        ),
      ),
    ),
  ),
)

abbrev by_name : Reader
by_name = then_read 0 (reader_of table) (λ f ws. f ws)

same : (ws : List (List ℕ)) → reading ws ≡ by_name ws
unfolding reading
same [] = refl
same (w ∷ ws) = read_by_is table w ws

placed_by_name : IsPlaced 0 by_name
placed_by_name = placed_field 0 (reader_of table) (λ f ws. f ws) (record { word = codes "pause"; value = pause; reads = refl; placed = λ w h e. placed_by table all_placed w h e })

-- the commands are placed
pub placed_reading : IsPlaced 0 reading
placed_reading ws p e =
    let facts = placed_by_name ws p (sym (same ws) ∙ e) in
    let c = facts.completes in
    record {
      low = facts.low;
      high = facts.high;
      settled = λ n more low fits. same (take n ws ++ more) ∙ facts.settled n more low fits;
      completes = (c.0, c.1, same (take (p - 0) ws ++ c.0) ∙ c.2);
    }
