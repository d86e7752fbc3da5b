-- What is known of the domains where their checks passed.
use Rattle.std.proofs.Common.{◌≡◌, ℕ, zero, suc, ◌+◌, ◌-◌, ◌*◌, ◌%◌, ◌^◌, ◌<◌, min, pos, Bool, true, false, cond, eqb, codes, List, [], ◌∷◌, ◌++◌, length, Option, Some, None, Result, Ok, Err, refl, sym, subst, inl, inr, arith}
use Rattle.std.specs.Prelude.{◌⊎◌, slice_get}
use Rattle.std.specs.List.{AllByRecursion}
use Rattle.std.specs.Str.{bytes_eq}
use Rattle.std.proofs.lemmas.Bool.{eqb-true, false≢true}
use Rattle.std.proofs.lemmas.List.Elements.{All-from_recursion}
use Rattle.sched_base.specs.Numbers.{span, pool as pool_number, core_set}
use Rattle.sched_base.specs.Names.{is_valid_name}
use Rattle.sched_base.specs.declared.Cores.{Cores}
use Rattle.sched_base.specs.declared.Span.{Span}
use Rattle.sched_model.specs.declared.config.SchedKind.{SchedKind}
use Rattle.sched_model.specs.declared.config.SchedKind.TheVariants as kinds
use Rattle.sched_model.specs.declared.config.DomConfig.{DomConfig}
use Rattle.sched_model.specs.declared.config.DomParams.{DomParams}
use Rattle.sched_model.specs.declared.config.DomParams.TheVariants as dom_params
use Rattle.sched_model.specs.CheckedMachine.{IsWithin, IsCheckedScript, DomParamsPass, most_span}
use Rattle.toml.specs.Data.{Data, Members, get_member}
use Rattle.dom_file.specs.declared.draft.PoolDraft.{PoolDraft}
use Rattle.dom_file.specs.declared.domain.HomePool.{HomePool}
use Rattle.dom_file.specs.declared.fault.TableName.TheVariants.{Domain}
use Rattle.dom_file.specs.declared.fault.DomCause.{DomCause}
use Rattle.dom_file.specs.declared.fault.DomCause.TheVariants.{Range, Twice, NoSuch, Empty}
use Rattle.dom_file.specs.declared.fault.DomFault.{DomFault}
use Rattle.dom_file.specs.declared.head.Head.{Head}
use Rattle.dom_file.specs.Steps.{◌>>=◌, at, each}
use Rattle.dom_file.specs.Values.{required_value, number_of, number_or_default, array_of, name_of}
use Rattle.dom_file.specs.Keys.{key_check}
use Rattle.dom_file.specs.Cores.{cores_of}
use Rattle.dom_file.specs.Guests.{span_of, script_of, scripts_of}
use Rattle.dom_file.specs.Pins.{guest_unit_count, pin_of, pins_in}
use Rattle.dom_file.specs.Domains.{has_domain_named, domain_name_in, home_place_in, home_with_cores, home_in, known_domain_keys, period_in, budget_in, extra_in, params_in, domain_in, domains_in}
use Rattle.dom_file.proofs.Passed.{bind_ok, at_ok, kept_not, ok_is, absent_or_ok, number_ok, number_or_ok, name_ok, array_ok, each_ok, length-Pairs, all-Pairs, length-push, none_passes, Apart, apart-push, other_name}
use Rattle.sched_base.proofs.Lists.{AllByRecursion-push}
use Rattle.dom_file.proofs.CheckedPools.{IsCheckedHead, cores_in_all, cores_ok}

kept_check : {A E : Type 0} (b : Bool) (r : Result A E) (e : E) (y : A) → cond b r (Err e) ≡ Ok y → (b ≡ true) × (r ≡ Ok y)
kept_check true r e y h = (refl, h)
kept_check false r e y h = absurd cc

either_ok : {A E : Type 0} (P : A → Type 0) (b : Bool) (x y : A) (r : Result A E) → P x → (r ≡ Ok y → P y) → cond b (Ok x) r ≡ Ok y → P y
either_ok {A} {E} P true x y r first second h = subst P (ok_is E x y h) first
either_ok P false x y r first second h = second h

-- ---- scripts

span_ok : (d : Data) (s : Span) → span_of d ≡ Ok s → IsWithin 1 most_span s.0
span_ok d s e =
    let a = bind_ok (number_of 1 most_span d) (λ n. Ok (span n)) s e in
    subst (λ (s : Span). IsWithin 1 most_span s.0) (ok_is DomCause (span a.0) s a.2) (number_ok 1 most_span d a.0 a.1)

script_ok : (d : Data) (script : List Span) → script_of d ≡ Ok script → IsCheckedScript script
script_ok d script e =
    let a = bind_ok (array_of 0 64 d) (λ ds. cond (eqb (length ds % 2) 0) (each span_of ds) (Err (Range (pos (length ds))))) script e in
    let k = kept_check (eqb (length a.0 % 2) 0) (each span_of a.0) (Range (pos (length a.0))) script a.2 in
    let R : Data → Span → Type 0 = λ d s. IsWithin 1 most_span s.0 in
    let pairs = each_ok span_of R span_ok a.0 script k.1 in
    let same = length-Pairs R a.0 script pairs in
    record {
      few = omega (arith, same, (array_ok 0 64 d a.0 a.1).most);
      even = rw same (eqb-true (length a.0 % 2) 0 k.0);
      spans = All-from_recursion (λ (s : Span). IsWithin 1 most_span s.0) script (all-Pairs R (λ (s : Span). IsWithin 1 most_span s.0) (λ d s r. r) a.0 script pairs);
    }

scripts_ok : (table : Members) (guests : List (List Span)) → scripts_of table ≡ Ok guests → IsWithin 1 32 (length guests) × AllByRecursion IsCheckedScript guests
scripts_ok table guests e =
    let s0 = bind_ok (required_value table (codes "guests")) (λ d. array_of 1 32 d >>= λ ds. each script_of ds) guests e in
    let d = s0.0 in
    let s1 = bind_ok (array_of 1 32 d) (λ ds. each script_of ds) guests s0.2 in
    let ds = s1.0 in
    let R : Data → List Span → Type 0 = λ d script. IsCheckedScript script in
    let pairs = each_ok script_of R script_ok ds guests s1.2 in
    let same = length-Pairs R ds guests pairs in
    let count = array_ok 1 32 d ds s1.1 in
    (record { least = omega (arith, count.least, same); most = omega (arith, count.most, same) }, all-Pairs R IsCheckedScript (λ d script r. r) ds guests pairs)

-- ---- pins

-- a set of some cores of the machine
abbrev pub IsPin : Head → Cores → Type 0
IsPin head cores = IsWithin 1 (2 ^ cores_in_all head - 1) cores.0

pin_ok : (head : Head) → IsCheckedHead head → (d : Data) (cores : Cores) → pin_of head d ≡ Ok cores → IsPin head cores
pin_ok head checked d cores e =
    let s0 = bind_ok (array_of 1 64 d) (λ ds. cores_of head [] ds >>= λ set. Ok (core_set set)) cores e in
    let ds = s0.0 in
    let s1 = bind_ok (cores_of head [] ds) (λ set. Ok (core_set set)) cores s0.2 in
    let set = s1.0 in
    let made = cores_ok head [] checked ds set s1.1 in
    subst (IsPin head) (ok_is DomCause (core_set set) cores s1.2) (record { least = made.1 (array_ok 1 64 d ds s0.1).least; most = omega (arith, made.0.fits) })

abbrev pub ArePins : Head → ℕ → List Cores → Type 0
ArePins head units pins = ((pins ≡ []) ⊎ (length pins ≡ units)) × AllByRecursion (IsPin head) pins

pin_list_ok : (head : Head) → IsCheckedHead head → (units : ℕ) (pins : List Cores) (d : Data) → (array_of units units d >>= each (pin_of head)) ≡ Ok pins → ArePins head units pins
pin_list_ok head checked units pins d e =
    let s = bind_ok (array_of units units d) (each (pin_of head)) pins e in
    let R : Data → Cores → Type 0 = λ d cores. IsPin head cores in
    let pairs = each_ok (pin_of head) R (pin_ok head checked) s.0 pins s.2 in
    let count = array_ok units units d s.0 s.1 in
    (inr (omega (arith, length-Pairs R s.0 pins pairs, count.least, count.most)), all-Pairs R (IsPin head) (λ d cores r. r) s.0 pins pairs)

pins_ok : (head : Head) → IsCheckedHead head → (units : ℕ) (table : Members) (pins : List Cores) → pins_in head units table ≡ Ok pins → ArePins head units pins
pins_ok head checked units table pins e =
    let none : ArePins head units [] = (inl refl, tt) in
    either_ok (ArePins head units) (eqb head.format 1) [] pins _ none
    (λ h. absent_or_ok (ArePins head units) (get_member (codes "pins") table) [] (λ d. array_of units units d >>= each (pin_of head)) pins none (pin_list_ok head checked units pins) h) e

-- ---- the home

-- the domain's home has a processor, and is of this kind
abbrev IsHomePool : List PoolDraft → HomePool → Type 0
IsHomePool pools home = (p : PoolDraft) × (slice_get pools home.pool.0 ≡ Some p) × (0 < p.cores) × (home.kind ≡ p.kind)

abbrev home_of_pool : ℕ → Option PoolDraft → Result HomePool DomCause
home_of_pool n found = elim found [
  | None ↦ Err NoSuch
  | Some p ↦ cond (eqb p.cores 0) (Err Empty) (Ok (record { pool = pool_number n; kind = p.kind }))
]

positive : (n : ℕ) → eqb n 0 ≡ false → 0 < n
positive zero other = absurd (false≢true (sym other))
positive (suc n) other = omega arith

home_of_pool_ok : (pools : List PoolDraft) (n : ℕ) (found : Option PoolDraft) (home : HomePool) → slice_get pools n ≡ found → home_of_pool n found ≡ Ok home → IsHomePool pools home
home_of_pool_ok pools n None home is e = absurd cc
home_of_pool_ok pools n (Some p) home is e =
    let made : HomePool = record { pool = pool_number n; kind = p.kind } in
    let k = kept_not (eqb p.cores 0) made home Empty e in
    subst (IsHomePool pools) k.1 (p, is, positive p.cores k.0, refl)

home_ok : (pools : List PoolDraft) (table : Members) (home : HomePool) → home_in pools table ≡ Ok home → IsHomePool pools home
home_ok pools table home e =
    let s = bind_ok (home_place_in pools table) (home_with_cores pools) home e in
    home_of_pool_ok pools s.0 (slice_get pools s.0) home refl s.2

-- ---- parameters

params_ok : (kind : SchedKind) (i : ℕ) (table : Members) (params : DomParams) → params_in kind i table ≡ Ok params → DomParamsPass kind params
params_ok kinds.Credit2 i table params e =
    let s0 = bind_ok (at Domain i (codes "weight") (number_or_default (codes "weight") 256 1 65535 table)) (λ weight. at Domain i (codes "cap") (number_or_default (codes "cap") 0 0 6400 table) >>= λ cap. Ok (dom_params.Credit2 weight cap)) params e in
    let weight = s0.0 in
    let s1 = bind_ok (at Domain i (codes "cap") (number_or_default (codes "cap") 0 0 6400 table)) (λ cap. Ok (dom_params.Credit2 weight cap)) params s0.2 in
    let cap = s1.0 in
    subst (DomParamsPass kinds.Credit2) (ok_is DomFault (dom_params.Credit2 weight cap) params s1.2) (
      number_or_ok (codes "weight") 256 1 65535 table weight (record { least = omega arith; most = omega arith }) (at_ok Domain i (codes "weight") (number_or_default (codes "weight") 256 1 65535 table) weight s0.1),
      (number_or_ok (codes "cap") 0 0 6400 table cap (record { least = omega arith; most = omega arith }) (at_ok Domain i (codes "cap") (number_or_default (codes "cap") 0 0 6400 table) cap s1.1)).most,
    )
params_ok kinds.Rtds i table params e =
    let s0 = bind_ok (at Domain i (codes "period_us") (period_in table)) (λ period. at Domain i (codes "budget_us") (budget_in period table) >>= λ budget. at Domain i (codes "extratime") (extra_in table) >>= λ extra. Ok (dom_params.Rtds (span (period * 1000)) (span (budget * 1000)) extra)) params e in
    let period = s0.0 in
    let s1 = bind_ok (at Domain i (codes "budget_us") (budget_in period table)) (λ budget. at Domain i (codes "extratime") (extra_in table) >>= λ extra. Ok (dom_params.Rtds (span (period * 1000)) (span (budget * 1000)) extra)) params s0.2 in
    let budget = s1.0 in
    let s2 = bind_ok (at Domain i (codes "extratime") (extra_in table)) (λ extra. Ok (dom_params.Rtds (span (period * 1000)) (span (budget * 1000)) extra)) params s1.2 in
    let extra = s2.0 in
    let p = number_or_ok (codes "period_us") 10000 10 1000000000 table period (record { least = omega arith; most = omega arith }) (at_ok Domain i (codes "period_us") (period_in table) period s0.1) in
    let b = number_or_ok (codes "budget_us") (min period 4000) 10 period table budget (record { least = omega (arith, p.least); most = omega arith }) (at_ok Domain i (codes "budget_us") (budget_in period table) budget s1.1) in
    subst (DomParamsPass kinds.Rtds) (ok_is DomFault (dom_params.Rtds (span (period * 1000)) (span (budget * 1000)) extra) params s2.2)
    (record { least = omega (arith, p.least); most = omega (arith, p.most) }, record { least = omega (arith, b.least); most = omega (arith, b.most) })
params_ok kinds.Arinc653 i table params e = subst (DomParamsPass kinds.Arinc653) (ok_is DomFault dom_params.Arinc653 params e) tt
params_ok kinds.Null i table params e = subst (DomParamsPass kinds.Null) (ok_is DomFault dom_params.Null params e) tt

-- ---- domains

-- the domain's home has a processor, and the domain's parameters are of its scheduler
abbrev pub IsHome : List PoolDraft → DomConfig → Type 0
IsHome pools domain = (p : PoolDraft) × (slice_get pools domain.home.0 ≡ Some p) × (0 < p.cores) × DomParamsPass p.kind domain.params

pub record IsDomainDraft (head : Head) (pools : List PoolDraft) (domain : DomConfig) : Type 0 where
  pub name : is_valid_name domain.name ≡ true
  pub home : IsHome pools domain
  pub count : IsWithin 1 32 (length domain.guests)
  pub scripts : AllByRecursion IsCheckedScript domain.guests
  pub pins : ArePins head (guest_unit_count head.granularity (length domain.guests)) domain.pins

record IsNextDomain (head : Head) (pools : List PoolDraft) (domains : List DomConfig) (domain : DomConfig) : Type 0 where
  pub draft : IsDomainDraft head pools domain
  pub new_name : has_domain_named domains domain.name ≡ false

domain_name_ok : (domains : List DomConfig) (table : Members) (name : List ℕ) → domain_name_in domains table ≡ Ok name → (is_valid_name name ≡ true) × (has_domain_named domains name ≡ false)
domain_name_ok domains table name e =
    let s0 = bind_ok (required_value table (codes "name")) (λ d. name_of d >>= λ n. cond (has_domain_named domains n) (Err Twice) (Ok n)) name e in
    let d = s0.0 in
    let s1 = bind_ok (name_of d) (λ n. cond (has_domain_named domains n) (Err Twice) (Ok n)) name s0.2 in
    let n = s1.0 in
    let k = kept_not (has_domain_named domains n) n name Twice s1.2 in
    subst (λ n. (is_valid_name n ≡ true) × (has_domain_named domains n ≡ false)) k.1 (name_ok d n s1.1, k.0)

domain_ok : (head : Head) (pools : List PoolDraft) (domains : List DomConfig) (table : Members) → IsCheckedHead head → (domain : DomConfig) → domain_in head pools domains table ≡ Ok domain → IsNextDomain head pools domains domain
unfolding domain_in
domain_ok head pools domains table checked domain e =
    let s0 = bind_ok (at Domain (length domains) (codes "name") (domain_name_in domains table)) (λ name. at Domain (length domains) (codes "pool") (home_in pools table) >>= λ home. at Domain (length domains) (codes "guests") (scripts_of table) >>= λ guests. at Domain (length domains) (codes "pins") (pins_in head (guest_unit_count head.granularity (length guests)) table) >>= λ pins. key_check Domain (length domains) (known_domain_keys head.format home.kind) table >>= λ known. params_in home.kind (length domains) table >>= λ params. Ok (record { name = name; home = home.pool; guests = guests; params = params; pins = pins })) domain e in
    let name = s0.0 in
    let s1 = bind_ok (at Domain (length domains) (codes "pool") (home_in pools table)) (λ home. at Domain (length domains) (codes "guests") (scripts_of table) >>= λ guests. at Domain (length domains) (codes "pins") (pins_in head (guest_unit_count head.granularity (length guests)) table) >>= λ pins. key_check Domain (length domains) (known_domain_keys head.format home.kind) table >>= λ known. params_in home.kind (length domains) table >>= λ params. Ok (record { name = name; home = home.pool; guests = guests; params = params; pins = pins })) domain s0.2 in
    let home = s1.0 in
    let s2 = bind_ok (at Domain (length domains) (codes "guests") (scripts_of table)) (λ guests. at Domain (length domains) (codes "pins") (pins_in head (guest_unit_count head.granularity (length guests)) table) >>= λ pins. key_check Domain (length domains) (known_domain_keys head.format home.kind) table >>= λ known. params_in home.kind (length domains) table >>= λ params. Ok (record { name = name; home = home.pool; guests = guests; params = params; pins = pins })) domain s1.2 in
    let guests = s2.0 in
    let s3 = bind_ok (at Domain (length domains) (codes "pins") (pins_in head (guest_unit_count head.granularity (length guests)) table)) (λ pins. key_check Domain (length domains) (known_domain_keys head.format home.kind) table >>= λ known. params_in home.kind (length domains) table >>= λ params. Ok (record { name = name; home = home.pool; guests = guests; params = params; pins = pins })) domain s2.2 in
    let pins = s3.0 in
    let s4 = bind_ok (key_check Domain (length domains) (known_domain_keys head.format home.kind) table) (λ known. params_in home.kind (length domains) table >>= λ params. Ok (record { name = name; home = home.pool; guests = guests; params = params; pins = pins })) domain s3.2 in
    let known = s4.0 in
    let s5 = bind_ok (params_in home.kind (length domains) table) (λ params. Ok (record { name = name; home = home.pool; guests = guests; params = params; pins = pins })) domain s4.2 in
    let params = s5.0 in
    let named = domain_name_ok domains table name (at_ok Domain (length domains) (codes "name") (domain_name_in domains table) name s0.1) in
    let at_home = home_ok pools table home (at_ok Domain (length domains) (codes "pool") (home_in pools table) home s1.1) in
    let scripts = scripts_ok table guests (at_ok Domain (length domains) (codes "guests") (scripts_of table) guests s2.1) in
    let pinned = pins_ok head checked (guest_unit_count head.granularity (length guests)) table pins (at_ok Domain (length domains) (codes "pins") (pins_in head (guest_unit_count head.granularity (length guests)) table) pins s3.1) in
    let passes = subst (λ kind. DomParamsPass kind params) at_home.3 (params_ok home.kind (length domains) table params s5.1) in
    let made : DomConfig = record { name = name; home = home.pool; guests = guests; params = params; pins = pins } in
    subst (IsNextDomain head pools domains) (ok_is DomFault made domain s5.2) (record {
      draft = record { name = named.0; home = (at_home.0, at_home.1, at_home.2, passes); count = scripts.0; scripts = scripts.1; pins = pinned };
      new_name = named.1;
    })

abbrev pub ShareName : DomConfig → DomConfig → Type 0
ShareName d e = d.name ≡ e.name

pub record AreDomainDrafts (head : Head) (pools : List PoolDraft) (domains : List DomConfig) : Type 0 where
  pub drafts : AllByRecursion (IsDomainDraft head pools) domains
  pub names_apart : Apart ShareName domains

next_domain : (head : Head) (pools : List PoolDraft) (domains : List DomConfig) (domain : DomConfig) → AreDomainDrafts head pools domains → IsNextDomain head pools domains domain → AreDomainDrafts head pools (domains ++ domain ∷ [])
next_domain head pools domains domain before next =
    let used : (i : ℕ) (d : DomConfig) → slice_get domains i ≡ Some d → d.name ≡ domain.name → ⊥ = λ i d at_i same. other_name d.name domain.name (none_passes (λ e. bytes_eq e.name domain.name) domains i d next.new_name at_i) same in
    record {
      drafts = AllByRecursion-push (IsDomainDraft head pools) domains domain before.drafts next.draft;
      names_apart = apart-push ShareName domains domain before.names_apart used (λ i d at_i same. used i d at_i (sym same));
    }

domains_in_ok : (head : Head) (pools : List PoolDraft) → IsCheckedHead head → (tables : List Members) (domains all : List DomConfig) → AreDomainDrafts head pools domains → domains_in head pools domains tables ≡ Ok all → AreDomainDrafts head pools all × (length all ≡ length domains + length tables)
domains_in_ok head pools checked [] domains all before e = subst (λ all. AreDomainDrafts head pools all × (length all ≡ length domains + 0)) (ok_is DomFault domains all e) (before, omega arith)
domains_in_ok head pools checked (table ∷ tables) domains all before e =
    let s = bind_ok (domain_in head pools domains table) (λ d. domains_in head pools (domains ++ d ∷ []) tables) all e in
    let more = domains_in_ok head pools checked tables (domains ++ s.0 ∷ []) all (next_domain head pools domains s.0 before (domain_ok head pools domains table checked s.0 s.1)) s.2 in
    (more.0, omega (arith, more.1, length-push domains s.0))

pub domains_ok : (head : Head) (pools : List PoolDraft) → IsCheckedHead head → (tables : List Members) (all : List DomConfig) → domains_in head pools [] tables ≡ Ok all → AreDomainDrafts head pools all × (length all ≡ length tables)
domains_ok head pools checked tables all e =
    let none : AreDomainDrafts head pools [] = record { drafts = tt; names_apart = λ i j d e at_i at_j same. absurd cc } in
    let h = domains_in_ok head pools checked tables [] all none e in
    (h.0, omega (arith, h.1))
