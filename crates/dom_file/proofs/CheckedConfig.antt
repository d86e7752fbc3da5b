-- The values of a machine that was read pass all checks.
use Rattle.std.proofs.Common.{◌≡◌, ℕ, suc, ◌+◌, ◌-◌, ◌*◌, ◌/◌, ◌^◌, ◌≤◌, ◌<◌, ℤ, pos, negsuc, true, leb, ltb, codes, List, [], ◌∷◌, ◌++◌, length, Option, Some, None, Result, Ok, Err, refl, sym, ap, subst, ◌∙◌, append_assoc, length-append, inl, inr, arith}
use Rattle.std.specs.Prelude.{⊤, IfSome, slice_get}
use Rattle.std.specs.Result.{IfOk}
use Rattle.std.specs.List.{AllByRecursion, sum_by}
use Rattle.std.proofs.lemmas.Bool.{leb-true, ltb-true}
use Rattle.std.proofs.lemmas.List.{append-nil, length-map}
use Rattle.std.proofs.lemmas.List.Elements.{All-from_recursion}
use Rattle.std.proofs.lemmas.List.Sums.{sum_by-cons}
use Rattle.std.proofs.lemmas.Option.{slice_get_within}
use Rattle.sched_base.specs.Numbers.{domain as domain_number}
use Rattle.sched_base.specs.declared.Cores.{Cores}
use Rattle.sched_base.specs.declared.Span.{Span}
use Rattle.sched_base.proofs.Lists.{AllByRecursion-map}
use Rattle.sched_model.specs.declared.config.Config.{Config}
use Rattle.sched_model.specs.declared.config.DomConfig.{DomConfig}
use Rattle.sched_model.specs.declared.config.Frame.{Frame}
use Rattle.sched_model.specs.declared.config.FrameEntry.{FrameEntry}
use Rattle.sched_model.specs.declared.config.PoolConfig.{PoolConfig}
use Rattle.sched_model.specs.declared.config.PoolParams.{PoolParams}
use Rattle.sched_model.specs.declared.config.PoolParams.TheVariants as pool_params
use Rattle.sched_model.specs.declared.config.SchedKind.{SchedKind}
use Rattle.sched_model.specs.declared.config.SchedKind.TheVariants as kinds
use Rattle.sched_model.specs.State.{has_core_bit}
use Rattle.sched_model.specs.Opening.{machine_core_count}
use Rattle.sched_model.specs.Actions.{units_from}
use Rattle.sched_model.specs.CheckedMachine.{IsWithin, IsGranularity, HasUnit, IsCheckedFrame, PoolParamsPass, IsCheckedPool, IsCheckedScript, DomParamsPass, IsCheckedDomain, IsCheckedConfig, most_span}
use Rattle.sched_model.proofs.PlaceLemmas.{length-numbers_from}
use Rattle.toml.specs.Data.{Data, Members, get_member}
use Rattle.dom_file.specs.declared.draft.EntryDraft.{EntryDraft}
use Rattle.dom_file.specs.declared.draft.FrameDraft.{FrameDraft}
use Rattle.dom_file.specs.declared.draft.ParamsDraft.{ParamsDraft}
use Rattle.dom_file.specs.declared.draft.ParamsDraft.TheVariants as drafts
use Rattle.dom_file.specs.declared.draft.PoolDraft.{PoolDraft}
use Rattle.dom_file.specs.declared.fault.TableName.TheVariants.{Top, Pool}
use Rattle.dom_file.specs.declared.fault.DomCause.{DomCause}
use Rattle.dom_file.specs.declared.fault.DomCause.TheVariants.{Range}
use Rattle.dom_file.specs.declared.fault.DomFault.{DomFault}
use Rattle.dom_file.specs.declared.head.Head.{Head}
use Rattle.dom_file.specs.Steps.{◌>>=◌, at, each, Gives}
use Rattle.dom_file.specs.Values.{table_of, array_of}
use Rattle.dom_file.specs.Heads.{head_of}
use Rattle.dom_file.specs.Pins.{guest_unit_count}
use Rattle.dom_file.specs.Pools.{default_pool}
use Rattle.dom_file.specs.Domains.{domains_in}
use Rattle.dom_file.specs.Finish.{number_below, units_of_domain, entry_of, frame_of, params_of, finished_pool, finished_pools, total_units, unit_count_check}
use Rattle.dom_file.specs.Configs.{tables_of, pool_tables_in, domain_tables_in, pools_of_tables, config_of}
use Rattle.dom_file.proofs.Passed.{bind_ok, at_ok, kept, ok_is, absent_or_ok, array_ok, Pairs, each_ok, length-Pairs, get-Pairs, one_core}
use Rattle.dom_file.proofs.CheckedPools.{IsCheckedHead, head_ok, IsFrameDraft, DraftPasses, IsPoolDraft, ArePoolDrafts, pools_ok, default_pool_ok}
use Rattle.dom_file.proofs.CheckedDomains.{IsDomainDraft, AreDomainDrafts, domains_ok}

-- ---- units

-- the list of the units is as long as their counts add up to
length-units_from : (g d : ℕ) (domains : List DomConfig) → length (units_from g d domains) ≡ total_units g domains
length-units_from g d [] = refl
length-units_from g d (domain ∷ domains) =
    let count = (length domain.guests + g - 1) / g in
    rw (length-append, length-map, length-numbers_from, length-units_from g (suc d) domains) (sym (sum_by-cons (λ (d : DomConfig). guest_unit_count g (length d.guests)) domain domains))

few_units_ok : (g : ℕ) (domains : List DomConfig) (few : ⊤) → unit_count_check g domains ≡ Ok few → total_units g domains ≤ 256
few_units_ok g domains few e = leb-true (total_units g domains) 256 (kept (leb (total_units g domains) 256) tt few (Range (pos (total_units g domains))) e).0

-- ---- frames

below_ok : (count : ℕ) (z : ℤ) (n : ℕ) → number_below count z ≡ Ok n → n < count
below_ok count (pos m) n e = let k = kept (ltb m count) m n (Range (pos m)) e in subst (λ n. n < count) k.1 (ltb-true m count k.0)
below_ok count (negsuc m) n e = absurd cc

unit_fits : (g unit guests : ℕ) → IsGranularity g → unit < guest_unit_count g guests → unit * g < guests
unit_fits g unit guests (inl is) inside = let h : unit < guest_unit_count 1 guests = subst (λ g. unit < guest_unit_count g guests) is inside in rw is (omega arith)
unit_fits g unit guests (inr (inl is)) inside = let h : unit < guest_unit_count 2 guests = subst (λ g. unit < guest_unit_count g guests) is inside in rw is (omega arith)
unit_fits g unit guests (inr (inr is)) inside = let h : unit < guest_unit_count 4 guests = subst (λ g. unit < guest_unit_count g guests) is inside in rw is (omega arith)

abbrev units_of_found : ℕ → Option DomConfig → ℕ
units_of_found g found = elim found [ None ↦ 0 | Some d ↦ guest_unit_count g (length d.guests) ]

unit_is_there : (g n unit : ℕ) (domains : List DomConfig) (found : Option DomConfig) → IsGranularity g → slice_get domains n ≡ found → unit < units_of_found g found → (domain : DomConfig) × (slice_get domains n ≡ Some domain) × (unit * g < length domain.guests)
unit_is_there g n unit domains None gran is inside = absurd (omega arith)
unit_is_there g n unit domains (Some d) gran is inside = (d, is, unit_fits g unit (length d.guests) gran inside)

-- an entry of the frame, and what the file has for it
abbrev IsEntryOf : Config → EntryDraft → FrameEntry → Type 0
IsEntryOf config draft entry = (entry.run ≡ draft.run) × HasUnit config entry

entry_ok : (config : Config) → IsGranularity config.granularity → (draft : EntryDraft) (entry : FrameEntry) → entry_of config.granularity config.domains draft ≡ Ok entry → IsEntryOf config draft entry
entry_ok config gran draft entry e =
    let s0 = bind_ok (number_below (length config.domains) draft.dom) (λ dom. number_below (units_of_domain config.granularity config.domains dom) draft.unit >>= λ unit. Ok (record { dom = domain_number dom; unit = unit; run = draft.run })) entry e in
    let dom = s0.0 in
    let s1 = bind_ok (number_below (units_of_domain config.granularity config.domains dom) draft.unit) (λ unit. Ok (record { dom = domain_number dom; unit = unit; run = draft.run })) entry s0.2 in
    let unit = s1.0 in
    let made : FrameEntry = record { dom = domain_number dom; unit = unit; run = draft.run } in
    let inside = below_ok (units_of_domain config.granularity config.domains dom) draft.unit unit s1.1 in
    subst (IsEntryOf config draft) (ok_is DomCause made entry s1.2) (refl, unit_is_there config.granularity dom unit config.domains (slice_get config.domains dom) gran refl inside)

runs-Pairs : (config : Config) (ds : List EntryDraft) (es : List FrameEntry) → Pairs (IsEntryOf config) ds es → sum_by (λ (e : FrameEntry). e.run.0) es ≡ sum_by (λ (e : EntryDraft). e.run.0) ds
runs-Pairs config [] [] h = refl
runs-Pairs config [] (e ∷ es) h = absurd h
runs-Pairs config (d ∷ ds) [] h = absurd h
runs-Pairs config (d ∷ ds) (e ∷ es) h =
    let here : e.run.0 ≡ d.run.0 = ap (λ s. s.0) h.0.0 in
    sum_by-cons (λ (e : FrameEntry). e.run.0) e es ∙ omega (arith, here, runs-Pairs config ds es h.1) ∙ sym (sum_by-cons (λ (e : EntryDraft). e.run.0) d ds)

-- what holds of each element of the one list, and of the pairs, gives what holds of each element of the other
both-Pairs : {A B : Type 0} (P : A → Type 0) (R : A → B → Type 0) (Q : B → Type 0) → ((x : A) (y : B) → P x → R x y → Q y) → (xs : List A) (ys : List B) → AllByRecursion P xs → Pairs R xs ys → AllByRecursion Q ys
both-Pairs P R Q gives [] [] all h = tt
both-Pairs P R Q gives [] (y ∷ ys) all h = absurd h
both-Pairs P R Q gives (x ∷ xs) [] all h = absurd h
both-Pairs P R Q gives (x ∷ xs) (y ∷ ys) all h = (gives x y all.0 h.0, both-Pairs P R Q gives xs ys all.1 h.1)

abbrev RunIsWithin : FrameEntry → Type 0
RunIsWithin e = IsWithin 1 most_span e.run.0

frame_ok : (config : Config) → IsGranularity config.granularity → (draft : FrameDraft) → IsFrameDraft draft → (frame : Frame) → frame_of config.granularity config.domains draft ≡ Ok frame → IsCheckedFrame config frame
frame_ok config gran draft checked frame e =
    let s = bind_ok (each (entry_of config.granularity config.domains) draft.entries) (λ entries. Ok (record { major = draft.major; entries = entries })) frame e in
    let entries = s.0 in
    let made : Frame = record { major = draft.major; entries = entries } in
    let pairs = each_ok (entry_of config.granularity config.domains) (IsEntryOf config) (entry_ok config gran) draft.entries entries s.1 in
    let same = length-Pairs (IsEntryOf config) draft.entries entries pairs in
    let runs = both-Pairs (λ (d : EntryDraft). IsWithin 1 most_span d.run.0) (IsEntryOf config) RunIsWithin (λ d e inside r. subst (λ (s : Span). IsWithin 1 most_span s.0) (sym r.0) inside) draft.entries entries checked.runs pairs in
    let units = both-Pairs (λ (d : EntryDraft). IsWithin 1 most_span d.run.0) (IsEntryOf config) (HasUnit config) (λ d e inside r. r.1) draft.entries entries checked.runs pairs in
    subst (IsCheckedFrame config) (ok_is DomCause made frame s.2) (record {
      major = checked.major;
      some_entry = omega (arith, same, checked.count.least);
      few_entries = omega (arith, same, checked.count.most);
      runs = All-from_recursion RunIsWithin entries runs;
      fits = omega (arith, runs-Pairs config draft.entries entries pairs, checked.fits);
      units = All-from_recursion (HasUnit config) entries units;
    })

-- ---- pools

params_ok : (config : Config) → IsGranularity config.granularity → (kind : SchedKind) (draft : ParamsDraft) → DraftPasses kind draft → (params : PoolParams) → params_of config.granularity config.domains draft ≡ Ok params → PoolParamsPass config kind params
params_ok config gran kinds.Credit2 (drafts.Credit2 limit) passes params e = subst (PoolParamsPass config kinds.Credit2) (ok_is DomCause (pool_params.Credit2 limit) params e) passes
params_ok config gran kinds.Rtds drafts.Rtds passes params e = subst (PoolParamsPass config kinds.Rtds) (ok_is DomCause pool_params.Rtds params e) tt
params_ok config gran kinds.Arinc653 (drafts.Arinc653 None) passes params e = subst (PoolParamsPass config kinds.Arinc653) (ok_is DomCause (pool_params.Arinc653 None) params e) tt
params_ok config gran kinds.Arinc653 (drafts.Arinc653 (Some draft)) passes params e =
    let s = bind_ok (frame_of config.granularity config.domains draft) (λ f. Ok (pool_params.Arinc653 (Some f))) params e in
    subst (PoolParamsPass config kinds.Arinc653) (ok_is DomCause (pool_params.Arinc653 (Some s.0)) params s.2) (frame_ok config gran draft passes s.0 s.1)
params_ok config gran kinds.Null drafts.Null passes params e = subst (PoolParamsPass config kinds.Null) (ok_is DomCause pool_params.Null params e) tt
params_ok config gran kind draft passes params e = absurd passes

-- a pool, and what its table said of it
record IsPoolOf (g : ℕ) (domains : List DomConfig) (draft : PoolDraft) (pool : PoolConfig) : Type 0 where
  pub name : pool.name ≡ draft.name
  pub kind : pool.kind ≡ draft.kind
  pub cores : pool.cores ≡ draft.cores
  pub params : params_of g domains draft.params ≡ Ok pool.params

finished_pool_ok : (g : ℕ) (domains : List DomConfig) (i : ℕ) (draft : PoolDraft) (pool : PoolConfig) → finished_pool g domains i draft ≡ Ok pool → IsPoolOf g domains draft pool
finished_pool_ok g domains i draft pool e =
    let s = bind_ok (at Pool i (codes "frame") (params_of g domains draft.params)) (λ params. Ok (record { name = draft.name; kind = draft.kind; cores = draft.cores; params = params })) pool e in
    let made : PoolConfig = record { name = draft.name; kind = draft.kind; cores = draft.cores; params = s.0 } in
    subst (IsPoolOf g domains draft) (ok_is DomFault made pool s.2) (record { name = refl; kind = refl; cores = refl; params = at_ok Pool i (codes "frame") (params_of g domains draft.params) s.0 s.1 })

abbrev AreMore : ℕ → List DomConfig → List PoolConfig → List PoolDraft → List PoolConfig → Type 0
AreMore g domains pools ds all = (more : List PoolConfig) × (all ≡ pools ++ more) × Pairs (IsPoolOf g domains) ds more

finished_pools_ok : (g : ℕ) (domains : List DomConfig) (ds : List PoolDraft) (pools all : List PoolConfig) → finished_pools g domains pools ds ≡ Ok all → AreMore g domains pools ds all
finished_pools_ok g domains [] pools all e = ([], sym (append-nil pools ∙ ok_is DomFault pools all e), tt)
finished_pools_ok g domains (d ∷ ds) pools all e =
    let s = bind_ok (finished_pool g domains (length pools) d) (λ pool. finished_pools g domains (pools ++ pool ∷ []) ds) all e in
    let h = finished_pools_ok g domains ds (pools ++ s.0 ∷ []) all s.2 in
    (s.0 ∷ h.0, h.1 ∙ append_assoc pools (s.0 ∷ []) h.0, (finished_pool_ok g domains (length pools) d s.0 s.1, h.2))

pool_pairs : (g : ℕ) (domains : List DomConfig) (ds : List PoolDraft) (all : List PoolConfig) → finished_pools g domains [] ds ≡ Ok all → Pairs (IsPoolOf g domains) ds all
pool_pairs g domains ds all e =
    let h = finished_pools_ok g domains ds [] all e in
    subst (Pairs (IsPoolOf g domains) ds) (sym h.1) h.2

-- ---- tables

tables_ok : (low high : ℕ) (d : Data) (tables : List Members) → tables_of low high d ≡ Ok tables → IsWithin low high (length tables)
tables_ok low high d tables e =
    let s = bind_ok (array_of low high d) (each table_of) tables e in
    let R : Data → Members → Type 0 = λ d table. Unit {0} in
    let pairs = each_ok table_of R (λ d table h. tt) s.0 tables s.2 in
    let count = array_ok low high d s.0 s.1 in
    let same = length-Pairs R s.0 tables pairs in
    record { least = omega (arith, same, count.least); most = omega (arith, same, count.most) }

abbrev FewPools : Option (List Members) → Type 0
FewPools tables = IfSome tables (λ (ts : List Members). IsWithin 1 16 (length ts))

some_tables_ok : (d : Data) (tables : Option (List Members)) → (tables_of 1 16 d >>= λ tables. Ok (Some tables)) ≡ Ok tables → FewPools tables
some_tables_ok d tables e =
    let s = bind_ok (tables_of 1 16 d) (λ tables. Ok (Some tables)) tables e in
    subst FewPools (ok_is DomCause (Some s.0) tables s.2) (tables_ok 1 16 d s.0 s.1)

pool_tables_ok : (table : Members) (tables : Option (List Members)) → pool_tables_in table ≡ Ok tables → FewPools tables
pool_tables_ok table tables e = absent_or_ok FewPools (get_member (codes "pool") table) None (λ d. tables_of 1 16 d >>= λ tables. Ok (Some tables)) tables tt (λ d. some_tables_ok d tables) e

domain_tables_ok : (table : Members) (tables : List Members) → domain_tables_in table ≡ Ok tables → length tables ≤ 64
domain_tables_ok table tables e = absent_or_ok (λ (ts : List Members). length ts ≤ 64) (get_member (codes "domain") table) [] (tables_of 0 64) tables (omega arith) (λ d h. (tables_ok 0 64 d tables h).most) e

all_pools_ok : (head : Head) → IsCheckedHead head → (tables : Option (List Members)) → FewPools tables → (pools : List PoolDraft) → pools_of_tables head tables ≡ Ok pools → ArePoolDrafts head pools × IsWithin 1 16 (length pools)
all_pools_ok head checked None few pools e = subst (λ pools. ArePoolDrafts head pools × IsWithin 1 16 (length pools)) (ok_is DomFault (default_pool head ∷ []) pools e) (default_pool_ok head checked, record { least = omega arith; most = omega arith })
all_pools_ok head checked (Some tables) few pools e =
    let h = pools_ok head checked tables pools e in
    (h.0, record { least = omega (arith, h.1, few.least); most = omega (arith, h.1, few.most) })

-- ---- the whole

pool_ok : (head : Head) (config : Config) → IsGranularity config.granularity → machine_core_count config ≡ head.processors / head.granularity → (draft : PoolDraft) (pool : PoolConfig) → IsPoolDraft head draft → IsPoolOf config.granularity config.domains draft pool → IsCheckedPool config pool
pool_ok head config gran count draft pool checked of = record {
  name = rw of.name checked.name;
  cores = rw (of.cores, count) checked.cores;
  params = rw of.kind (params_ok config gran draft.kind draft.params checked.params pool.params of.params);
  one_core = λ arinc r s at_r at_s. one_core draft.cores r s (checked.one_core (sym of.kind ∙ arinc)) (subst (λ cores. has_core_bit cores r ≡ true) of.cores at_r) (subst (λ cores. has_core_bit cores s ≡ true) of.cores at_s);
}

same_draft : (ds : List PoolDraft) (i : ℕ) (p q : PoolDraft) → slice_get ds i ≡ Some p → slice_get ds i ≡ Some q → p ≡ q
same_draft ds i p q at_p at_q = cc

domain_ok : (head : Head) (config : Config) (ds : List PoolDraft) → config.granularity ≡ head.granularity → machine_core_count config ≡ head.processors / head.granularity → Pairs (IsPoolOf config.granularity config.domains) ds config.pools → (domain : DomConfig) → IsDomainDraft head ds domain → IsCheckedDomain config domain
domain_ok head config ds same_g count pairs domain checked =
    let R = IsPoolOf config.granularity config.domains in
    let home = checked.home in
    let units : length (units_from config.granularity 0 (domain ∷ [])) ≡ guest_unit_count head.granularity (length domain.guests) =
    length-units_from config.granularity 0 (domain ∷ []) ∙ sum_by-cons (λ (d : DomConfig). guest_unit_count config.granularity (length d.guests)) domain [] ∙ rw same_g (omega arith) in
    record {
      name = checked.name;
      home = omega (arith, slice_get_within ds domain.home.0 home.0 home.1, length-Pairs R ds config.pools pairs);
      home_pool = λ pool at_home.
          let found = get-Pairs R ds config.pools domain.home.0 pool pairs at_home in
          let same : found.0 ≡ home.0 = same_draft ds domain.home.0 found.0 home.0 found.1 home.1 in
          let kind : home.0.kind ≡ pool.kind = ap (λ (p : PoolDraft). p.kind) (sym same) ∙ sym found.2.kind in
          let cores : home.0.cores ≡ pool.cores = ap (λ (p : PoolDraft). p.cores) (sym same) ∙ sym found.2.cores in
          (subst (λ n. 0 < n) cores home.2, subst (λ k. DomParamsPass k domain.params) kind home.3);
      some_guest = checked.count.least;
      few_guests = checked.count.most;
      scripts = All-from_recursion IsCheckedScript domain.guests checked.scripts;
      pins = record {
        count = elim checked.pins.0 [ inl none ↦ inl none | inr each ↦ inr (each ∙ sym units) ];
        cores = All-from_recursion (λ (c : Cores). IsWithin 1 (2 ^ machine_core_count config - 1) c.0) domain.pins (rw count checked.pins.1);
      };
    }

-- the machine of these parts
abbrev machine_of : Head → List PoolConfig → List DomConfig → Config
machine_of head pools domains = record { granularity = head.granularity; processors = head.processors; horizon = head.horizon; pools = pools; domains = domains }

record AreParts (h : Head) (drafts : List PoolDraft) (found : List DomConfig) (made : List PoolConfig) : Type 0 where
  pub head : IsCheckedHead h
  pub ds : ArePoolDrafts h drafts
  pub count : IsWithin 1 16 (length drafts)
  pub domains : AreDomainDrafts h drafts found
  pub few_domains : length found ≤ 64
  pub few_units : total_units h.granularity found ≤ 256
  pub pairs : Pairs (IsPoolOf h.granularity found) drafts made

parts_ok : (h : Head) (ds : List PoolDraft) (domains : List DomConfig) (pools : List PoolConfig) → AreParts h ds domains pools → IsCheckedConfig (machine_of h pools domains)
parts_ok h ds domains pools parts =
    let config = machine_of h pools domains in
    let R = IsPoolOf h.granularity domains in
    let same = length-Pairs R ds pools parts.pairs in
    let gran = parts.head.granularity in
    record {
      granularity = gran;
      processors = parts.head.processors;
      whole_cores = parts.head.whole_cores;
      horizon = parts.head.horizon;
      some_pool = omega (arith, same, parts.count.least);
      few_pools = omega (arith, same, parts.count.most);
      few_domains = parts.few_domains;
      pools = All-from_recursion (IsCheckedPool config) pools (both-Pairs (IsPoolDraft h) R (IsCheckedPool config) (pool_ok h config gran refl) ds pools parts.ds.drafts parts.pairs);
      cores_apart = λ i j r p q at_i at_j in_p in_q.
          let d = get-Pairs R ds pools i p parts.pairs at_i in
          let e = get-Pairs R ds pools j q parts.pairs at_j in
          parts.ds.cores_apart r i j d.0 e.0 d.1 e.1 (subst (λ cores. has_core_bit cores r ≡ true) d.2.cores in_p, subst (λ cores. has_core_bit cores r ≡ true) e.2.cores in_q);
      pool_names_apart = λ i j p q at_i at_j named.
          let d = get-Pairs R ds pools i p parts.pairs at_i in
          let e = get-Pairs R ds pools j q parts.pairs at_j in
          parts.ds.names_apart i j d.0 e.0 d.1 e.1 (sym d.2.name ∙ named ∙ e.2.name);
      domains = All-from_recursion (IsCheckedDomain config) domains (AllByRecursion-map (IsDomainDraft h ds) (IsCheckedDomain config) (domain_ok h config ds refl refl parts.pairs) domains parts.domains.drafts);
      domain_names_apart = parts.domains.names_apart;
      few_units = omega (arith, length-units_from h.granularity 0 domains, parts.few_units);
    }

-- the values of the machine of a table pass all checks
pub config_ok : (table : Members) (config : Config) → config_of table ≡ Ok config → IsCheckedConfig config
unfolding config_of
config_ok table config e =
    let s0 = bind_ok (head_of table) (λ head. at Top 0 (codes "pool") (pool_tables_in table) >>= λ pool_tables. at Top 0 (codes "domain") (domain_tables_in table) >>= λ domain_tables. pools_of_tables head pool_tables >>= λ ds. domains_in head ds [] domain_tables >>= λ domains. at Top 0 (codes "domain") (unit_count_check head.granularity domains) >>= λ few. finished_pools head.granularity domains [] ds >>= λ pools. Ok (record { granularity = head.granularity; processors = head.processors; horizon = head.horizon; pools = pools; domains = domains })) config e in
    let head = s0.0 in
    let s1 = bind_ok (at Top 0 (codes "pool") (pool_tables_in table)) (λ pool_tables. at Top 0 (codes "domain") (domain_tables_in table) >>= λ domain_tables. pools_of_tables head pool_tables >>= λ ds. domains_in head ds [] domain_tables >>= λ domains. at Top 0 (codes "domain") (unit_count_check head.granularity domains) >>= λ few. finished_pools head.granularity domains [] ds >>= λ pools. Ok (record { granularity = head.granularity; processors = head.processors; horizon = head.horizon; pools = pools; domains = domains })) config s0.2 in
    let pool_tables = s1.0 in
    let s2 = bind_ok (at Top 0 (codes "domain") (domain_tables_in table)) (λ domain_tables. pools_of_tables head pool_tables >>= λ ds. domains_in head ds [] domain_tables >>= λ domains. at Top 0 (codes "domain") (unit_count_check head.granularity domains) >>= λ few. finished_pools head.granularity domains [] ds >>= λ pools. Ok (record { granularity = head.granularity; processors = head.processors; horizon = head.horizon; pools = pools; domains = domains })) config s1.2 in
    let domain_tables = s2.0 in
    let s3 = bind_ok (pools_of_tables head pool_tables) (λ ds. domains_in head ds [] domain_tables >>= λ domains. at Top 0 (codes "domain") (unit_count_check head.granularity domains) >>= λ few. finished_pools head.granularity domains [] ds >>= λ pools. Ok (record { granularity = head.granularity; processors = head.processors; horizon = head.horizon; pools = pools; domains = domains })) config s2.2 in
    let ds = s3.0 in
    let s4 = bind_ok (domains_in head ds [] domain_tables) (λ domains. at Top 0 (codes "domain") (unit_count_check head.granularity domains) >>= λ few. finished_pools head.granularity domains [] ds >>= λ pools. Ok (record { granularity = head.granularity; processors = head.processors; horizon = head.horizon; pools = pools; domains = domains })) config s3.2 in
    let domains = s4.0 in
    let s5 = bind_ok (at Top 0 (codes "domain") (unit_count_check head.granularity domains)) (λ few. finished_pools head.granularity domains [] ds >>= λ pools. Ok (record { granularity = head.granularity; processors = head.processors; horizon = head.horizon; pools = pools; domains = domains })) config s4.2 in
    let few = s5.0 in
    let s6 = bind_ok (finished_pools head.granularity domains [] ds) (λ pools. Ok (record { granularity = head.granularity; processors = head.processors; horizon = head.horizon; pools = pools; domains = domains })) config s5.2 in
    let pools = s6.0 in
    let checked = head_ok table head s0.1 in
    let few_pools = pool_tables_ok table pool_tables (at_ok Top 0 (codes "pool") (pool_tables_in table) pool_tables s1.1) in
    let few_domains = domain_tables_ok table domain_tables (at_ok Top 0 (codes "domain") (domain_tables_in table) domain_tables s2.1) in
    let in_pools = all_pools_ok head checked pool_tables few_pools ds s3.1 in
    let in_domains = domains_ok head ds checked domain_tables domains s4.1 in
    let parts : AreParts head ds domains pools = record {
      head = checked;
      ds = in_pools.0;
      count = in_pools.1;
      domains = in_domains.0;
      few_domains = omega (arith, in_domains.1, few_domains);
      few_units = few_units_ok head.granularity domains few (at_ok Top 0 (codes "domain") (unit_count_check head.granularity domains) few s5.1);
      pairs = pool_pairs head.granularity domains ds pools s6.1;
    } in
    subst IsCheckedConfig (ok_is DomFault (machine_of head pools domains) config s6.2) (parts_ok head ds domains pools parts)

-- what is read passes all checks
pub gives_checked : (r : Result Config DomFault) (table : Members) → Gives r (config_of table) → IfOk r IsCheckedConfig
gives_checked (Ok config) table h = config_ok table config h
gives_checked (Err fault) table h = tt
