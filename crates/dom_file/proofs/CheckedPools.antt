-- What is known of the top table and of the pools where their checks passed.
use Rattle.std.proofs.Common.{◌≡◌, ℕ, zero, suc, ◌+◌, ◌-◌, ◌/◌, ◌%◌, ◌^◌, ◌≤◌, ◌<◌, pos, true, false, cond, ◌&&◌, leb, ltb, eqb, codes, List, [], ◌∷◌, ◌++◌, length, Option, Some, None, Result, Ok, Err, bit_or, refl, sym, subst, ◌∙◌, inl, inr, arith}
use Rattle.std.specs.Prelude.{◌⊎◌, ⊤, IfSome, count_ones, slice_get}
use Rattle.std.specs.List.{AllByRecursion, sum_by}
use Rattle.std.specs.Str.{bytes_eq}
use Rattle.std.proofs.lemmas.Bool.{leb-true, lt-ltb, ltb-false, eqb-true, false≢true}
use Rattle.std.proofs.lemmas.Nat.{pow_pos, le_or_r}
use Rattle.sched_base.specs.Numbers.{moment, span}
use Rattle.sched_base.specs.declared.Moment.{Moment}
use Rattle.sched_base.specs.Names.{is_valid_name}
use Rattle.sched_model.specs.declared.config.SchedKind.{SchedKind}
use Rattle.sched_model.specs.declared.config.SchedKind.TheVariants as kinds
use Rattle.sched_model.specs.CheckedMachine.{IsWithin, IsGranularity, most_span}
use Rattle.sched_model.specs.State.{has_core_bit}
use Rattle.toml.specs.Data.{Data, Members, get_member}
use Rattle.dom_file.specs.declared.draft.EntryDraft.{EntryDraft}
use Rattle.dom_file.specs.declared.draft.FrameDraft.{FrameDraft}
use Rattle.dom_file.specs.declared.draft.ParamsDraft.{ParamsDraft}
use Rattle.dom_file.specs.declared.draft.ParamsDraft.TheVariants as drafts
use Rattle.dom_file.specs.declared.draft.PoolDraft.{PoolDraft}
use Rattle.dom_file.specs.declared.fault.TableName.TheVariants.{Top, Pool}
use Rattle.dom_file.specs.declared.fault.DomCause.{DomCause}
use Rattle.dom_file.specs.declared.fault.DomCause.TheVariants.{Range, Twice, Missing}
use Rattle.dom_file.specs.declared.fault.DomFault.{DomFault}
use Rattle.dom_file.specs.declared.fault.DomFault.TheVariants.{Bad}
use Rattle.dom_file.specs.declared.head.Head.{Head}
use Rattle.dom_file.specs.Steps.{◌>>=◌, at, each}
use Rattle.dom_file.specs.Values.{required_value, integer_of, number_of, number_or_default, elements_of, array_of, name_of}
use Rattle.dom_file.specs.Keys.{key_check}
use Rattle.dom_file.specs.Heads.{top_keys, format_in, granularity_in, processors_in, horizon_in, head_of}
use Rattle.dom_file.specs.Cores.{with_cores, is_core_taken, core_of, cores_of}
use Rattle.dom_file.specs.Frames.{entry_in, entry_of, entries_of, frame_entries_in, frame_with, frame_in}
use Rattle.dom_file.specs.Pools.{is_named, pool_name_in, sched_in, core_count_check, cpus_in, known_pool_keys, limit_in, params_in, pool_in, pools_in, default_pool}
use Rattle.dom_file.proofs.Passed.{bind_ok, at_ok, kept, kept_not, ok_is, number_ok, number_or_ok, name_ok, array_ok, each_ok, length-Pairs, all-Pairs, length-push, none_passes, Apart, apart-push, other_name, with_cores_ok, with_cores-le, no_core}
use Rattle.sched_base.proofs.Lists.{AllByRecursion-push}

-- ---- the top table

pub record IsCheckedHead (head : Head) : Type 0 where
  pub granularity : IsGranularity head.granularity
  pub processors : IsWithin 1 64 head.processors
  pub whole_cores : head.processors % head.granularity ≡ 0
  pub horizon : IsWithin 1 most_span head.horizon.0

granular : (g : ℕ) → 1 ≤ g → g ≤ 4 → eqb g 3 ≡ false → IsGranularity g
granular zero low high other = absurd (omega arith)
granular (suc zero) low high other = inl refl
granular (suc (suc zero)) low high other = inr (inl refl)
granular (suc (suc (suc zero))) low high other = absurd (false≢true (sym other))
granular (suc (suc (suc (suc zero)))) low high other = inr (inr refl)
granular (suc (suc (suc (suc (suc g))))) low high other = absurd (omega arith)

granularity_ok : (table : Members) (g : ℕ) → granularity_in table ≡ Ok g → IsGranularity g
granularity_ok table g e =
    let s = bind_ok (number_or_default (codes "granularity") 1 1 4 table) (λ g. cond (eqb g 3) (Err (Range (pos 3))) (Ok g)) g e in
    let inside = number_or_ok (codes "granularity") 1 1 4 table s.0 (record { least = omega arith; most = omega arith }) s.1 in
    let k = kept_not (eqb s.0 3) s.0 g (Range (pos 3)) s.2 in
    subst IsGranularity k.1 (granular s.0 inside.least inside.most k.0)

processors_ok : (g : ℕ) (table : Members) (p : ℕ) → processors_in g table ≡ Ok p → IsWithin 1 64 p × (p % g ≡ 0)
processors_ok g table p e =
    let s0 = bind_ok (required_value table (codes "processors")) (λ d. number_of 1 64 d >>= λ p0. cond (eqb (p0 % g) 0) (Ok p0) (Err (Range (pos p0)))) p e in
    let d = s0.0 in
    let s1 = bind_ok (number_of 1 64 d) (λ p0. cond (eqb (p0 % g) 0) (Ok p0) (Err (Range (pos p0)))) p s0.2 in
    let p0 = s1.0 in
    let k = kept (eqb (p0 % g) 0) p0 p (Range (pos p0)) s1.2 in
    subst (λ p. IsWithin 1 64 p × (p % g ≡ 0)) k.1 (number_ok 1 64 d p0 s1.1, eqb-true (p0 % g) 0 k.0)

horizon_ok : (table : Members) (m : Moment) → horizon_in table ≡ Ok m → IsWithin 1 most_span m.0
horizon_ok table m e =
    let s0 = bind_ok (required_value table (codes "horizon_ns")) (λ d. number_of 1 most_span d >>= λ t. Ok (moment t)) m e in
    let d = s0.0 in
    let s1 = bind_ok (number_of 1 most_span d) (λ t. Ok (moment t)) m s0.2 in
    let t = s1.0 in
    subst (λ (m : Moment). IsWithin 1 most_span m.0) (ok_is DomCause (moment t) m s1.2) (number_ok 1 most_span d t s1.1)

pub head_ok : (table : Members) (head : Head) → head_of table ≡ Ok head → IsCheckedHead head
unfolding head_of
head_ok table head e =
    let s0 = bind_ok (key_check Top 0 top_keys table) (λ known. at Top 0 (codes "format") (format_in table) >>= λ format. at Top 0 (codes "granularity") (granularity_in table) >>= λ granularity. at Top 0 (codes "processors") (processors_in granularity table) >>= λ processors. at Top 0 (codes "horizon_ns") (horizon_in table) >>= λ horizon. Ok (record { format = format; granularity = granularity; processors = processors; horizon = horizon })) head e in
    let known = s0.0 in
    let s1 = bind_ok (at Top 0 (codes "format") (format_in table)) (λ format. at Top 0 (codes "granularity") (granularity_in table) >>= λ granularity. at Top 0 (codes "processors") (processors_in granularity table) >>= λ processors. at Top 0 (codes "horizon_ns") (horizon_in table) >>= λ horizon. Ok (record { format = format; granularity = granularity; processors = processors; horizon = horizon })) head s0.2 in
    let format = s1.0 in
    let s2 = bind_ok (at Top 0 (codes "granularity") (granularity_in table)) (λ granularity. at Top 0 (codes "processors") (processors_in granularity table) >>= λ processors. at Top 0 (codes "horizon_ns") (horizon_in table) >>= λ horizon. Ok (record { format = format; granularity = granularity; processors = processors; horizon = horizon })) head s1.2 in
    let granularity = s2.0 in
    let s3 = bind_ok (at Top 0 (codes "processors") (processors_in granularity table)) (λ processors. at Top 0 (codes "horizon_ns") (horizon_in table) >>= λ horizon. Ok (record { format = format; granularity = granularity; processors = processors; horizon = horizon })) head s2.2 in
    let processors = s3.0 in
    let s4 = bind_ok (at Top 0 (codes "horizon_ns") (horizon_in table)) (λ horizon. Ok (record { format = format; granularity = granularity; processors = processors; horizon = horizon })) head s3.2 in
    let horizon = s4.0 in
    let both = processors_ok granularity table processors (at_ok Top 0 (codes "processors") (processors_in granularity table) processors s3.1) in
    let made : Head = record { format = format; granularity = granularity; processors = processors; horizon = horizon } in
    subst IsCheckedHead (ok_is DomFault made head s4.2) (record {
      granularity = granularity_ok table granularity (at_ok Top 0 (codes "granularity") (granularity_in table) granularity s2.1);
      processors = both.0;
      whole_cores = both.1;
      horizon = horizon_ok table horizon (at_ok Top 0 (codes "horizon_ns") (horizon_in table) horizon s4.1);
    })

-- ---- cores

-- how many cores the machine has
abbrev pub cores_in_all : Head → ℕ
cores_in_all head = head.processors / head.granularity

div_below : (p n g : ℕ) → IsGranularity g → n % g ≡ 0 → p < n → p / g < n / g
div_below p n g (inl is) whole inside = let w : n % 1 ≡ 0 = subst (λ g. n % g ≡ 0) is whole in rw is (omega arith)
div_below p n g (inr (inl is)) whole inside = let w : n % 2 ≡ 0 = subst (λ g. n % g ≡ 0) is whole in rw is (omega arith)
div_below p n g (inr (inr is)) whole inside = let w : n % 4 ≡ 0 = subst (λ g. n % g ≡ 0) is whole in rw is (omega arith)

core_ok : (head : Head) (pools : List PoolDraft) → IsCheckedHead head → (d : Data) (c : ℕ) → core_of head pools d ≡ Ok c → (c < cores_in_all head) × (is_core_taken pools c ≡ false)
core_ok head pools checked d c e =
    let s = bind_ok (number_of 0 (head.processors - 1) d) (λ p. cond (is_core_taken pools (p / head.granularity)) (Err Twice) (Ok (p / head.granularity))) c e in
    let k = kept_not (is_core_taken pools (s.0 / head.granularity)) (s.0 / head.granularity) c Twice s.2 in
    let inside = number_ok 0 (head.processors - 1) d s.0 s.1 in
    let some = checked.processors in
    let below = div_below s.0 head.processors head.granularity checked.granularity checked.whole_cores (omega (arith, inside.most, some.least)) in
    subst (λ c. (c < cores_in_all head) × (is_core_taken pools c ≡ false)) k.1 (below, k.0)

some_cores : (cores : List ℕ) → 1 ≤ length cores → 1 ≤ with_cores 0 cores
some_cores [] some = absurd (omega arith)
some_cores (core ∷ cores) some = omega (arith, with_cores-le cores (bit_or 0 (2 ^ core)), le_or_r 0 (2 ^ core), pow_pos core)

-- what a set of cores keeps, where none of the pools had any of them
pub record AreFreeCores (head : Head) (pools : List PoolDraft) (set : ℕ) : Type 0 where
  pub fits : set < 2 ^ cores_in_all head
  pub free : (r : ℕ) → has_core_bit set r ≡ true → is_core_taken pools r ≡ false

pub cores_ok : (head : Head) (pools : List PoolDraft) → IsCheckedHead head → (ds : List Data) (set : ℕ) → cores_of head pools ds ≡ Ok set → AreFreeCores head pools set × (1 ≤ length ds → 1 ≤ set)
cores_ok head pools checked ds set e =
    let s = bind_ok (each (core_of head pools) ds) (λ cores. Ok (with_cores 0 cores)) set e in
    let R : Data → ℕ → Type 0 = λ d c. (c < cores_in_all head) × (is_core_taken pools c ≡ false) in
    let pairs = each_ok (core_of head pools) R (core_ok head pools checked) ds s.0 s.1 in
    let all = all-Pairs R (λ c. (c < cores_in_all head) × (is_core_taken pools c ≡ false)) (λ d c r. r) ds s.0 pairs in
    let made = with_cores_ok (λ c. is_core_taken pools c ≡ false) (cores_in_all head) s.0 0 all (pow_pos (cores_in_all head)) (λ r h. absurd (no_core r h)) in
    subst (λ set. AreFreeCores head pools set × (1 ≤ length ds → 1 ≤ set)) (ok_is DomCause (with_cores 0 s.0) set s.2)
    (record { fits = made.0; free = made.1 }, λ some. some_cores s.0 (omega (arith, some, length-Pairs R ds s.0 pairs)))

few_cores_ok : (kind : SchedKind) (cores set : ℕ) → core_count_check kind cores ≡ Ok set → (cores ≡ set) × (kind ≡ kinds.Arinc653 → count_ones set ≤ 1)
few_cores_ok kinds.Credit2 cores set e = (ok_is DomCause cores set e, λ other. absurd cc)
few_cores_ok kinds.Rtds cores set e = (ok_is DomCause cores set e, λ other. absurd cc)
few_cores_ok kinds.Arinc653 cores set e =
    let k = kept_not (ltb 1 (count_ones cores)) cores set (Range (pos (count_ones cores))) e in
    (k.1, λ same. subst (λ n. count_ones n ≤ 1) k.1 (ltb-false 1 (count_ones cores) k.0))
few_cores_ok kinds.Null cores set e = (ok_is DomCause cores set e, λ other. absurd cc)

cpus_ok : (head : Head) (pools : List PoolDraft) (kind : SchedKind) (table : Members) → IsCheckedHead head → (set : ℕ) → cpus_in head pools kind table ≡ Ok set → AreFreeCores head pools set × (kind ≡ kinds.Arinc653 → count_ones set ≤ 1)
cpus_ok head pools kind table checked set e =
    let s0 = bind_ok (required_value table (codes "cpus")) (λ d. elements_of d >>= λ ds. cores_of head pools ds >>= λ cores. core_count_check kind cores) set e in
    let d = s0.0 in
    let s1 = bind_ok (elements_of d) (λ ds. cores_of head pools ds >>= λ cores. core_count_check kind cores) set s0.2 in
    let ds = s1.0 in
    let s2 = bind_ok (cores_of head pools ds) (λ cores. core_count_check kind cores) set s1.2 in
    let cores = s2.0 in
    let few = few_cores_ok kind cores set s2.2 in
    (subst (AreFreeCores head pools) few.0 (cores_ok head pools checked ds cores s2.1).0, few.1)

-- ---- frames

pub record IsFrameDraft (frame : FrameDraft) : Type 0 where
  pub major : IsWithin 1 most_span frame.major.0
  pub count : IsWithin 1 64 (length frame.entries)
  pub runs : AllByRecursion (λ (e : EntryDraft). IsWithin 1 most_span e.run.0) frame.entries
  pub fits : sum_by (λ (e : EntryDraft). e.run.0) frame.entries ≤ frame.major.0

entry_in_ok : (ds : List Data) (entry : EntryDraft) → entry_in ds ≡ Ok entry → IsWithin 1 most_span entry.run.0
entry_in_ok [] entry e = absurd cc
entry_in_ok (a ∷ []) entry e = absurd cc
entry_in_ok (a ∷ b ∷ []) entry e = absurd cc
entry_in_ok (a ∷ b ∷ c ∷ []) entry e =
    let s0 = bind_ok (integer_of a) (λ dom. integer_of b >>= λ unit. number_of 1 most_span c >>= λ run. Ok (record { dom = dom; unit = unit; run = span run })) entry e in
    let dom = s0.0 in
    let s1 = bind_ok (integer_of b) (λ unit. number_of 1 most_span c >>= λ run. Ok (record { dom = dom; unit = unit; run = span run })) entry s0.2 in
    let unit = s1.0 in
    let s2 = bind_ok (number_of 1 most_span c) (λ run. Ok (record { dom = dom; unit = unit; run = span run })) entry s1.2 in
    let run = s2.0 in
    subst (λ (entry : EntryDraft). IsWithin 1 most_span entry.run.0) (ok_is DomCause (record { dom = dom; unit = unit; run = span run }) entry s2.2) (number_ok 1 most_span c run s2.1)
entry_in_ok (a ∷ b ∷ c ∷ d ∷ ds) entry e = absurd cc

entry_ok : (d : Data) (entry : EntryDraft) → entry_of d ≡ Ok entry → IsWithin 1 most_span entry.run.0
entry_ok d entry e = let s = bind_ok (elements_of d) entry_in entry e in entry_in_ok s.0 entry s.2

abbrev run_sum : List EntryDraft → ℕ
run_sum entries = sum_by (λ (e : EntryDraft). e.run.0) entries

abbrev AreEntries : ℕ → List EntryDraft → Type 0
AreEntries major entries = IsWithin 1 64 (length entries) × AllByRecursion (λ (e : EntryDraft). IsWithin 1 most_span e.run.0) entries × (run_sum entries ≤ major)

entries_ok : (major : ℕ) (d : Data) (entries : List EntryDraft) → entries_of major d ≡ Ok entries → AreEntries major entries
entries_ok major d entries e =
    let s0 = bind_ok (array_of 1 64 d) (λ ds. each entry_of ds >>= λ made. cond (leb (run_sum made) major) (Ok made) (Err (Range (pos (run_sum made))))) entries e in
    let ds = s0.0 in
    let s1 = bind_ok (each entry_of ds) (λ made. cond (leb (run_sum made) major) (Ok made) (Err (Range (pos (run_sum made))))) entries s0.2 in
    let made = s1.0 in
    let k = kept (leb (run_sum made) major) made entries (Range (pos (run_sum made))) s1.2 in
    let R : Data → EntryDraft → Type 0 = λ d entry. IsWithin 1 most_span entry.run.0 in
    let pairs = each_ok entry_of R entry_ok ds made s1.1 in
    let count = array_ok 1 64 d ds s0.1 in
    let same = length-Pairs R ds made pairs in
    subst (AreEntries major) k.1 (record { least = omega (arith, count.least, same); most = omega (arith, count.most, same) }, all-Pairs R (λ (e : EntryDraft). IsWithin 1 most_span e.run.0) (λ d entry r. r) ds made pairs, leb-true (run_sum made) major k.0)

frame_entries_ok : (major : ℕ) (table : Members) (entries : List EntryDraft) → frame_entries_in major table ≡ Ok entries → AreEntries major entries
frame_entries_ok major table entries e = let s = bind_ok (required_value table (codes "frame")) (entries_of major) entries e in entries_ok major s.0 entries s.2

frame_with_ok : (i : ℕ) (d : Data) (table : Members) (frame : Option FrameDraft) → frame_with i d table ≡ Ok frame → IfSome frame IsFrameDraft
frame_with_ok i d table frame e =
    let s0 = bind_ok (at Pool i (codes "major_ns") (number_of 1 most_span d)) (λ major. at Pool i (codes "frame") (frame_entries_in major table) >>= λ entries. Ok (Some (record { major = span major; entries = entries }))) frame e in
    let major = s0.0 in
    let s1 = bind_ok (at Pool i (codes "frame") (frame_entries_in major table)) (λ entries. Ok (Some (record { major = span major; entries = entries }))) frame s0.2 in
    let entries = s1.0 in
    let inside = number_ok 1 most_span d major (at_ok Pool i (codes "major_ns") (number_of 1 most_span d) major s0.1) in
    let all = frame_entries_ok major table entries (at_ok Pool i (codes "frame") (frame_entries_in major table) entries s1.1) in
    subst (λ (frame : Option FrameDraft). IfSome frame IsFrameDraft) (ok_is DomFault (Some (record { major = span major; entries = entries })) frame s1.2) (record { major = inside; count = all.0; runs = all.1; fits = all.2 })

abbrev frame_at : ℕ → Members → Option Data → Option Data → Result (Option FrameDraft) DomFault
frame_at i table majors frames = elim majors [
  | Some d ↦ frame_with i d table
  | None ↦ elim frames [ None ↦ Ok None | Some d ↦ Err (Bad Pool i (codes "major_ns") Missing) ]
]

frame_at_ok : (i : ℕ) (table : Members) (majors frames : Option Data) (frame : Option FrameDraft) → frame_at i table majors frames ≡ Ok frame → IfSome frame IsFrameDraft
frame_at_ok i table (Some d) frames frame e = frame_with_ok i d table frame e
frame_at_ok i table None None frame e = subst (λ (frame : Option FrameDraft). IfSome frame IsFrameDraft) (ok_is DomFault None frame e) tt
frame_at_ok i table None (Some d) frame e = absurd cc

-- ---- parameters

-- the parameters are of this scheduler, and in range
abbrev pub DraftPasses : SchedKind → ParamsDraft → Type 0
DraftPasses kinds.Credit2 (drafts.Credit2 limit) = (limit ≡ 0) ⊎ IsWithin 100 500000 limit
DraftPasses kinds.Rtds drafts.Rtds = ⊤
DraftPasses kinds.Arinc653 (drafts.Arinc653 frame) = IfSome frame IsFrameDraft
DraftPasses kinds.Null drafts.Null = ⊤
DraftPasses kind params = ⊥

limit_in_range : (limit : ℕ) → IsWithin 0 500000 limit → (ltb 0 limit && ltb limit 100) ≡ false → (limit ≡ 0) ⊎ IsWithin 100 500000 limit
limit_in_range zero inside other = inl refl
limit_in_range (suc limit) inside other = inr (record { least = ltb-false (suc limit) 100 (rw (lt-ltb 0 (suc limit) (omega arith)) at other); most = inside.most })

limit_ok : (table : Members) (limit : ℕ) → limit_in table ≡ Ok limit → (limit ≡ 0) ⊎ IsWithin 100 500000 limit
limit_ok table limit e =
    let s = bind_ok (number_or_default (codes "ratelimit_us") 1000 0 500000 table) (λ n. cond (ltb 0 n && ltb n 100) (Err (Range (pos n))) (Ok n)) limit e in
    let inside = number_or_ok (codes "ratelimit_us") 1000 0 500000 table s.0 (record { least = omega arith; most = omega arith }) s.1 in
    let k = kept_not (ltb 0 s.0 && ltb s.0 100) s.0 limit (Range (pos s.0)) s.2 in
    subst (λ n. (n ≡ 0) ⊎ IsWithin 100 500000 n) k.1 (limit_in_range s.0 inside k.0)

params_ok : (kind : SchedKind) (i : ℕ) (table : Members) (params : ParamsDraft) → params_in kind i table ≡ Ok params → DraftPasses kind params
params_ok kinds.Credit2 i table params e =
    let s = bind_ok (at Pool i (codes "ratelimit_us") (limit_in table)) (λ limit. Ok (drafts.Credit2 limit)) params e in
    subst (DraftPasses kinds.Credit2) (ok_is DomFault (drafts.Credit2 s.0) params s.2) (limit_ok table s.0 (at_ok Pool i (codes "ratelimit_us") (limit_in table) s.0 s.1))
params_ok kinds.Rtds i table params e = subst (DraftPasses kinds.Rtds) (ok_is DomFault drafts.Rtds params e) tt
params_ok kinds.Arinc653 i table params e =
    let s = bind_ok (frame_in i table) (λ frame. Ok (drafts.Arinc653 frame)) params e in
    subst (DraftPasses kinds.Arinc653) (ok_is DomFault (drafts.Arinc653 s.0) params s.2) (frame_at_ok i table (get_member (codes "major_ns") table) (get_member (codes "frame") table) s.0 s.1)
params_ok kinds.Null i table params e = subst (DraftPasses kinds.Null) (ok_is DomFault drafts.Null params e) tt

-- ---- pools

pub record IsPoolDraft (head : Head) (pool : PoolDraft) : Type 0 where
  pub name : is_valid_name pool.name ≡ true
  pub cores : pool.cores < 2 ^ cores_in_all head
  pub params : DraftPasses pool.kind pool.params
  pub one_core : pool.kind ≡ kinds.Arinc653 → count_ones pool.cores ≤ 1

-- a pool, with a name and cores that none of these pools has
record IsNextPool (head : Head) (pools : List PoolDraft) (pool : PoolDraft) : Type 0 where
  pub draft : IsPoolDraft head pool
  pub new_name : is_named pools pool.name ≡ false
  pub free : (r : ℕ) → has_core_bit pool.cores r ≡ true → is_core_taken pools r ≡ false

pool_name_ok : (pools : List PoolDraft) (table : Members) (name : List ℕ) → pool_name_in pools table ≡ Ok name → (is_valid_name name ≡ true) × (is_named pools name ≡ false)
pool_name_ok pools table name e =
    let s0 = bind_ok (required_value table (codes "name")) (λ d. name_of d >>= λ n. cond (is_named pools n) (Err Twice) (Ok n)) name e in
    let d = s0.0 in
    let s1 = bind_ok (name_of d) (λ n. cond (is_named pools n) (Err Twice) (Ok n)) name s0.2 in
    let n = s1.0 in
    let k = kept_not (is_named pools n) n name Twice s1.2 in
    subst (λ n. (is_valid_name n ≡ true) × (is_named pools n ≡ false)) k.1 (name_ok d n s1.1, k.0)

pool_ok : (head : Head) (pools : List PoolDraft) (table : Members) → IsCheckedHead head → (pool : PoolDraft) → pool_in head pools table ≡ Ok pool → IsNextPool head pools pool
unfolding pool_in
pool_ok head pools table checked pool e =
    let s0 = bind_ok (at Pool (length pools) (codes "name") (pool_name_in pools table)) (λ name. at Pool (length pools) (codes "sched") (sched_in table) >>= λ kind. at Pool (length pools) (codes "cpus") (cpus_in head pools kind table) >>= λ cores. key_check Pool (length pools) (known_pool_keys kind) table >>= λ known. params_in kind (length pools) table >>= λ params. Ok (record { name = name; kind = kind; cores = cores; params = params })) pool e in
    let name = s0.0 in
    let s1 = bind_ok (at Pool (length pools) (codes "sched") (sched_in table)) (λ kind. at Pool (length pools) (codes "cpus") (cpus_in head pools kind table) >>= λ cores. key_check Pool (length pools) (known_pool_keys kind) table >>= λ known. params_in kind (length pools) table >>= λ params. Ok (record { name = name; kind = kind; cores = cores; params = params })) pool s0.2 in
    let kind = s1.0 in
    let s2 = bind_ok (at Pool (length pools) (codes "cpus") (cpus_in head pools kind table)) (λ cores. key_check Pool (length pools) (known_pool_keys kind) table >>= λ known. params_in kind (length pools) table >>= λ params. Ok (record { name = name; kind = kind; cores = cores; params = params })) pool s1.2 in
    let cores = s2.0 in
    let s3 = bind_ok (key_check Pool (length pools) (known_pool_keys kind) table) (λ known. params_in kind (length pools) table >>= λ params. Ok (record { name = name; kind = kind; cores = cores; params = params })) pool s2.2 in
    let known = s3.0 in
    let s4 = bind_ok (params_in kind (length pools) table) (λ params. Ok (record { name = name; kind = kind; cores = cores; params = params })) pool s3.2 in
    let params = s4.0 in
    let named = pool_name_ok pools table name (at_ok Pool (length pools) (codes "name") (pool_name_in pools table) name s0.1) in
    let set = cpus_ok head pools kind table checked cores (at_ok Pool (length pools) (codes "cpus") (cpus_in head pools kind table) cores s2.1) in
    let passes = params_ok kind (length pools) table params s4.1 in
    let made : PoolDraft = record { name = name; kind = kind; cores = cores; params = params } in
    subst (IsNextPool head pools) (ok_is DomFault made pool s4.2) (record {
      draft = record { name = named.0; cores = set.0.fits; params = passes; one_core = set.1 };
      new_name = named.1;
      free = set.0.free;
    })

-- both pools have the core
abbrev pub HaveCore : ℕ → PoolDraft → PoolDraft → Type 0
HaveCore r p q = (has_core_bit p.cores r ≡ true) × (has_core_bit q.cores r ≡ true)

abbrev pub HaveName : PoolDraft → PoolDraft → Type 0
HaveName p q = p.name ≡ q.name

pub record ArePoolDrafts (head : Head) (pools : List PoolDraft) : Type 0 where
  pub drafts : AllByRecursion (IsPoolDraft head) pools
  pub cores_apart : (r : ℕ) → Apart (HaveCore r) pools
  pub names_apart : Apart HaveName pools

next_pool : (head : Head) (pools : List PoolDraft) (pool : PoolDraft) → ArePoolDrafts head pools → IsNextPool head pools pool → ArePoolDrafts head (pools ++ pool ∷ [])
next_pool head pools pool before next =
    let taken : (r i : ℕ) (p : PoolDraft) → slice_get pools i ≡ Some p → has_core_bit p.cores r ≡ true → has_core_bit pool.cores r ≡ true → ⊥ = λ r i p at_i in_p in_pool. false≢true (sym (none_passes (λ q. has_core_bit q.cores r) pools i p (next.free r in_pool) at_i) ∙ in_p) in
    let used : (i : ℕ) (p : PoolDraft) → slice_get pools i ≡ Some p → p.name ≡ pool.name → ⊥ = λ i p at_i same. other_name p.name pool.name (none_passes (λ q. bytes_eq q.name pool.name) pools i p next.new_name at_i) same in
    record {
      drafts = AllByRecursion-push (IsPoolDraft head) pools pool before.drafts next.draft;
      cores_apart = λ r. apart-push (HaveCore r) pools pool (before.cores_apart r) (λ i p at_i both. taken r i p at_i both.0 both.1) (λ i p at_i both. taken r i p at_i both.1 both.0);
      names_apart = apart-push HaveName pools pool before.names_apart used (λ i p at_i same. used i p at_i (sym same));
    }

pools_in_ok : (head : Head) → IsCheckedHead head → (tables : List Members) (pools all : List PoolDraft) → ArePoolDrafts head pools → pools_in head pools tables ≡ Ok all → ArePoolDrafts head all × (length all ≡ length pools + length tables)
pools_in_ok head checked [] pools all before e = subst (λ all. ArePoolDrafts head all × (length all ≡ length pools + 0)) (ok_is DomFault pools all e) (before, omega arith)
pools_in_ok head checked (table ∷ tables) pools all before e =
    let s = bind_ok (pool_in head pools table) (λ pool. pools_in head (pools ++ pool ∷ []) tables) all e in
    let more = pools_in_ok head checked tables (pools ++ s.0 ∷ []) all (next_pool head pools s.0 before (pool_ok head pools table checked s.0 s.1)) s.2 in
    (more.0, omega (arith, more.1, length-push pools s.0))

pub pools_ok : (head : Head) → IsCheckedHead head → (tables : List Members) (all : List PoolDraft) → pools_in head [] tables ≡ Ok all → ArePoolDrafts head all × (length all ≡ length tables)
pools_ok head checked tables all e =
    let none : ArePoolDrafts head [] = record { drafts = tt; cores_apart = λ r i j p q at_i at_j both. absurd cc; names_apart = λ i j p q at_i at_j same. absurd cc } in
    let h = pools_in_ok head checked tables [] all none e in
    (h.0, omega (arith, h.1))

only_one : {A : Type 0} (R : A → A → Type 0) (x : A) → Apart R (x ∷ [])
only_one R x zero zero p q at_i at_j r = refl
only_one R x zero (suc j) p q at_i at_j r = absurd cc
only_one R x (suc i) j p q at_i at_j r = absurd cc

-- the pool of a file without pools
pub default_pool_ok : (head : Head) → IsCheckedHead head → ArePoolDrafts head (default_pool head ∷ [])
default_pool_ok head checked = record {
  drafts = (record { name = refl; cores = omega (arith, pow_pos (cores_in_all head)); params = inr (record { least = omega arith; most = omega arith }); one_core = λ other. absurd cc }, tt);
  cores_apart = λ r. only_one (HaveCore r) (default_pool head);
  names_apart = only_one HaveName (default_pool head);
}
