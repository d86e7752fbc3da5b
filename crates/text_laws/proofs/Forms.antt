-- The forms of the commands are placed.
use Rattle.std.proofs.Common.{◌≡◌, ℕ, Bool, true, false, List, [], ◌∷◌, Option, Some, None, Ok, cond, refl}
use Rattle.std.specs.Prelude.{bytes_eq, codes, unwrap_or}
use Rattle.sched_model.specs.declared.command.Command.{Command}
use Rattle.sched_model.specs.declared.command.Command.TheVariants as command
use Rattle.sched_model.specs.declared.command.Which.{Which}
use Rattle.sched_model.specs.declared.command.Which.TheVariants.{Number}
use Rattle.sched_model.specs.declared.config.SchedKind.{SchedKind}
use Rattle.xl_words.specs.Values.{number_of, name_of, which_of, vcpu_of, entries_of, cpus_of}
use Rattle.xl_words.specs.Options.{at, new_pool_rules, credit2_domain_rules, credit2_pool_rules, rtds_rules}
use Rattle.xl_words.specs.Grammar.{◌>>=◌, field, nothing_more, needed_value, pool_create, pool_destroy, pool_rename, cpu_add, cpu_remove, migrate, pause, unpause, credit2_domain, credit2_pool, sched_rtds, arinc_set, vcpu_pin}
use Rattle.text_laws.proofs.Placed.{IsPlaced, Reads, place_of, placed_end, placed_field}
use Rattle.text_laws.proofs.Chosen.{all_read, placed_options}

-- a word that spells a number, a pool or a domain, and one that spells a name
abbrev zero_word : List ℕ
zero_word = 48 ∷ []

abbrev name_word : List ℕ
name_word = 97 ∷ []

pub placed_destroy : IsPlaced 1 pool_destroy
unfolding pool_destroy
placed_destroy = placed_field 1 which_of (λ pool ws. nothing_more 2 ws >>= λ end. Ok (command.PoolDestroy pool)) (record {
  word = zero_word;
  value = Number 0;
  reads = refl;
  placed = λ w x e. placed_end 2 (command.PoolDestroy x);
})

pub placed_pause : IsPlaced 1 pause
unfolding pause
placed_pause = placed_field 1 which_of (λ dom ws. nothing_more 2 ws >>= λ end. Ok (command.Pause dom)) (record {
  word = zero_word;
  value = Number 0;
  reads = refl;
  placed = λ w x e. placed_end 2 (command.Pause x);
})

pub placed_unpause : IsPlaced 1 unpause
unfolding unpause
placed_unpause = placed_field 1 which_of (λ dom ws. nothing_more 2 ws >>= λ end. Ok (command.Unpause dom)) (record {
  word = zero_word;
  value = Number 0;
  reads = refl;
  placed = λ w x e. placed_end 2 (command.Unpause x);
})

-- two fields
two_fields : {X Y : Type 0} (read : List ℕ → Option X) (other : List ℕ → Option Y) (c : X → Y → Command) (v w : List ℕ) (x : X) (y : Y) → read v ≡ Some x → other w ≡ Some y
    → IsPlaced 1 (λ ws. field read 1 ws >>= λ one. field other 2 one.1 >>= λ two. nothing_more 3 two.1 >>= λ end. Ok (c one.0 two.0))
two_fields read other c v w x y e f =
    placed_field 1 read (λ one ws. field other 2 ws >>= λ two. nothing_more 3 two.1 >>= λ end. Ok (c one two.0)) (record {
      word = v;
      value = x;
      reads = e;
      placed = λ u one h. placed_field 2 other (λ two ws. nothing_more 3 ws >>= λ end. Ok (c one two)) (record { word = w; value = y; reads = f; placed = λ t two i. placed_end 3 (c one two) });
    })

-- three fields
three_fields : {X Y Z : Type 0} (read : List ℕ → Option X) (other : List ℕ → Option Y) (last : List ℕ → Option Z) (c : X → Y → Z → Command) (u v w : List ℕ) (x : X) (y : Y) (z : Z) → read u ≡ Some x → other v ≡ Some y → last w ≡ Some z
    → IsPlaced 1 (λ ws. field read 1 ws >>= λ one. field other 2 one.1 >>= λ two. field last 3 two.1 >>= λ three. nothing_more 4 three.1 >>= λ end. Ok (c one.0 two.0 three.0))
three_fields read other last c u v w x y z e f g =
    placed_field 1 read (λ one ws. field other 2 ws >>= λ two. field last 3 two.1 >>= λ three. nothing_more 4 three.1 >>= λ end. Ok (c one two.0 three.0)) (record {
      word = u;
      value = x;
      reads = e;
      placed = λ q one h. placed_field 2 other (λ two ws. field last 3 ws >>= λ three. nothing_more 4 three.1 >>= λ end. Ok (c one two three.0)) (record {
        word = v;
        value = y;
        reads = f;
        placed = λ r two i. placed_field 3 last (λ three ws. nothing_more 4 ws >>= λ end. Ok (c one two three)) (record { word = w; value = z; reads = g; placed = λ s three j. placed_end 4 (c one two three) });
      });
    })

pub placed_rename : IsPlaced 1 pool_rename
unfolding pool_rename
placed_rename = two_fields which_of name_of command.PoolRename zero_word name_word (Number 0) name_word refl refl

pub placed_add : IsPlaced 1 cpu_add
unfolding cpu_add
placed_add = two_fields which_of number_of command.CpuAdd zero_word zero_word (Number 0) 0 refl refl

pub placed_remove : IsPlaced 1 cpu_remove
unfolding cpu_remove
placed_remove = two_fields which_of number_of command.CpuRemove zero_word zero_word (Number 0) 0 refl refl

pub placed_migrate : IsPlaced 1 migrate
unfolding migrate
placed_migrate = two_fields which_of which_of command.Migrate zero_word zero_word (Number 0) (Number 0) refl refl

pub placed_set : IsPlaced 1 arinc_set
unfolding arinc_set
placed_set =
    three_fields which_of number_of entries_of command.ArincSet zero_word zero_word (48 ∷ 58 ∷ 48 ∷ 58 ∷ 48 ∷ []) (Number 0) 0 (record { dom = Number 0; unit = 0; run = 0 } ∷ []) refl refl refl

pub placed_pin : IsPlaced 1 vcpu_pin
unfolding vcpu_pin
placed_pin = three_fields which_of vcpu_of cpus_of command.Pin zero_word zero_word (codes "all") (Number 0) (Some 0) [] refl refl refl

-- where a name is missing it is missed at the end
name_at_end : (name : Option (List ℕ)) (kind : Option SchedKind) (p q : ℕ) → (needed_value p name >>= λ n. Ok (command.PoolCreate n kind)) ≡ at q → p ≡ q
name_at_end None kind p q e = place_of p q e
name_at_end (Some n) kind p q e = absurd cc

name_ends : (k : ℕ) (name : Option (List ℕ)) (kind : Option SchedKind) → Reads (all_read new_pool_rules (λ g p. needed_value p g.name >>= λ n. Ok (command.PoolCreate n g.sched)) k (record { name = name; sched = kind }))
name_ends k None kind = (codes "name=a" ∷ [], command.PoolCreate name_word kind, refl)
name_ends k (Some n) kind = ([], command.PoolCreate n kind, refl)

pub placed_create : IsPlaced 1 pool_create
unfolding pool_create
placed_create ws p e =
    placed_options new_pool_rules (λ g p. needed_value p g.name >>= λ n. Ok (command.PoolCreate n g.sched)) (record {
      at_end = λ g p q e. name_at_end g.name g.sched p q e;
      values = λ g w e. absurd cc;
      ends = λ k g. name_ends k g.name g.sched;
    }) ws 1 p (record { name = None; sched = None }) e

-- the same of the domain
dom_at_end : (dom : Option Which) (c : Which → Command) (p q : ℕ) → (needed_value p dom >>= λ d. Ok (c d)) ≡ at q → p ≡ q
dom_at_end None c p q e = place_of p q e
dom_at_end (Some d) c p q e = absurd cc

some_of_two : {G : Type 0} (a b : Bool) (x y z : G) → (h : G) × (cond a (Some x) (cond b (Some y) (Some z)) ≡ Some h)
some_of_two true b x y z = (x, refl)
some_of_two false true x y z = (y, refl)
some_of_two false false x y z = (z, refl)

credit2_ends : (k : ℕ) (dom : Option Which) (weight cap : Option ℕ) → Reads (all_read credit2_domain_rules (λ g p. needed_value p g.dom >>= λ d. Ok (command.Credit2Dom d g.weight g.cap)) k (record { dom = dom; weight = weight; cap = cap }))
credit2_ends k None weight cap = (codes "-d" ∷ zero_word ∷ [], command.Credit2Dom (Number 0) weight cap, refl)
credit2_ends k (Some d) weight cap = ([], command.Credit2Dom d weight cap, refl)

pub placed_credit2_domain : IsPlaced 1 credit2_domain
unfolding credit2_domain
placed_credit2_domain ws p e =
    placed_options credit2_domain_rules (λ g p. needed_value p g.dom >>= λ d. Ok (command.Credit2Dom d g.weight g.cap)) (record {
      at_end = λ g p q e. dom_at_end g.dom (λ d. command.Credit2Dom d g.weight g.cap) p q e;
      values = λ g w e.
          (let h = some_of_two (bytes_eq w (codes "-d")) (bytes_eq w (codes "-w")) (record g { dom = Some (Number 0) }) (record g { weight = Some 0 }) (record g { cap = Some 0 }) in
          (zero_word, h.0, h.1));
      ends = λ k g. credit2_ends k g.dom g.weight g.cap;
    }) ws 1 p (record { dom = None; weight = None; cap = None }) e

some_of_one : {G : Type 0} (a : Bool) (x y : G) → (h : G) × (cond a (Some x) (Some y) ≡ Some h)
some_of_one true x y = (x, refl)
some_of_one false x y = (y, refl)

pool_at_end : (of_pool : Option (Unit {0})) (pool : Option Which) (limit : Option ℕ) (p q : ℕ) → (needed_value p of_pool >>= λ o. needed_value p pool >>= λ d. Ok (command.Credit2Pool d limit)) ≡ at q → p ≡ q
pool_at_end None pool limit p q e = place_of p q e
pool_at_end (Some o) None limit p q e = place_of p q e
pool_at_end (Some o) (Some d) limit p q e = absurd cc

pool_ends : (k : ℕ) (of_pool : Option (Unit {0})) (pool : Option Which) (limit : Option ℕ)
    → Reads (all_read credit2_pool_rules (λ g p. needed_value p g.of_pool >>= λ o. needed_value p g.pool >>= λ d. Ok (command.Credit2Pool d g.limit)) k (record { of_pool = of_pool; pool = pool; limit = limit }))
pool_ends k None None limit = (codes "-s" ∷ codes "-p" ∷ zero_word ∷ [], command.Credit2Pool (Number 0) limit, refl)
pool_ends k None (Some d) limit = (codes "-s" ∷ [], command.Credit2Pool d limit, refl)
pool_ends k (Some o) None limit = (codes "-p" ∷ zero_word ∷ [], command.Credit2Pool (Number 0) limit, refl)
pool_ends k (Some o) (Some d) limit = ([], command.Credit2Pool d limit, refl)

pub placed_credit2_pool : IsPlaced 1 credit2_pool
unfolding credit2_pool
placed_credit2_pool ws p e =
    placed_options credit2_pool_rules (λ g p. needed_value p g.of_pool >>= λ o. needed_value p g.pool >>= λ d. Ok (command.Credit2Pool d g.limit)) (record {
      at_end = λ g p q e. pool_at_end g.of_pool g.pool g.limit p q e;
      values = λ g w e. (let h = some_of_one (bytes_eq w (codes "-p")) (record g { pool = Some (Number 0) }) (record g { limit = Some 0 }) in (zero_word, h.0, h.1));
      ends = λ k g. pool_ends k g.of_pool g.pool g.limit;
    }) ws 1 p (record { of_pool = None; pool = None; limit = None }) e

some_of_four : {G : Type 0} (a b c d : Bool) (u v x y z : G) → (h : G) × (cond a (Some u) (cond b (Some v) (cond c (Some x) (cond d (Some y) (Some z)))) ≡ Some h)
some_of_four true b c d u v x y z = (u, refl)
some_of_four false true c d u v x y z = (v, refl)
some_of_four false false true d u v x y z = (x, refl)
some_of_four false false false true u v x y z = (y, refl)
some_of_four false false false false u v x y z = (z, refl)

rtds_ends : (k : ℕ) (dom : Option Which) (vcpu : Option (Option ℕ)) (period budget : Option ℕ) (extra : Option Bool)
    → Reads (all_read rtds_rules (λ g p. needed_value p g.dom >>= λ d. Ok (command.RtdsDom d (unwrap_or g.vcpu None) g.period g.budget g.extra)) k (record { dom = dom; vcpu = vcpu; period = period; budget = budget; extra = extra }))
rtds_ends k None vcpu period budget extra = (codes "-d" ∷ zero_word ∷ [], command.RtdsDom (Number 0) (unwrap_or vcpu None) period budget extra, refl)
rtds_ends k (Some d) vcpu period budget extra = ([], command.RtdsDom d (unwrap_or vcpu None) period budget extra, refl)

pub placed_rtds : IsPlaced 1 sched_rtds
unfolding sched_rtds
placed_rtds ws p e =
    placed_options rtds_rules (λ g p. needed_value p g.dom >>= λ d. Ok (command.RtdsDom d (unwrap_or g.vcpu None) g.period g.budget g.extra)) (record {
      at_end = λ g p q e. dom_at_end g.dom (λ d. command.RtdsDom d (unwrap_or g.vcpu None) g.period g.budget g.extra) p q e;
      values = λ g w e.
          (let h = some_of_four (bytes_eq w (codes "-d")) (bytes_eq w (codes "-v")) (bytes_eq w (codes "-p")) (bytes_eq w (codes "-b")) (record g { dom = Some (Number 0) }) (record g { vcpu = Some (Some 0) }) (record g { period = Some 0 }) (record g { budget = Some 0 }) (record g { extra = Some false }) in
          (zero_word, h.0, h.1));
      ends = λ k g. rtds_ends k g.dom g.vcpu g.period g.budget g.extra;
    }) ws 1 p (record { dom = None; vcpu = None; period = None; budget = None; extra = None }) e
