-- Options: words that stand in any order, each once.
use Rattle.std.specs.Prelude.{◌≡◌, ℕ, ◌+◌, Bool, true, false, List, [], ◌∷◌, Option, Some, None, Result, Ok, Err, option_map, is_none, bytes_eq, codes, take, drop, if◌then◌else◌}
use Rattle.std.specs.Option.{IfSome, option_map_or}
use Rattle.sched_base.specs.Names.{is_valid_name}
use Rattle.sched_model.specs.CheckedMachine.{IsCheckedWhich, IsGivenNumber}
use Rattle.sched_model.specs.declared.command.Syntax.{Syntax}
use Rattle.xl_words.specs.declared.options.NewPool.{NewPool}
use Rattle.xl_words.specs.declared.options.Credit2OfDomain.{Credit2OfDomain}
use Rattle.xl_words.specs.declared.options.Credit2OfPool.{Credit2OfPool}
use Rattle.xl_words.specs.declared.options.RtdsOfDomain.{RtdsOfDomain}
use Rattle.xl_words.specs.Values.{number_of, name_of, which_of, vcpu_of, switch_of, kind_of}

-- no reading: no command's words go on with the word at this place
abbrev pub at : {X : Type 0} → ℕ → Result X Syntax
at place = Err (record { place = place })

-- which options a command has: those of one word, and those that a value follows. An option that is given already is none
pub record Rules (G : Type 0) : Type 0 where
  pub alone : G → List ℕ → Option G
  pub takes : G → List ℕ → Bool
  pub value : G → List ℕ → List ℕ → Option G

-- the options that the words give beside those that are given, with the count of all words; or the place of the first word that is no option or no value
abbrev pub options : {G : Type 0} → Rules G → ℕ → G → List (List ℕ) → Result (G × ℕ) Syntax
options rules place g [] = Ok (g, place)
options rules place g (word ∷ []) =
    option_map_or (λ h. Ok (h, place + 1)) (rules.alone g word) (if rules.takes g word then at (place + 1) else at place)
options rules place g (word ∷ value ∷ words) =
    option_map_or (λ h. options rules (place + 1) h (value ∷ words)) (rules.alone g word)
    (if rules.takes g word then option_map_or (λ h. options rules (place + 2) h words) (rules.value g word value) (at (place + 1)) else at place)

-- 1 for an option that is not given yet
abbrev pub open_one : {X : Type 0} → Option X → ℕ
open_one None = 1
open_one (Some x) = 0

-- an option of cpupool-create that may still be given, by its word: name=NAME or sched=SCHED
abbrev pub new_pool_alone : NewPool → List ℕ → Option NewPool
new_pool_alone g word =
    if bytes_eq (take 5 word) (codes "name=")
    then (if is_none g.name then option_map (λ name. record g { name = Some name }) (name_of (drop 5 word)) else None)
    else (if bytes_eq (take 6 word) (codes "sched=")
    then (if is_none g.sched then option_map (λ kind. record g { sched = Some kind }) (kind_of (drop 6 word)) else None)
    else None)

-- the options of cpupool-create, each of which is one word
abbrev pub new_pool_rules : Rules NewPool
new_pool_rules = record { alone = new_pool_alone; takes = λ g word. false; value = λ g word value. None }

-- how many options of cpupool-create are not given yet
abbrev pub new_pool_open : NewPool → ℕ
new_pool_open g = open_one g.name + open_one g.sched

-- the options of sched-credit2 of a domain that may still be given: -d DOM, -w W and -c C
abbrev pub credit2_domain_takes : Credit2OfDomain → List ℕ → Bool
credit2_domain_takes g word =
    if bytes_eq word (codes "-d") then is_none g.dom
    else (if bytes_eq word (codes "-w") then is_none g.weight
    else (if bytes_eq word (codes "-c") then is_none g.cap else false))

-- what an option of a domain gives with the word behind it
abbrev pub credit2_domain_value : Credit2OfDomain → List ℕ → List ℕ → Option Credit2OfDomain
credit2_domain_value g word value =
    if bytes_eq word (codes "-d") then option_map (λ dom. record g { dom = Some dom }) (which_of value)
    else (if bytes_eq word (codes "-w") then option_map (λ n. record g { weight = Some n }) (number_of value)
    else option_map (λ n. record g { cap = Some n }) (number_of value))

-- the options of sched-credit2 of a domain, each of which a value follows
abbrev pub credit2_domain_rules : Rules Credit2OfDomain
credit2_domain_rules = record { alone = λ g word. None; takes = credit2_domain_takes; value = credit2_domain_value }

-- how many of them are not given yet
abbrev pub credit2_domain_open : Credit2OfDomain → ℕ
credit2_domain_open g = open_one g.dom + open_one g.weight + open_one g.cap

-- the option of sched-credit2 of a pool that stands alone: -s
abbrev pub credit2_pool_alone : Credit2OfPool → List ℕ → Option Credit2OfPool
credit2_pool_alone g word =
    if bytes_eq word (codes "-s") then (if is_none g.of_pool then Some (record g { of_pool = Some tt }) else None) else None

-- those of a pool that a value follows: -p POOL and -r US
abbrev pub credit2_pool_takes : Credit2OfPool → List ℕ → Bool
credit2_pool_takes g word =
    if bytes_eq word (codes "-p") then is_none g.pool
    else (if bytes_eq word (codes "-r") then is_none g.limit else false)

-- what such an option gives with the word behind it
abbrev pub credit2_pool_value : Credit2OfPool → List ℕ → List ℕ → Option Credit2OfPool
credit2_pool_value g word value =
    if bytes_eq word (codes "-p") then option_map (λ pool. record g { pool = Some pool }) (which_of value)
    else option_map (λ n. record g { limit = Some n }) (number_of value)

-- the options of sched-credit2 of a pool
abbrev pub credit2_pool_rules : Rules Credit2OfPool
credit2_pool_rules = record { alone = credit2_pool_alone; takes = credit2_pool_takes; value = credit2_pool_value }

-- how many of them are not given yet
abbrev pub credit2_pool_open : Credit2OfPool → ℕ
credit2_pool_open g = open_one g.of_pool + open_one g.pool + open_one g.limit

-- the options of sched-rtds that may still be given: -d DOM, -v VCPU or all, -p US, -b US and -e 0 or 1
abbrev pub rtds_takes : RtdsOfDomain → List ℕ → Bool
rtds_takes g word =
    if bytes_eq word (codes "-d") then is_none g.dom
    else (if bytes_eq word (codes "-v") then is_none g.vcpu
    else (if bytes_eq word (codes "-p") then is_none g.period
    else (if bytes_eq word (codes "-b") then is_none g.budget
    else (if bytes_eq word (codes "-e") then is_none g.extra else false))))

-- what an option of sched-rtds gives with the word behind it
abbrev pub rtds_value : RtdsOfDomain → List ℕ → List ℕ → Option RtdsOfDomain
rtds_value g word value =
    if bytes_eq word (codes "-d") then option_map (λ dom. record g { dom = Some dom }) (which_of value)
    else (if bytes_eq word (codes "-v") then option_map (λ vcpu. record g { vcpu = Some vcpu }) (vcpu_of value)
    else (if bytes_eq word (codes "-p") then option_map (λ n. record g { period = Some n }) (number_of value)
    else (if bytes_eq word (codes "-b") then option_map (λ n. record g { budget = Some n }) (number_of value)
    else option_map (λ yes. record g { extra = Some yes }) (switch_of value))))

-- the options of sched-rtds, each of which a value follows
abbrev pub rtds_rules : Rules RtdsOfDomain
rtds_rules = record { alone = λ g word. None; takes = rtds_takes; value = rtds_value }

-- how many of them are not given yet
abbrev pub rtds_open : RtdsOfDomain → ℕ
rtds_open g = open_one g.dom + open_one g.vcpu + open_one g.period + open_one g.budget + open_one g.extra

-- the values of the options are in their ranges
pub record IsCheckedNewPool (g : NewPool) : Type 0 where
  pub name : IfSome g.name (λ name. is_valid_name name ≡ true)

-- the same of those of a domain
pub record IsCheckedCredit2OfDomain (g : Credit2OfDomain) : Type 0 where
  pub dom : IfSome g.dom IsCheckedWhich
  pub weight : IsGivenNumber g.weight
  pub cap : IsGivenNumber g.cap

-- the same of those of a pool
pub record IsCheckedCredit2OfPool (g : Credit2OfPool) : Type 0 where
  pub pool : IfSome g.pool IsCheckedWhich
  pub limit : IsGivenNumber g.limit

-- the same of those of sched-rtds
pub record IsCheckedRtds (g : RtdsOfDomain) : Type 0 where
  pub dom : IfSome g.dom IsCheckedWhich
  pub vcpu : IfSome g.vcpu IsGivenNumber
  pub period : IsGivenNumber g.period
  pub budget : IsGivenNumber g.budget
