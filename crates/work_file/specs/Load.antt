-- The texts that are made from a number: a domain file and a work file.
use Rattle.std.specs.Prelude.{ℕ, zero, suc, ◌+◌, ◌-◌, ◌*◌, ◌/◌, ◌%◌, ◌^◌, ◌==◌, ◌&&◌, Bool, true, false, List, [], ◌++◌, nat_lt, codes, if◌then◌else◌}
use Rattle.std.specs.Fmt.{decimal}

-- the state behind a draw
abbrev pub after_draw : ℕ → ℕ
after_draw x = (x * 1103515245 + 12345) % 2 ^ 31

-- the value, below k, of the draw that led to this state
abbrev pub drawn_value : ℕ → ℕ → ℕ
drawn_value k x = x / 65536 % k

-- the script of a vCPU, one span of running and one of sleep, by the two draws behind this state
unfoldable pub script_text : ℕ → List ℕ
script_text x =
    let run = after_draw x in
    let sleep = after_draw run in
    codes "[" ++ decimal (100000 * (1 + drawn_value 50 run)) ++ codes ", " ++ decimal (100000 * (1 + drawn_value 50 sleep)) ++ codes "]"

-- the state behind a script's draws
abbrev pub after_script : ℕ → ℕ
after_script x = after_draw (after_draw x)

-- the line of the vCPUs: one or two, by the draw behind this state
unfoldable pub guests_text : ℕ → List ℕ
guests_text x =
    let count = after_draw x in
    if drawn_value 2 count == 0
    then codes "guests = [" ++ script_text count ++ codes "]\n"
    else codes "guests = [" ++ script_text count ++ codes ", " ++ script_text (after_script count) ++ codes "]\n"

-- the state behind the draws of the vCPUs
unfoldable pub after_guests : ℕ → ℕ
after_guests x =
    let count = after_draw x in
    if drawn_value 2 count == 0 then after_script count else after_script (after_script count)

-- each fourth domain has its home in the second pool, where there is one
abbrev pub is_rtds_home : ℕ → ℕ → Bool
is_rtds_home processors i = nat_lt 1 processors && i % 4 == 3

-- the lines of a domain's scheduler, by the draw behind this state
unfoldable pub params_text : Bool → ℕ → List ℕ
params_text false x = codes "weight = " ++ decimal (64 * (1 + drawn_value 8 (after_draw x))) ++ codes "\n"
params_text true x = codes "period_us = 10000\nbudget_us = " ++ decimal (1000 * (1 + drawn_value 5 (after_draw x))) ++ codes "\n"

-- the name of domain i
unfoldable pub name_text : ℕ → List ℕ
name_text i = codes "[[domain]]\nname = \"g" ++ decimal i ++ codes "\"\n"

-- the home of a domain
abbrev pub home_text : Bool → List ℕ
home_text false = codes "pool = \"Pool-0\"\n"
home_text true = codes "pool = \"rt\"\n"

-- the table of domain i
unfoldable pub domain_text : ℕ → ℕ → ℕ → List ℕ
domain_text processors i x = name_text i ++ home_text (is_rtds_home processors i) ++ params_text (is_rtds_home processors i) x ++ guests_text (after_draw x)

-- the state behind a domain's draws
abbrev pub after_domain : ℕ → ℕ
after_domain x = after_guests (after_draw x)

-- the state behind the draws of the first n domains
unfoldable pub after_domains : ℕ → ℕ → ℕ
after_domains zero x = x
after_domains (suc n) x = after_domain (after_domains n x)

-- the tables of the first n domains
unfoldable pub domains_text : ℕ → ℕ → ℕ → List ℕ
domains_text processors zero x = []
domains_text processors (suc n) x = domains_text processors n x ++ domain_text processors n (after_domains n x)

-- one number more
unfoldable pub next_number_text : ℕ → List ℕ
next_number_text n = codes ", " ++ decimal n

-- the numbers 0 to n, joined by commas
unfoldable pub numbers_text : ℕ → List ℕ
numbers_text zero = codes "0"
numbers_text (suc n) = numbers_text n ++ next_number_text (n + 1)

-- the second pool has the last processor, where there are two or more
unfoldable pub second_pool_text : ℕ → List ℕ
second_pool_text processors =
    if nat_lt 1 processors then codes "[[pool]]\nname = \"rt\"\nsched = \"rtds\"\ncpus = [" ++ decimal (processors - 1) ++ codes "]\n" else []

-- the top of the domain file, up to the processors of the first pool
unfoldable pub top_text : ℕ → List ℕ
top_text processors = codes "format = 1\nprocessors = " ++ decimal processors ++ codes "\nhorizon_ns = 100000000\n[[pool]]\nname = \"Pool-0\"\nsched = \"credit2\"\ncpus = ["

-- the top of the domain file, and its pools: the first has the processors but the last, or the one that there is
unfoldable pub pools_text : ℕ → List ℕ
pools_text processors = top_text processors ++ numbers_text (processors - 2) ++ codes "]\n" ++ second_pool_text processors

-- the stall at 9 milliseconds times k, by the two draws behind this state
unfoldable pub stall_text : ℕ → ℕ → ℕ → List ℕ
stall_text processors k x =
    let cpu = after_draw x in
    let span = after_draw cpu in
    decimal (9000000 * k) ++ codes " stall " ++ decimal (drawn_value processors cpu) ++ codes " " ++ decimal (100000 * (1 + drawn_value 30 span)) ++ codes "\n"

-- the state behind the draws of the first n stalls
unfoldable pub after_stalls : ℕ → ℕ → ℕ
after_stalls zero x = x
after_stalls (suc n) x = after_script (after_stalls n x)

-- the first n stalls
unfoldable pub stalls_text : ℕ → ℕ → ℕ → List ℕ
stalls_text processors zero x = []
stalls_text processors (suc n) x = stalls_text processors n x ++ stall_text processors (suc n) (after_stalls n x)

-- the domain file of the number
abbrev pub load_domains : ℕ → ℕ → ℕ → List ℕ
load_domains seed processors domains = pools_text processors ++ domains_text processors domains seed

-- the work file of the number, whose draws come behind those of the domains: ten stalls
abbrev pub load_work : ℕ → ℕ → ℕ → List ℕ
load_work seed processors domains = stalls_text processors 10 (after_domains domains seed)
