-- The texts that are made from a number are short.
use Rattle.std.proofs.Common.{◌<◌, ◌≤◌, ◌+◌, ◌-◌, ◌*◌, ◌/◌, ◌^◌, ◌++◌, ℕ, zero, suc, Bool, true, false, List, [], length, arith, length-append, codes}
use Rattle.std.specs.Prelude.{decimal, if◌then◌else◌, nat_lt, ◌==◌}
use Rattle.std.proofs.Math.Nat.{mod-lt, mul-le-mul_left}
use Rattle.std.proofs.lemmas.Fmt.{length-decimal-le}
use Rattle.work_file.specs.Load.{script_text, guests_text, params_text, name_text, home_text, domain_text, domains_text, next_number_text, numbers_text, second_pool_text, top_text, pools_text, load_domains, is_rtds_home, drawn_value, after_draw, after_script, after_domains}

-- a text has at most so many bytes
record IsShort (n : ℕ) (t : List ℕ) : Type 0 where
  most : length t ≤ n

both : {m n : ℕ} {a b : List ℕ} → IsShort m a → IsShort n b → IsShort (m + n) (a ++ b)
both {m} {n} {a} {b} p q = record { most = omega (arith, p.most, q.most, length-append a b) }

exactly : (a : List ℕ) → IsShort (length a) a
exactly a = record { most = omega arith }

within : {m n : ℕ} {a : List ℕ} → IsShort m a → m ≤ n → IsShort n a
within p less = record { most = omega (arith, p.most, less) }

either : {n : ℕ} {a b : List ℕ} (c : Bool) → IsShort n a → IsShort n b → IsShort n (if c then a else b)
either true p q = p
either false p q = q

-- a number of up to ten digits
number : (n : ℕ) → n < 10 ^ 10 → IsShort 10 (decimal n)
number n small = record { most = length-decimal-le 10 n (omega arith) small (omega (arith, small)) }

span : (k c x : ℕ) → 0 < k → k ≤ 50 → c ≤ 100000 → IsShort 10 (decimal (c * (1 + drawn_value k x)))
span k c x some few less =
    let most : drawn_value k x < k = mod-lt (x / 65536) some in
    let sum : 1 + drawn_value k x ≤ 50 = omega (arith, most, few) in
    let product : c * (1 + drawn_value k x) ≤ c * 50 = mul-le-mul_left c sum in
    number (c * (1 + drawn_value k x)) (omega (arith, product, less))

millis : (x : ℕ) → IsShort 10 (decimal (100000 * (1 + drawn_value 50 x)))
millis x = span 50 100000 x (omega arith) (omega arith) (omega arith)

script : (x : ℕ) → IsShort 24 (script_text x)
unfolding script_text
script x = both (both (both (both (exactly (codes "[")) (millis (after_draw x))) (exactly (codes ", "))) (millis (after_draw (after_draw x)))) (exactly (codes "]"))

one_script : (x : ℕ) → IsShort 62 (codes "guests = [" ++ script_text x ++ codes "]\n")
one_script x = within (both (both (exactly (codes "guests = [")) (script x)) (exactly (codes "]\n"))) (omega arith)

two_scripts : (x y : ℕ) → IsShort 62 (codes "guests = [" ++ script_text x ++ codes ", " ++ script_text y ++ codes "]\n")
two_scripts x y = both (both (both (both (exactly (codes "guests = [")) (script x)) (exactly (codes ", "))) (script y)) (exactly (codes "]\n"))

guests : (x : ℕ) → IsShort 62 (guests_text x)
unfolding guests_text
guests x = either (drawn_value 2 (after_draw x) == 0) (one_script (after_draw x)) (two_scripts (after_draw x) (after_script (after_draw x)))

params : (rt : Bool) (x : ℕ) → IsShort 50 (params_text rt x)
unfolding params_text
params false x = within (both (exactly (codes "weight = ")) (both (span 8 64 (after_draw x) (omega arith) (omega arith) (omega arith)) (exactly (codes "\n")))) (omega arith)
params true x =
    within (both (exactly (codes "period_us = 10000\nbudget_us = ")) (both (span 5 1000 (after_draw x) (omega arith) (omega arith) (omega arith)) (exactly (codes "\n")))) (omega arith)

home : (rt : Bool) → IsShort 16 (home_text rt)
home false = within (exactly (codes "pool = \"Pool-0\"\n")) (omega arith)
home true = within (exactly (codes "pool = \"rt\"\n")) (omega arith)

name : (i : ℕ) → i < 10 ^ 10 → IsShort 40 (name_text i)
unfolding name_text
name i small = within (both (exactly (codes "[[domain]]\nname = \"g")) (both (number i small) (exactly (codes "\"\n")))) (omega arith)

domain : (processors i x : ℕ) → i < 10 ^ 10 → IsShort 168 (domain_text processors i x)
unfolding domain_text
domain processors i x small = both (both (both (name i small) (home (is_rtds_home processors i))) (params (is_rtds_home processors i) x)) (guests (after_draw x))

domains : (processors n x : ℕ) → n ≤ 64 → IsShort (n * 168) (domains_text processors n x)
unfolding domains_text
domains processors zero x few = exactly []
domains processors (suc n) x few =
    within (both (domains processors n x (omega (arith, few))) (domain processors n (after_domains n x) (omega (arith, few)))) (omega arith)

next_number : (n : ℕ) → n < 10 ^ 10 → IsShort 12 (next_number_text n)
unfolding next_number_text
next_number n small = both (exactly (codes ", ")) (number n small)

numbers : (n : ℕ) → n ≤ 64 → IsShort (1 + n * 12) (numbers_text n)
unfolding numbers_text
numbers zero few = exactly (codes "0")
numbers (suc n) few = within (both (numbers n (omega (arith, few))) (next_number (n + 1) (omega (arith, few)))) (omega arith)

second_pool : (processors : ℕ) → processors ≤ 64 → IsShort 60 (second_pool_text processors)
unfolding second_pool_text
second_pool processors few =
    either (nat_lt 1 processors)
    (within (both (exactly (codes "[[pool]]\nname = \"rt\"\nsched = \"rtds\"\ncpus = [")) (both (number (processors - 1) (omega (arith, few))) (exactly (codes "]\n")))) (omega arith))
    (within (exactly []) (omega arith))

top : (processors : ℕ) → processors ≤ 64 → IsShort 120 (top_text processors)
unfolding top_text
top processors few =
    within (both (exactly (codes "format = 1\nprocessors = ")) (both (number processors (omega (arith, few)))
    (exactly (codes "\nhorizon_ns = 100000000\n[[pool]]\nname = \"Pool-0\"\nsched = \"credit2\"\ncpus = [")))) (omega arith)

pools : (processors : ℕ) → processors ≤ 64 → IsShort 1000 (pools_text processors)
unfolding pools_text
pools processors few =
    let listed : IsShort 769 (numbers_text (processors - 2)) = within (numbers (processors - 2) (omega (arith, few))) (omega (arith, few)) in
    within (both (both (both (top processors few) listed) (exactly (codes "]\n"))) (second_pool processors few)) (omega arith)

texts : (seed processors n : ℕ) → processors ≤ 64 → n ≤ 64 → IsShort 65536 (load_domains seed processors n)
texts seed processors n few least = within (both (pools processors few) (domains processors n seed least)) (omega (arith, least))

pub short_domains : (seed processors n : ℕ) → processors ≤ 64 → n ≤ 64 → length (load_domains seed processors n) ≤ 65536
short_domains seed processors n few least = (texts seed processors n few least).most
